-- Openings over any kind of place: a column of the device here, a cell of a later model. Assumes nothing.
use Rattle.std.specs.Prelude.{ℕ, zero, suc, Bool, not, ◌&&◌, ◌||◌, List, [], ◌++◌, map, ltb, eqb, take}
use Rattle.lists.specs.Lists.{keep, some?, range, each, last_or}

-- a start and a place: "a pair (s, c)"
pub record Pair (P : Type 0) : Type 0 where
  pub start : ℕ
  pub place : P

-- "(s, c)"
abbrev pub pair : {P : Type 0} → ℕ → P → Pair P
pair s p = record { start = s; place = p }

-- what the openings are read from
pub record Ways (P A : Type 0) : Type 0 where
  -- the things that can be in the way, and whether one is, of a stay from a start at a place
  pub things : List A
  pub in_way : ℕ → P → A → Bool
  -- the places in their order
  pub places : List P
  pub before : P → P → Bool
  -- the first start, and how many starts there are
  pub from : ℕ
  pub starts : ℕ

module _ {P A : Type 0} (w : Ways P A) where
  -- nothing is in the way of the pair
  unfoldable pub is_open : Pair P → Bool
  is_open q = not (some? (w.in_way q.start q.place) w.things)

  -- every start with every place, by start and then place
  unfoldable pub pairs_in : List (Pair P)
  pairs_in = each (range w.from w.starts) (λ s. map (pair s) w.places)

  -- the openings, by start and then place
  unfoldable pub openings_in : List (Pair P)
  openings_in = keep is_open pairs_in

  -- q comes strictly after p, by start and then place
  unfoldable pub after : Pair P → Pair P → Bool
  after p q = ltb p.start q.start || (eqb p.start q.start && w.before p.place q.place)

  -- the openings strictly after a pair
  unfoldable pub openings_after : Pair P → List (Pair P)
  openings_after p = keep (after p) openings_in

  -- what asking n times gives, room for k a time, each time after the last pair given before
  unfoldable pub asked_on : ℕ → ℕ → Pair P → List (Pair P)
  asked_on zero k p = []
  asked_on (suc n) k p = take k (openings_after p) ++ asked_on n k (last_or p (take k (openings_after p)))
