-- What Horizon's inner functions find: code-level definitions; no promise of a public call cites them. Assumes nothing.
use Rattle.std.specs.Prelude.{ℕ, ◌-◌, ◌≤◌, ◌<◌, min, ◌≡◌, ◌⊎◌, Bool, cond, leb}
use Rattle.lists.specs.Lists.{never}
use Rattle.columns.specs.Columns.{Run, key, up_to}
use Rattle.columns.proofs.Runs.{Longest}
use Rattle.horizon.specs.declared.Seen.{Seen}

-- the least key once the columns from `from` up to `to` are tried too: they are a run, which counts where it is wide enough
abbrev pub tried : ℕ → ℕ → ℕ → ℕ → ℕ
tried w from to best = cond (leb w (to - from)) (min (key (up_to from to)) best) best

-- columns released by t
abbrev pub released_by : (ℕ → ℕ) → ℕ → ℕ → Bool
released_by rel t c = leb (rel c) t

-- a longest run of released columns that is wide enough
pub record FitsAt (rel : ℕ → ℕ) (W w t : ℕ) (r : Run) : Type 0 where
  pub longest : Longest (released_by rel t) 1 W r
  pub wide : w ≤ r.size

-- the key of such a run
pub record KeyIs (rel : ℕ → ℕ) (W w t best : ℕ) : Type 0 where
  pub run : Run
  pub fits : FitsAt rel W w t run
  pub same : best ≡ key run

-- the release of a column, after t
pub record NextIs (rel : ℕ → ℕ) (W t next : ℕ) : Type 0 where
  pub column : ℕ
  pub from_one : 1 ≤ column
  pub on-device : column ≤ W
  pub later : t < next
  pub same : rel column ≡ next

-- what one pass at t finds: the least key, and the next release
pub record Looked (rel : ℕ → ℕ) (W w t : ℕ) (o : Seen) : Type 0 where
  pub least : (r : Run) → FitsAt rel W w t r → o.key ≤ key r
  pub key : (o.key ≡ never) ⊎ KeyIs rel W w t o.key
  pub soonest : (c : ℕ) → 1 ≤ c → c ≤ W → t < rel c → o.next ≤ rel c
  pub next : (o.next ≡ never) ⊎ NextIs rel W t o.next
