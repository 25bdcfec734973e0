-- The columns of an instant: gathered task by task and word by word, they are the held ones. Assumes nothing.
use Rattle.std.proofs.Common.{◌≡◌, ℕ, ◌+◌, ◌-◌, ◌*◌, ◌^◌, ◌<◌, ◌≤◌, Bool, true, false, cond, ◌&&◌, ◌||◌, ltb, leb, ◌⊎◌, List, get_or, sym, ap, ◌∙◌, ap₂, inl, inr, arith, le→leb, ltb→lt, lt→ltb, leb→le, le-ltb, lt-ltb}
use mathlib.Core.Bool.{or_assoc, or-true, or-false}
use lib.Bits.{bit_and, bit_or}
use Rattle.lists.specs.Lists.{some?, range}
use Rattle.lists.proofs.Bools.{and_l, and_i, same_bool}
use Rattle.lists.proofs.Append.{some_same, some-map, some-range-more}
use Rattle.lists.proofs.Members.{range-in}
use Rattle.tasks.specs.Tasks.{covers}
use Rattle.tasks.proofs.Laws.{overlap-either}
use Rattle.live.specs.Live.{at, from_at, finish_at, left_at, past_at, task_at, tasks_of, OnDevice, After, Lent}
use Rattle.live.proofs.Laws.{after-stays, some_after}
use Rattle.words.specs.Words.{bit}
use Rattle.words.proofs.Digits.{bit-or, bit-and, bit-ones, bit-of-zero}
use Rattle.words.proofs.Columns.{column-at, by-words}
use Rattle.held.specs.Held.{in_stay, in_word, HeldWord, Edge, Held}

or_comm : (a b : Bool) → (a || b) ≡ (b || a)
or_comm true b = sym (or-true b)
or_comm false b = sym (or-false b)

-- past the width, and a column at all: past the width
pub edge-past : (W c : ℕ) → c ≤ 256 → (leb (W + 1) c && ltb c 257) ≡ ltb W c
edge-past W c h =
    same_bool (leb (W + 1) c && ltb c 257) (ltb W c)
    (λ b. lt→ltb W c (omega (arith, leb→le (W + 1) c (and_l (leb (W + 1) c) (ltb c 257) b))))
    (λ b. let l = ltb→lt W c b in and_i (leb (W + 1) c) (ltb c 257) (le→leb (W + 1) c (omega arith)) (lt→ltb c 257 (omega arith)))

-- a word of all ones, or zero, by a test
pub picked : (b : Bool) (j : ℕ) → j < 64 → bit (cond b (2 ^ 64 - 1) 0) j ≡ b
picked true j h = bit-ones 64 j ∙ lt-ltb j 64 h
picked false j h = bit-of-zero j

-- a word of the first row
pub first-row : (m : List ℕ) (i : ℕ) → get_or m i 0 ≡ at 0 m i
first-row m i = ap (λ x. get_or m x 0) (let z : i ≡ 0 + i = omega arith in z)

module _ {live m : List ℕ} {end k word : ℕ} where
  pub word_none : HeldWord live m end k 0 word word
  unfolding some? range
  word_none = record { digits = λ j h. sym (or-false (bit word j)) }

  -- ONE TASK MORE in a word, which has v of it; `mask` is all ones where it starts before `end`
  pub word_more : {i held v : ℕ} (mask : ℕ) → HeldWord live m end k i word held → ((j : ℕ) → j < 64 → bit mask j ≡ ltb (from_at live i) end) → v ≡ at k m i
      → HeldWord live m end k (i + 1) word (bit_or held (bit_and mask v))
  word_more {i} {held} {v} mask h g z = record {
    digits = λ j u.
        let p = in_word live m end k j in
        bit-or held (bit_and mask v) j ∙ ap₂ ◌||◌ (h.digits j u) (bit-and mask v j ∙ ap₂ ◌&&◌ (g j u) (ap (λ x. bit x j) z))
        ∙ or_assoc (bit word j) (some? p (range 0 i)) (p i) ∙ ap (λ b. bit word j || b) (sym (some-range-more p i));
  }

-- The first n of `count` tasks are those that finish after t
module _ (W count n : ℕ) (live m : List ℕ) (t e : ℕ) (h : 1 ≤ e) (k : Lent W count live m) (a : After live count t n) where
  o : OnDevice W count live
  o = k.device

  -- a task is in the way of a column exactly if it has not finished, starts before the end of the stay, and has the column
  in-way : (c i : ℕ) → i < count
      → in_stay t e c (task_at live i) ≡ ((ltb t (finish_at live i) && ltb (from_at live i) (t + e)) && (leb (left_at live i) c && ltb c (past_at live i)))
  unfolding in_stay covers o
  in-way c i v =
      let x : from_at live i + (finish_at live i - from_at live i) ≡ finish_at live i = omega (arith, o.ticks i v) in
      let y : left_at live i + (past_at live i - left_at live i) ≡ past_at live i = omega (arith, o.columns i v) in
      let z : from_at live i < from_at live i + (finish_at live i - from_at live i) = omega (arith, o.ticks i v) in
      ap₂ ◌&&◌ (overlap-either t (t + e) (from_at live i) (from_at live i + (finish_at live i - from_at live i)) (omega arith) z ∙ ap (λ b. ltb t b && ltb (from_at live i) (t + e)) x)
      (ap (λ b. leb (left_at live i) c && ltb c b) y)

  -- of the first ones: if its word has the digit
  same-task : (q j i : ℕ) → q < 4 → j < 64 → i < n → in_word live m (t + e) q j i ≡ in_stay t e (q * 64 + 1 + j) (task_at live i)
  same-task q j i p u v =
      let w : i < count = omega (arith, a.few) in
      let b : ltb t (finish_at live i) ≡ true = lt-ltb t (finish_at live i) (after-stays k.falling a i v) in
      ap (λ x. ltb (from_at live i) (t + e) && x) (k.masked.share q i j p w u)
      ∙ sym (in-way (q * 64 + 1 + j) i w ∙ ap (λ x. (x && ltb (from_at live i) (t + e)) && (leb (left_at live i) (q * 64 + 1 + j) && ltb (q * 64 + 1 + j) (past_at live i))) b)

  same-tasks : (q j : ℕ) → q < 4 → j < 64 → some? (in_word live m (t + e) q j) (range 0 n) ≡ some? (in_stay t e (q * 64 + 1 + j)) (tasks_of count live)
  unfolding tasks_of
  same-tasks q j p u =
      let c : ℕ = q * 64 + 1 + j in
      some_same (in_word live m (t + e) q j) (λ i. in_stay t e c (task_at live i)) (range 0 n) (λ i b. same-task q j i p u (omega (arith, (range-in 0 n b).high)))
      ∙ sym (some-map (in_stay t e c) (task_at live) (range 0 n))
      ∙ sym (some_after live (in_stay t e c) count n a.few (λ i l b.
      let z : ltb t (finish_at live i) ≡ false = le-ltb t (finish_at live i) (a.ended i l b) in
      in-way c i b ∙ ap (λ x. (x && ltb (from_at live i) (t + e)) && (leb (left_at live i) c && ltb c (past_at live i))) z))

  -- THE COLUMNS OF THE INSTANT: each word has those of the tasks, or lies past the width
  pub words-held : (edge words : List ℕ) → Edge W edge
      → ((q : ℕ) → q < 4 → HeldWord live m (t + e) q n (get_or edge q 0) (get_or words q 0) ⊎ ((W ≤ q * 64) × (get_or words q 0 ≡ get_or edge q 0))) → Held W t e (tasks_of count live) words
  words-held edge words d g = by-words (λ c. some? (in_stay t e c) (tasks_of count live) || ltb W c) words (λ q j p u. digit q j p u (g q p))
    where
      edged : (q j : ℕ) → q < 4 → j < 64 → bit (get_or edge q 0) j ≡ ltb W (q * 64 + 1 + j)
      edged q j p u = sym (column-at edge q j u) ∙ d (q * 64 + 1 + j) (omega arith) (omega arith)

      digit : (q j : ℕ) → q < 4 → j < 64 → HeldWord live m (t + e) q n (get_or edge q 0) (get_or words q 0) ⊎ ((W ≤ q * 64) × (get_or words q 0 ≡ get_or edge q 0))
          → bit (get_or words q 0) j ≡ (some? (in_stay t e (q * 64 + 1 + j)) (tasks_of count live) || ltb W (q * 64 + 1 + j))
      digit q j p u (inl x) =
          x.digits j u ∙ ap₂ ◌||◌ (edged q j p u) (same-tasks q j p u)
          ∙ or_comm (ltb W (q * 64 + 1 + j)) (some? (in_stay t e (q * 64 + 1 + j)) (tasks_of count live))
      digit q j p u (inr x) =
          let z : ltb W (q * 64 + 1 + j) ≡ true = lt-ltb W (q * 64 + 1 + j) (omega (arith, x.0)) in
          ap (λ b. bit b j) x.1 ∙ edged q j p u
          ∙ z ∙ sym (ap (λ b. some? (in_stay t e (q * 64 + 1 + j)) (tasks_of count live) || b) z ∙ or-true (some? (in_stay t e (q * 64 + 1 + j)) (tasks_of count live)))
