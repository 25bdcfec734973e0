-- The least column that begins w clear columns: what a run of clear columns that is too short rules out. Assumes nothing.
use Rattle.std.proofs.Common.{◌≡◌, ℕ, ◌+◌, ◌<◌, ◌≤◌, true, false, not, List, sym, ap, ◌∙◌, true≢false, arith}
use Rattle.std.specs.Prelude.{None}
use native.Mathlib.Decide.{dec_lt}
use Rattle.words.specs.Words.{column, Least}
use Rattle.held.specs.Held.{Clear, FirstAt, FirstFree}

module _ (words : List ℕ) (from w : ℕ) where
  -- no column after `from` and before `at` begins w clear columns
  pub record Sought (at : ℕ) : Type 0 where
    pub past : from < at
    pub upto : at ≤ 257
    pub none : (c : ℕ) → from < c → c < at → Clear words w c → ⊥

  pub seek : (at : ℕ) → at ≡ from + 1 → from ≤ 256 → Sought at
  seek at e h = record { past = omega arith; upto = omega arith; none = λ c p q k. omega arith }

  module _ {at a b : ℕ} (o : Sought at) (h : 1 ≤ w) (x : Least (λ (c : ℕ). not (column words c)) at 257 a) (y : Least (column words) a 257 b) where
    set-clear : (c : ℕ) → column words c ≡ true → column words c ≡ false → ⊥
    set-clear c p q = true≢false (sym p ∙ q)

    before : (c : ℕ) → from < c → c < a → Clear words w c → ⊥
    before c p q k = go (dec_lt c at)
      where
        go : Dec (c < at) → ⊥
        go (yes u) = o.none c p u k
        go (no u) = true≢false (sym (ap not (k.clear c (omega arith) (omega arith))) ∙ x.before c (omega arith) q)

    -- wide enough
    pub seek_found : a + w ≤ b → FirstAt words from w a
    seek_found z = record {
      after = omega (arith, o.past, x.low);
      clear = record { fits = omega (arith, y.high); clear = λ c q u. y.before c q (omega arith) };
      least = λ c p q k. before c p q k;
    }

    -- too short: on from its end
    pub seek-less : at ≤ 256 → at < b
    seek-less z = go (dec_lt at b)
      where
        go : Dec (at < b) → at < b
        go (yes u) = u
        go (no u) =
            let i : a ≡ at = omega (arith, x.low, y.low) in
            let j : b ≡ a = omega (arith, x.low, y.low) in
            absurd (true≢false (sym (x.here (omega arith)) ∙ ap not (ap (column words) (sym j) ∙ y.here (omega arith))))

    pub seek-on : at ≤ 256 → b < a + w → Sought b
    seek-on z u = record { past = omega (arith, o.past, seek-less z); upto = y.high; none = λ c p q k. go c p q k (dec_lt c a) }
      where
        go : (c : ℕ) → from < c → c < b → Clear words w c → Dec (c < a) → ⊥
        go c p q k (yes v) = before c p v k
        go c p q k (no v) = set-clear b (y.here (omega (arith, k.fits))) (k.clear b (omega arith) (omega arith))

  pub seek-end : {at : ℕ} → Sought at → 257 < at + w → FirstFree words from w None
  seek-end {at} o z = λ c p k. o.none c p (omega (arith, k.fits)) k

-- the clear columns that a column begins reach to the next set one
pub run_end : {words : List ℕ} {from w x end : ℕ} → FirstAt words from w x → Least (column words) x 257 end → x + w ≤ end
run_end {words} {from} {w} {x} {end} g y = go (dec_lt end (x + w))
  where
    k : Clear words w x
    k = g.clear

    go : Dec (end < x + w) → x + w ≤ end
    go (yes u) = absurd (true≢false (sym (y.here (omega (arith, k.fits))) ∙ k.clear end y.low u))
    go (no u) = omega arith
