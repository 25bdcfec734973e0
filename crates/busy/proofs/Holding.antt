-- The words have the columns of the tasks passed, and their ones are the held columns of the device. Assumes nothing.
use Prim.Native.Nat.{ℕ, zero, suc, ◌+◌, ◌-◌, ◌≤◌, ◌<◌}
use mathlib.Core.Path.{◌≡◌, sym, ap, ◌∙◌}
use mathlib.Core.Bool.{Bool, not, true, false, ◌&&◌, ◌||◌, or-false}
use mathlib.Core.List.{List, ◌∷◌, ◌++◌, append-nil}
use native.Mathlib.Omega.{arith}
use lib.Dec.{T, leb, ltb, not_T}
use lib.ListN.{length}
use Rattle.lists.specs.Lists.{◌∈◌, keep, some?, range}
use Rattle.lists.proofs.Members.{keep-none, pass-none, range-in}
use Rattle.lists.proofs.Append.{keep_append, keep-agree, some_more}
use Rattle.tasks.specs.Tasks.{holds}
use Rattle.tasks.proofs.Laws.{holds-out}
use Rattle.live.specs.Live.{from_at, finish_at, left_at, past_at, OnDevice, task_at, tasks_of}
use Rattle.planners.proofs.Lent.{tasks-more, task-in, holds_at}
use Rattle.words.specs.Words.{column}
use Rattle.words.proofs.Columns.{no_words, column-none}
use Rattle.lookups.specs.Lookups.{busy_columns}
use Rattle.lookups.proofs.Busy.{busy-held}

range_split : (a m n : ℕ) → range a (m + n) ≡ range a m ++ range (a + m) n
unfolding range
range_split a zero n = let x : 0 + n ≡ n = omega arith in let y : a + 0 ≡ a = omega arith in rw (x, y)
range_split a (suc m) n =
    let x : suc m + n ≡ suc (m + n) = omega arith in
    let y : a + suc m ≡ suc a + m = omega arith in
    rw (x, y) (ap (λ l. a ∷ l) (range_split (suc a) m n))

module _ (live : List ℕ) (t : ℕ) where
  -- the words have each column that one of the first n tasks holds at t
  pub record HeldBy (words : List ℕ) (n : ℕ) : Type 0 where
    pub same : (c : ℕ) → 1 ≤ c → c ≤ 256 → column words c ≡ some? (holds t c) (tasks_of n live)

  pub held_none : HeldBy no_words 0
  unfolding tasks_of range some?
  held_none = record { same = λ c p q. column-none c }

  held_more : (n c : ℕ) → some? (holds t c) (tasks_of (n + 1) live) ≡ (some? (holds t c) (tasks_of n live) || holds t c (task_at live n))
  held_more n c = ap (some? (holds t c)) (tasks-more live n) ∙ some_more (holds t c) (tasks_of n live) (task_at live n)

  module _ {W m : ℕ} (o : OnDevice W m live) {words : List ℕ} {n : ℕ} (h : n < m) (g : HeldBy words n) where
    -- ONE TASK MORE that holds its columns at t
    pub held-marked : (more : List ℕ) → (leb (from_at live n) t && ltb t (finish_at live n)) ≡ true
        → ((c : ℕ) → 1 ≤ c → c ≤ 256 → column more c ≡ (column words c || (leb (left_at live n) c && ltb c (past_at live n)))) → HeldBy more (n + 1)
    held-marked more e k = record { same = λ c p q. marked c p q }
      where
        marked : (c : ℕ) → 1 ≤ c → c ≤ 256 → column more c ≡ some? (holds t c) (tasks_of (n + 1) live)
        marked c p q =
            k c p q ∙ ap (λ b. b || (leb (left_at live n) c && ltb c (past_at live n))) (g.same c p q)
            ∙ sym (held_more n c ∙ ap (λ b. some? (holds t c) (tasks_of n live) || b) (holds_at o n h t c ∙ ap (λ b. b && (leb (left_at live n) c && ltb c (past_at live n))) e))

    -- ONE TASK MORE that does not
    pub held-passed : (leb (from_at live n) t && ltb t (finish_at live n)) ≡ false → HeldBy words (n + 1)
    held-passed e = record { same = λ c p q. passed c p q }
      where
        passed : (c : ℕ) → 1 ≤ c → c ≤ 256 → column words c ≡ some? (holds t c) (tasks_of (n + 1) live)
        passed c p q =
            g.same c p q
            ∙ sym (held_more n c ∙ ap (λ b. some? (holds t c) (tasks_of n live) || b) (holds_at o n h t c ∙ ap (λ b. b && (leb (left_at live n) c && ltb c (past_at live n))) e)
            ∙ or-false (some? (holds t c) (tasks_of n live)))

  -- AFTER THE LAST: past the width no column is held, so the ones are the busy columns
  module _ {W n : ℕ} (o : OnDevice W n live) {words : List ℕ} (g : HeldBy words n) where
    held? : ℕ → Bool
    held? c = some? (holds t c) (tasks_of n live)

    none-past : (c : ℕ) → c ∈ range (1 + W) (256 - W) → T (not (held? c))
    unfolding held?
    none-past c m = pass-none (holds t c) (tasks_of n live) (λ u k. not_T (holds t c u) (λ b. off u k b))
      where
        off : (u : _) → u ∈ tasks_of n live → T (holds t c u) → ⊥
        off u k b =
            let i = task-in live n k in
            let z : T (holds t c (task_at live i.0)) = rw i.2 at b in
            let y = holds-out t c (task_at live i.0) z in
            omega (arith, y.right, o.columns i.0 i.1, o.past i.0 i.1, (range-in (1 + W) (256 - W) m).low)

    pub ones-busy : length (keep (column words) (range 1 256)) ≡ busy_columns W (tasks_of n live) t
    unfolding held?
    ones-busy =
        let w : 256 ≡ W + (256 - W) = omega (arith, o.wide) in
        ap length
        (keep-agree (column words) held? (range 1 256) (λ c m. let b = range-in 1 256 m in g.same c b.low (omega (arith, b.high)))
        ∙ ap (λ k. keep held? (range 1 k)) w ∙ ap (keep held?) (range_split 1 W (256 - W)) ∙ keep_append held? (range 1 W) (range (1 + W) (256 - W))
        ∙ ap (λ l. keep held? (range 1 W) ++ l) (keep-none held? (range (1 + W) (256 - W)) none-past) ∙ append-nil (keep held? (range 1 W)))
        ∙ sym (busy-held W (tasks_of n live) t)
