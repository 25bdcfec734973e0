-- The row of starts: the columns of a task taken one by one, and what the row knows of the tasks that have taken theirs. Assumes nothing.
use Prim.Native.Nat.{ℕ, ◌+◌, ◌≤◌, ◌<◌, max}
use mathlib.Core.Path.{◌≡◌, refl, sym, ap, ◌∙◌}
use mathlib.Core.Bool.{true, false, cond, true≢false}
use mathlib.Core.List.{List}
use native.Mathlib.Omega.{arith}
use native.Mathlib.Decide.{dec_lt, dec_le, ℕ_discrete as dec_eq}
use lib.Dec.{ltb, not_T}
use lib.ListN.{length, get_or, set, replicate, length-set, length-replicate, get_or-replicate}
use lib.Seq.{get_or-set_same, get_or-set_other}
use borrow.Author.Tests.{lt-ltb, le-ltb}
use Rattle.lists.proofs.Bools.{is_true, is_false}
use Rattle.tasks.specs.Tasks.{meets}
use Rattle.tasks.proofs.Laws.{Share, meets-share, share-meets}
use Rattle.lists.specs.Lists.{never}
use Rattle.live.specs.Live.{from_at, finish_at, left_at, past_at, task_at, OnDevice, Falling, Apart}
use Rattle.soundness.specs.Tested.{Clash, Taken, Judged}

-- the columns from left up to c are taken
pub record TakenTo (left past start finish : ℕ) (row next : List ℕ) (hits c : ℕ) : Type 0 where
  pub from : left ≤ c
  pub upto : c ≤ past
  pub few : hits + left ≤ c
  pub taken : Taken left c start finish row next hits

module _ {left past start finish : ℕ} {row : List ℕ} where
  pub taken_none : left ≤ past → TakenTo left past start finish row row 0 left
  taken_none h = record {
    from = omega arith;
    upto = h;
    few = omega arith;
    taken = record {
      size = refl;
      here = λ c l m. absurd (omega arith);
      before = λ c l. refl;
      behind = λ c l. refl;
      free = λ z c l m. absurd (omega arith);
      clash = λ z. absurd (omega arith);
    };
  }

  pub taken-one : {next : List ℕ} {hits c : ℕ} → TakenTo left past start finish row next hits c → c < past → past ≤ length row
      → {h : ℕ} → h ≡ cond (ltb (get_or next c 0) finish) 1 0 → TakenTo left past start finish row (set next c start) (hits + h) (c + 1)
  taken-one {next} {hits} {c} k l m {h} e = go (dec_lt (get_or next c 0) finish)
    where
      t : Taken left c start finish row next hits
      t = k.taken

      same : get_or next c 0 ≡ get_or row c 0
      same = t.behind c (omega arith)

      here : (b : ℕ) → left ≤ b → b < c + 1 → Dec (b ≡ c) → get_or (set next c start) b 0 ≡ start
      here b p q (yes z) = rw z (get_or-set_same next c start 0 (omega (arith, t.size)))
      here b p q (no z) = get_or-set_other next c b start 0 z ∙ t.here b p (omega arith)

      before : (b : ℕ) → b < left → get_or (set next c start) b 0 ≡ get_or row b 0
      before b p = get_or-set_other next c b start 0 (λ z. omega (arith, k.from)) ∙ t.before b p

      behind : (b : ℕ) → c + 1 ≤ b → get_or (set next c start) b 0 ≡ get_or row b 0
      behind b p = get_or-set_other next c b start 0 (λ z. omega arith) ∙ t.behind b (omega arith)

      -- by whether this column had been taken by a start before finish
      made : hits + h + left ≤ c + 1 → (hits + h ≡ 0 → finish ≤ get_or row c 0) → (0 < hits + h → Clash left (c + 1) finish row)
          → (hits + h ≡ 0 → hits ≡ 0) → TakenTo left past start finish row (set next c start) (hits + h) (c + 1)
      made few last clash zero = record {
        from = omega (arith, k.from);
        upto = omega arith;
        few = few;
        taken = record {
          size = length-set next c start ∙ t.size;
          here = λ b p q. here b p q (dec_eq b c);
          before = before;
          behind = behind;
          free = λ z b p q. free z b p q (dec_eq b c);
          clash = clash;
        };
      }
        where
          free : hits + h ≡ 0 → (b : ℕ) → left ≤ b → b < c + 1 → Dec (b ≡ c) → finish ≤ get_or row b 0
          free z b p q (yes y) = rw y (last z)
          free z b p q (no y) = t.free (zero z) b p (omega arith)

      go : Dec (get_or next c 0 < finish) → TakenTo left past start finish row (set next c start) (hits + h) (c + 1)
      go (yes p) =
          let one : h ≡ 1 = e ∙ ap (λ b. cond b 1 0) (lt-ltb (get_or next c 0) finish p) in
          made (omega (arith, k.few)) (λ z. absurd (omega arith)) (λ z. record { it = c; from = k.from; to = omega arith; sooner = omega (arith, same) }) (λ z. omega arith)
      go (no p) =
          let nil : h ≡ 0 = e ∙ ap (λ b. cond b 1 0) (le-ltb (get_or next c 0) finish (omega arith)) in
          made (omega (arith, k.few)) (λ z. omega (arith, same)) (λ z. earlier (t.clash (omega arith))) (λ z. omega arith)
        where
          earlier : Clash left c finish row → Clash left (c + 1) finish row
          earlier w = record { it = w.it; from = w.from; to = omega (arith, w.to); sooner = w.sooner }

-- a task that has taken column c at that start
pub record Taker (rows : List ℕ) (i c s : ℕ) : Type 0 where
  pub it : ℕ
  pub sooner : it < i
  pub from : left_at rows it ≤ c
  pub to : c < past_at rows it
  pub start : from_at rows it ≡ s

-- after i tasks: none meets another, and the row has of each column the earliest start, that of one of them
pub record RowTo (n : ℕ) (rows row : List ℕ) (i : ℕ) : Type 0 where
  pub size : length row ≡ 257
  pub upto : i ≤ n
  pub apart : Apart i rows
  pub lower : (j c : ℕ) → j < i → left_at rows j ≤ c → c < past_at rows j → get_or row c 0 ≤ from_at rows j
  pub whose : (c : ℕ) → c < 257 → get_or row c 0 < never → Taker rows i c (get_or row c 0)

pub row-none : (n : ℕ) (rows : List ℕ) → RowTo n rows (replicate 257 never) 0
row-none n rows = record {
  size = length-replicate 257 never;
  upto = omega arith;
  apart = λ i j l m. absurd (omega arith);
  lower = λ j c l. absurd (omega arith);
  whose = λ c l m. absurd (let z = get_or-replicate 257 c never 0 l in omega arith);
}

module _ {n : ℕ} {rows : List ℕ} (o : OnDevice 256 n rows) (f : Falling n rows) {row : List ℕ} {i : ℕ} (r : RowTo n rows row i) where
  module _ (h : i < n) {next : List ℕ} {hits : ℕ} (t : Taken (left_at rows i) (past_at rows i) (from_at rows i) (finish_at rows i) row next hits) where
    -- NO COLUMN OF TASK i CLASHES: it meets none of those before it
    pub row_more : hits ≡ 0 → RowTo n rows next (i + 1)
    row_more z = record {
      size = t.size ∙ r.size;
      upto = omega arith;
      apart = λ a b l m. apart a b l m (dec_eq b i);
      lower = λ j c l p q. lower j c l p q (dec_eq j i) (dec_le (left_at rows i) c) (dec_lt c (past_at rows i));
      whose = λ c l m. whose c l m (dec_le (left_at rows i) c) (dec_lt c (past_at rows i));
    }
      where
        clear : (a : ℕ) → a < i → Share (task_at rows a) (task_at rows i) → ⊥
        clear a l s =
            let c = s.column.it in
            let x = r.lower a c l s.column.low₁ (omega (arith, s.column.high₁, o.columns a (omega arith))) in
            let y = t.free z c s.column.low₂ (omega (arith, s.column.high₂, o.columns i h)) in
            omega (arith, s.tick.low₁, s.tick.high₂, o.ticks i h)

        apart : (a b : ℕ) → a < b → b < i + 1 → Dec (b ≡ i) → meets (task_at rows a) (task_at rows b) ≡ false
        apart a b l m (yes e) =
            rw e (is_false (meets (task_at rows a) (task_at rows i)) (not_T (meets (task_at rows a) (task_at rows i)) (λ w. clear a (omega arith) (meets-share (task_at rows a) (task_at rows i) w))))
        apart a b l m (no e) = r.apart a b l (omega arith)

        lower : (j c : ℕ) → j < i + 1 → left_at rows j ≤ c → c < past_at rows j → Dec (j ≡ i) → Dec (left_at rows i ≤ c) → Dec (c < past_at rows i) → get_or next c 0 ≤ from_at rows j
        lower j c l p q (yes e) d g = rw e (omega (arith, t.here c (rw e at p) (rw e at q)))
        lower j c l p q (no e) (yes d) (yes g) = omega (arith, t.here c d g, o.ticks i h, t.free z c d g, r.lower j c (omega arith) p q)
        lower j c l p q (no e) (yes d) (no g) = omega (arith, t.behind c (omega arith), r.lower j c (omega arith) p q)
        lower j c l p q (no e) (no d) g = omega (arith, t.before c (omega arith), r.lower j c (omega arith) p q)

        -- another's column is as it was
        kept : (c : ℕ) → c < 257 → get_or next c 0 < never → get_or next c 0 ≡ get_or row c 0 → Taker rows (i + 1) c (get_or next c 0)
        kept c l m e =
            let w = r.whose c l (omega arith) in
            record { it = w.it; sooner = omega (arith, w.sooner); from = w.from; to = w.to; start = w.start ∙ sym e }

        whose : (c : ℕ) → c < 257 → get_or next c 0 < never → Dec (left_at rows i ≤ c) → Dec (c < past_at rows i) → Taker rows (i + 1) c (get_or next c 0)
        whose c l m (yes d) (yes g) = record { it = i; sooner = omega arith; from = d; to = g; start = sym (t.here c d g) }
        whose c l m (yes d) (no g) = kept c l m (t.behind c (omega arith))
        whose c l m (no d) g = kept c l m (t.before c (omega arith))

    -- ONE CLASHES: the task that took it starts before task i finishes, and does not finish before it
    pub row-clash : 0 < hits → Judged n rows false
    row-clash z =
        let w = t.clash z in
        let k = r.whose w.it (omega (arith, w.to, o.past i h)) (omega (arith, w.sooner, o.until i h)) in
        let l : k.it < n = omega (arith, k.sooner) in
        let a = o.ticks k.it l in
        let b = o.ticks i h in
        let d = f k.it i (omega (arith, k.sooner)) h in
        let x = task_at rows k.it in
        let y = task_at rows i in
        let v : from_at rows k.it < finish_at rows i = omega (arith, k.start, w.sooner) in
        let s : Share x y = record {
          column = record { it = w.it; low₁ = k.from; high₁ = omega (arith, k.from, k.to); low₂ = w.from; high₂ = omega (arith, w.from, w.to) };
          tick = record { it = max (from_at rows k.it) (from_at rows i); low₁ = omega arith; high₁ = omega arith; low₂ = omega arith; high₂ = omega arith };
        } in
        record {
          apart = λ q. absurd (true≢false (sym q));
          meeting = λ q. record { one = k.it; other = i; order = k.sooner; inside = h; meet = is_true (meets x y) (share-meets x y s) };
        }

  -- ALL HAVE TAKEN THEIRS
  pub row-all : n ≤ i → Judged n rows true
  row-all h = record {
    apart = λ q a b l m. r.apart a b l (omega arith);
    meeting = λ q. absurd (true≢false q);
  }
