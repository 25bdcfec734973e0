-- The clock and the withdrawal of a sound board: the tests after test 1 decide, and the live task of an id is the only one. Assumes nothing.
use Prim.Native.Nat.{ℕ, zero, suc, ◌<◌}
use mathlib.Core.Path.{◌≡◌, refl, sym, ap, ◌∙◌, subst}
use mathlib.Core.Logic.{◌⊎◌, inl, inr}
use mathlib.Core.Bool.{Bool, true, false, not, ◌&&◌}
use mathlib.Core.List.{List}
use native.Mathlib.Omega.{arith}
use lib.Dec.{T, ltb, eqb, eqb→eq}
use lib.ListN.{length, get_or, set}
use Rattle.lists.specs.Lists.{◌∈◌, some?, index_of}
use Rattle.lists.proofs.Bools.{and_l, and_r, and_i, not-not, is_true, same_bool}
use Rattle.lists.proofs.Members.{some-pass, pass-some, get_or-in, in-keep}
use Rattle.lists.proofs.Order.{sorted-compare}
use Rattle.lists.proofs.Append.{index-test, put-index, index-passes}
use Rattle.tasks.specs.declared.Device.{Device}
use Rattle.tasks.specs.declared.Task.{Task}
use Rattle.tasks.specs.Tasks.{live, waiting_phase, free_slot}
use Rattle.slots.specs.Slots.{named, known, begun_named, without_named}
use Rattle.slots.proofs.Soundness.{Sound, Together, sound-out}
use Rattle.refusals.specs.Refusals.{instant_tests, withdraw_tests}
use Rattle.refusals.proofs.First.{refused-by, none-holds, sound-passes, unsound-refused}
use Rattle.std.proofs.Common.{None, Some}
use Rattle.std.specs.List.{position}
use borrow.Author.Tests.{lt-ltb}
use Rattle.slots.proofs.Named.{place-none, place-some}
use Rattle.board.specs.declared.Board.{Board}
use Rattle.board.specs.Refusals.{refusal, sound_board, refused_instant, refused_withdraw}
use Rattle.board.specs.Calls.{or_refused, with_tasks, board_at, clocked, withdrawn}

pub clocked-unsound : (b : Board) (i : ℕ) → sound_board b ≡ false → clocked b i ≡ record { number = 1; board = b }
unfolding clocked refused_instant or_refused
clocked-unsound b i e = rw (unsound-refused (sound_board b) (instant_tests b.now i) e)

pub withdrawn-unsound : (b : Board) (n : ℕ) → sound_board b ≡ false → withdrawn b n ≡ record { number = 1; board = b }
unfolding withdrawn refused_withdraw or_refused
withdrawn-unsound b n e =
    rw (unsound-refused (sound_board b) (withdraw_tests (known n b.tasks) (begun_named n b.tasks)) e)

-- THE CLOCK of a sound board: refused by 11 and 12, or moved
module _ (b : Board) (i : ℕ) (good : sound_board b ≡ true) {r : ℕ} (e : r ≡ refusal (instant_tests b.now i)) where
  instant-tests : refused_instant b i ≡ r
  unfolding refused_instant
  instant-tests = sound-passes (sound_board b) (instant_tests b.now i) good ∙ sym e

  pub clocked-refused : 0 < r → clocked b i ≡ record { number = r; board = b }
  clocked-refused h = go r instant-tests h
    where
      go : (k : ℕ) → refused_instant b i ≡ k → 0 < k → clocked b i ≡ record { number = k; board = b }
      go zero z l = absurd (omega arith)
      go (suc k) z l = unfold clocked or_refused in rw z

  pub clocked-moved : r ≡ 0 → clocked b i ≡ record { number = 0; board = board_at b i }
  unfolding clocked or_refused
  clocked-moved z = rw (instant-tests ∙ z)

-- ids differ, so that a live task of an id is the only one
pub only-named : (D : Device) (now : ℕ) (ks : List Task) → Sound D now ks → (n : ℕ) (k l : Task) → k ∈ ks → l ∈ ks
    → T (named n k) → T (named n l) → k ≡ l
unfolding named
only-named D now ks s n k l i j p q =
    step (sorted-compare Together s.together (in-keep live i (and_l (live k) (eqb k.id n) p)) (in-keep live j (and_l (live l) (eqb l.id n) q)))
  where
    ids : k.id ≡ l.id
    ids = eqb→eq k.id n (and_r (live k) (eqb k.id n) p) ∙ sym (eqb→eq l.id n (and_r (live l) (eqb l.id n) q))

    step : (k ≡ l) ⊎ (Together k l ⊎ Together l k) → k ≡ l
    step (inl z) = z
    step (inr (inl t)) = absurd (t.ids ids)
    step (inr (inr t)) = absurd (t.ids (sym ids))

-- so it has begun exactly if the one in the first slot of that id has
begun_first : (D : Device) (now : ℕ) (ks : List Task) → Sound D now ks → (n : ℕ) → index_of (named n) ks < length ks
    → begun_named n ks ≡ not (waiting_phase (get_or ks (index_of (named n) ks) free_slot).phase)
unfolding begun_named
begun_first D now ks s n h = same_bool (some? begun ks) (not (waiting_phase k.phase)) to from
  where
    begun : Task → Bool
    begun l = named n l && not (waiting_phase l.phase)

    k : Task
    k = get_or ks (index_of (named n) ks) free_slot

    among : k ∈ ks
    among = get_or-in ks (index_of (named n) ks) free_slot h

    is : T (named n k)
    is = index-passes (named n) ks free_slot h

    to : T (some? begun ks) → T (not (waiting_phase k.phase))
    to t =
        let r = some-pass begun ks t in
        let e = only-named D now ks s n r.it k r.among among (and_l (named n r.it) (not (waiting_phase r.it.phase)) r.passes) is in
        subst (λ l. T (not (waiting_phase l.phase))) e (and_r (named n r.it) (not (waiting_phase r.it.phase)) r.passes)

    from : T (not (waiting_phase k.phase)) → T (some? begun ks)
    from t = pass-some begun ks among (and_i (named n k) (not (waiting_phase k.phase)) is t)

-- what is asked of a slot that is the first of the id
module _ (b : Board) (n slot : ℕ) (good : sound_board b ≡ true) (at : slot ≡ index_of (named n) b.tasks) where
  s : Sound b.device b.now b.tasks
  s = sound-out b.device b.now b.tasks (rw good tt)

  pub slot-known : known n b.tasks ≡ ltb slot 64
  unfolding known
  slot-known = index-test (named n) b.tasks ∙ ap (ltb (index_of (named n) b.tasks)) s.slots ∙ ap (λ j. ltb j 64) (sym at)

  pub slot-begun : slot < 64 → begun_named n b.tasks ≡ not (waiting_phase (get_or b.tasks slot free_slot).phase)
  slot-begun h =
      begun_first b.device b.now b.tasks s n (rw (s.slots, sym at) h)
      ∙ ap (λ j. not (waiting_phase (get_or b.tasks j free_slot).phase)) (sym at)

-- so of the slot that the library's `position` gives
module _ (b : Board) (n slot : ℕ) (good : sound_board b ≡ true) (at : Some slot ≡ position (named n) b.tasks) where
  sb : Sound b.device b.now b.tasks
  sb = sound-out b.device b.now b.tasks (rw good tt)

  place : (slot ≡ index_of (named n) b.tasks) × (slot < length b.tasks)
  place = place-some (named n) b.tasks slot (sym at)

  below : slot < 64
  below = omega (arith, place.1, sb.slots)

  pub place-is : slot ≡ index_of (named n) b.tasks
  place-is = place.0

  pub place-known : known n b.tasks ≡ true
  place-known = slot-known b n slot good place.0 ∙ lt-ltb slot 64 below

  pub place-begun : begun_named n b.tasks ≡ not (waiting_phase (get_or b.tasks slot free_slot).phase)
  place-begun = slot-begun b n slot good place.0 below

pub place-nowhere : (b : Board) (n : ℕ) → None ≡ position (named n) b.tasks → known n b.tasks ≡ false
unfolding known
place-nowhere b n e = place-none (named n) b.tasks (sym e)

-- WHAT IS ASKED of an id: whether a live task has it, and where one has, whether that has begun
pub record Asked (ks : List Task) (n : ℕ) (has begun : Bool) : Type 0 where
  pub there : known n ks ≡ has
  pub asked : has ≡ true → begun_named n ks ≡ begun

pub asked-there : (b : Board) (n slot : ℕ) → sound_board b ≡ true → Some slot ≡ position (named n) b.tasks
    → Asked b.tasks n true (not (waiting_phase (get_or b.tasks slot free_slot).phase))
asked-there b n slot good at = record { there = place-known b n slot good at; asked = λ q. place-begun b n slot good at }

pub asked-nowhere : (ks : List Task) (n : ℕ) (begun : Bool) → known n ks ≡ false → Asked ks n false begun
asked-nowhere ks n begun e = record { there = e; asked = λ q. cc }

-- THE WITHDRAWAL of a sound board: refused by 13 and 14, or the slot is free. Where no task has the id, whether it has begun is not read
module _ (b : Board) (n : ℕ) (good : sound_board b ≡ true) {has begun : Bool} (a : Asked b.tasks n has begun) {r : ℕ}
    (e : r ≡ refusal (withdraw_tests has begun)) where
  same_tests : (t : Bool) → has ≡ t → refusal (withdraw_tests t (begun_named n b.tasks)) ≡ refusal (withdraw_tests t begun)
  same_tests true q = ap (λ x. refusal (withdraw_tests true x)) (a.asked q)
  same_tests false q = refused-by 13 true _ refl ∙ sym (refused-by 13 true _ refl)

  withdraw-tests : refused_withdraw b n ≡ r
  unfolding refused_withdraw
  withdraw-tests =
      sound-passes (sound_board b) (withdraw_tests (known n b.tasks) (begun_named n b.tasks)) good
      ∙ ap (λ t. refusal (withdraw_tests t (begun_named n b.tasks))) a.there ∙ same_tests has refl ∙ sym e

  pub withdrawn-refused : 0 < r → withdrawn b n ≡ record { number = r; board = b }
  withdrawn-refused h = go r withdraw-tests h
    where
      go : (k : ℕ) → refused_withdraw b n ≡ k → 0 < k → withdrawn b n ≡ record { number = k; board = b }
      go zero z l = absurd (omega arith)
      go (suc k) z l = unfold withdrawn or_refused in rw z

  pub withdrawn-freed : {slot : ℕ} → slot ≡ index_of (named n) b.tasks → r ≡ 0
      → withdrawn b n ≡ record { number = 0; board = with_tasks b (set b.tasks slot free_slot) }
  unfolding withdrawn or_refused without_named
  withdrawn-freed at z =
      rw (withdraw-tests ∙ z)
      (ap (λ ks. record { number = 0; board = with_tasks b ks })
      (put-index (named n) free_slot b.tasks ∙ ap (λ j. set b.tasks j free_slot) (sym at)))

-- 13, where no live task has the id
pub withdrawn-nowhere : (b : Board) (n : ℕ) → sound_board b ≡ true → known n b.tasks ≡ false → withdrawn b n ≡ record { number = 13; board = b }
withdrawn-nowhere b n good e =
    withdrawn-refused b n good (asked-nowhere b.tasks n false e) (sym (refused-by 13 true _ refl)) (omega arith)

-- where it is not refused, a live task has the id
pub withdrawn-known : (has begun : Bool) {r : ℕ} → r ≡ refusal (withdraw_tests has begun) → r ≡ 0 → has ≡ true
withdrawn-known has begun e z = is_true has (not-not has (none-holds 13 (not has) _ (omega arith) (sym e ∙ z)).0)
