-- Rows of slots: the text of one slot more, and a text at the front of a buffer. Assumes nothing.
use Prim.Native.Nat.{ℕ, zero, suc, ◌+◌, ◌<◌}
use mathlib.Core.Path.{◌≡◌, refl, sym, ap, ◌∙◌}
use mathlib.Core.Bool.{cond}
use mathlib.Core.List.{List, [], ◌∷◌, ◌++◌, append-nil, append_assoc}
use native.Mathlib.Omega.{arith}
use native.Mathlib.Numerals.{add-one}
use lib.ListN.{length, take, get_or}
use lib.Seq.{sets}
use Rattle.tasks.specs.declared.Task.{Task}
use Rattle.tasks.specs.Tasks.{live, free_slot}
use Rattle.text.specs.Digits.{Put}
use Rattle.text.proofs.Spelling.{put_both}
use Rattle.board_text.specs.BoardText.{task_text, tasks_text}

-- a text that was put is known under another name
pub put_as : {l m : List ℕ} {at p : ℕ} (xs ys : List ℕ) → xs ≡ ys → p ≡ at + length xs → m ≡ sets l at xs → Put l at ys m p
put_as {l} {m} {at} {p} xs ys e place stored = record { stored = stored ∙ ap (sets l at) e; place = place ∙ ap (λ t. at + length t) e }

-- the text of one slot
abbrev slot_text : ℕ → Task → Task → List ℕ
slot_text slot k s = cond (live k) (task_text slot s) []

text-more : (slot : ℕ) (ks ss : List Task) (i : ℕ) → i < length ks → i < length ss
    → tasks_text slot (take (suc i) ks) (take (suc i) ss) ≡ tasks_text slot (take i ks) (take i ss) ++ slot_text (slot + i) (get_or ks i free_slot) (get_or ss i free_slot)
unfolding tasks_text
text-more slot [] ss i h g = absurd (omega arith)
text-more slot (k ∷ ks) [] i h g = absurd (omega arith)
text-more slot (k ∷ ks) (s ∷ ss) zero h g =
    let z : slot ≡ slot + 0 = omega arith in
    append-nil (slot_text slot k s) ∙ ap (λ n. slot_text n k s) z
text-more slot (k ∷ ks) (s ∷ ss) (suc i) h g =
    let z : suc slot + i ≡ slot + suc i = omega arith in
    let between = tasks_text (suc slot) (take i ks) (take i ss) in
    let last : ℕ → List ℕ = λ n. slot_text n (get_or ks i free_slot) (get_or ss i free_slot) in
    ap (λ t. slot_text slot k s ++ t) (text-more (suc slot) ks ss i (omega arith) (omega arith) ∙ ap (λ n. between ++ last n) z)
    ∙ sym (append_assoc (slot_text slot k s) between (last (slot + suc i)))

-- NO SLOT YET, and one more
pub slots-none : (l : List ℕ) (at slot : ℕ) (ks ss : List Task) → Put l at (tasks_text slot (take 0 ks) (take 0 ss)) l at
unfolding tasks_text
slots-none l at slot ks ss = record { stored = refl; place = (let z : at ≡ at + 0 = omega arith in z) }

pub slots-more : {l m n : List ℕ} {at p q : ℕ} (ks ss : List Task) (i : ℕ) → i < length ks → i < length ss → Put l at (tasks_text 1 (take i ks) (take i ss)) m p
    → Put m p (slot_text (i + 1) (get_or ks i free_slot) (get_or ss i free_slot)) n q → Put l at (tasks_text 1 (take (i + 1) ks) (take (i + 1) ss)) n q
slots-more ks ss i h g a b =
    let z : i + 1 ≡ 1 + i = omega arith in
    rw (add-one i, text-more 1 ks ss i h g) (put_both a (rw z at b))
