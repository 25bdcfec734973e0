-- Feed, close and next: what is taken, what is written, and where the program then stands. Assumes nothing.
use Prim.Native.Nat.{ℕ, ◌≤◌}
use mathlib.Core.Path.{◌≡◌, sym, ap, ap₂, ◌∙◌}
use mathlib.Core.Bool.{true, false}
use mathlib.Core.List.{List, []}
use native.Mathlib.Omega.{arith}
use lib.ListN.{length, drop, length-append}
use Rattle.std.proofs.Common.{None, Some}
use Rattle.lists.specs.Lists.{over_front}
use Rattle.session.specs.declared.Ending.{Ending}
use Rattle.reader.specs.declared.Reader.{Reader}
use Rattle.reader.specs.declared.Fed as Read
use Rattle.reader.specs.Reader.{fed, end_of}
use Rattle.asking.specs.declared.Page.{Page}
use Rattle.asking.specs.declared.Part.{Part}
use Rattle.asking.specs.declared.Asking.{Asking}
use Rattle.asking.specs.Asking.{whole?, end_text}
use Rattle.asking.specs.Machine.{Piece, alone, first_part, turned, as_part, Said, next_event, closing_part, closing, closed, paged, next_part, went}
use Rattle.asking.proofs.Counted.{heard-inside}

-- a text at the front lies in its buffer
front_fits : (text l : List ℕ) {out : List ℕ} {n : ℕ} → n ≡ length text → out ≡ over_front text l → n ≤ length out
front_fits text l h e = omega (arith, ap length e, length-append text (drop (length text) l))

-- NO MORE IS TAKEN of a piece than it has
pub fed-inside : (r : Reader) (piece : List ℕ) (words : ℕ) {f : Read.Fed} → f ≡ fed r piece words → f.taken ≤ length piece
unfolding fed
fed-inside r piece words e = let h = heard-inside r piece words in omega (arith, ap (λ x. x.taken) e)

module _ (a : Asking) where
  -- the recording is whole, or not
  pub closing-whole : (end : Ending) → whole? end ≡ true → closing_part a end ≡ first_part a.question a.reader.state.board
  unfolding closing_part
  closing-whole end e = rw e

  pub closing-other : (end : Ending) → whole? end ≡ false → closing_part a end ≡ alone []
  unfolding closing_part
  closing-other end e = rw e

  -- CLOSE
  pub closes : {end : Ending} {event said : ℕ} {part : Part} {l out err : List ℕ} (m : List ℕ) → end ≡ end_of a.reader → event ≡ next_event a.reader.number
      → (said ≡ length (end_text event end)) × (err ≡ over_front (end_text event end) m) → Said (closing_part a end) part l out
      → (record { asking = record { reader = a.reader; question = a.question; page = part.page }; used = part.used; said = said } ≡ closed a)
      × ((out ≡ over_front (closing a).out l) × ((err ≡ over_front (closing a).err m) × ((part.used ≤ length out) × (said ≤ length err))))
  unfolding closed closing
  closes {end} {event} {said} {part} {l} m e n t s = (
    λ i. record {
      asking = record { reader = a.reader; question = a.question; page = (told i).page };
      used = (told i).used;
      said = (t.0 ∙ ap length text) i;
    },
    (
      s.text ∙ ap (λ x. over_front (closing_part a x).text l) e,
      (t.1 ∙ ap (λ x. over_front x m) text, (front_fits (closing_part a end).text l (ap (λ x. x.used) s.answer) s.text, front_fits (end_text event end) m t.0 t.1)),
    ),
  )
    where
      text : end_text event end ≡ end_text (next_event a.reader.number) (end_of a.reader)
      text = ap₂ end_text n e

      told : part ≡ as_part (closing_part a (end_of a.reader))
      told = s.answer ∙ ap (λ x. as_part (closing_part a x)) e

  -- NEXT
  pub next-none : a.page ≡ None → next_part a ≡ alone []
  unfolding next_part paged
  next-none e = rw e

  pub next-page : {p : Page} → a.page ≡ Some p → next_part a ≡ turned a.reader.state.board p
  unfolding next_part paged
  next-page e = rw e

  pub rests : a.page ≡ None → (l : List ℕ) → (record { asking = a; used = 0 } ≡ went a) × ((l ≡ over_front (next_part a).text l) × (0 ≤ length l))
  unfolding went
  rests e l = (
    (λ i. record { asking = record { reader = a.reader; question = a.question; page = e i }; used = 0 })
        ∙ ap (λ (p : Piece). record { asking = record { reader = a.reader; question = a.question; page = p.page }; used = length p.text }) (sym (next-none e)),
    (ap (λ (p : Piece). over_front p.text l) (sym (next-none e)), omega arith),
  )

  pub goes : {p : Page} → a.page ≡ Some p → {part : Part} {l out : List ℕ} → Said (turned a.reader.state.board p) part l out
      → (record { asking = record { reader = a.reader; question = a.question; page = part.page }; used = part.used } ≡ went a)
      × ((out ≡ over_front (next_part a).text l) × (part.used ≤ length out))
  unfolding went
  goes {p} e {part} {l} s =
      let told : part ≡ as_part (next_part a) = s.answer ∙ ap as_part (sym (next-page e)) in (
        ap (λ (r : Part). record { asking = record { reader = a.reader; question = a.question; page = r.page }; used = r.used }) told,
        (s.text ∙ ap (λ (x : Piece). over_front x.text l) (sym (next-page e)), front_fits (turned a.reader.state.board p).text l (ap (λ x. x.used) s.answer) s.text),
      )
