-- HOW A PROMISE ENDS: by its finish, by its owner's withdrawal before its start, by a new board; until then it stands as it was made. Assumes nothing.
use Prim.Native.Nat.{ℕ, zero, suc, ◌≤◌, ◌<◌}
use mathlib.Core.Path.{◌≡◌, refl, sym, ◌∙◌, subst}
use mathlib.Core.Logic.{◌⊎◌, inl, inr}
use mathlib.Core.Bool.{Bool, true, false}
use mathlib.Core.List.Memᴰ.{head as here}
use mathlib.Core.List.Memᴰ.{tail as there}
use mathlib.Core.List.{List, [], ◌∷◌, ◌++◌}
use lib.Dec.{eqb}
use lib.ListN.{length}
use borrow.Author.Tests.{ltb-true, eqb-true}
use Rattle.lists.specs.Lists.{◌∈◌}
use Rattle.lists.proofs.Members.{in-keep}
use Rattle.tasks.specs.declared.Task.{Task}
use Rattle.tasks.specs.Tasks.{finish, waiting_phase, phase_at, stamped, booked}
use Rattle.tasks.proofs.Laws.{is-waiting}
use Rattle.board.specs.declared.Board.{Board}
use Rattle.board.specs.declared.Answer.{Answer}
use Rattle.board.specs.declared.Answer.TheVariants.{Rejected, Placed, Refused}
use Rattle.board.specs.Refusals.{live_of}
use Rattle.board.specs.Calls.{submitted, withdrawn}
use Rattle.events.specs.declared.Ask.{Ask}
use Rattle.events.specs.declared.Event.{Event}
use Rattle.events.specs.declared.Event.TheVariants.{NewBoard, Submit, Clock, Withdraw, GridBoard}
use Rattle.events.specs.Records.{submission_of}
use Rattle.events.proofs.RoundTrip.{Bytes}
use Rattle.steps.specs.declared.State.{State}
use Rattle.session.specs.Recording.{first_state, outcome, story}
use Rattle.session.proofs.run.Reads as run
use Rattle.promises.specs.Ledger.{entered, struck, ledger_after, Account, account_after}
use Rattle.promises.proofs.Session.{Honest}
use Rattle.promises.proofs.Recordings.{account, events_in, code-honest, recording-after}

-- the events that end a promise: any new board, refused or not, and a withdrawal of its id before its start that is not refused
pub data Ends (b : Board) (k : Task) : Event → Type 0 where
  new : (W H : ℕ) → Ends b k (NewBoard W H)
  gridded : (W H g : ℕ) → Ends b k (GridBoard W H g)
  owner : (n : ℕ) → k.id ≡ n → b.now < k.start → (withdrawn b n).number ≡ 0 → Ends b k (Withdraw n)

-- one of some events ends it
pub data EndsIn (k : Task) : State → List Event → Type 0 where
  now : {s : State} {v : Event} {vs : List Event} → Ends s.board k v → EndsIn k s (v ∷ vs)
  later : {s : State} {v : Event} {vs : List Event} → EndsIn k (outcome s v).state vs → EndsIn k s (v ∷ vs)

-- it has finished, or is a live task as it was promised
abbrev pub Stands : Board → Task → Type 0
Stands b k = (finish k ≤ b.now) ⊎ (stamped b.now k ∈ live_of b)

-- A PLACE ANSWERED IS A PROMISE
pub promise-made : (s : State) (ks : List Task) (n : ℕ) (q : Ask) {c t f : ℕ} → (submitted s.board n (submission_of q)).answer ≡ Placed c t f
    → booked s.board.now (submission_of q) t c ∈ ledger_after s ks (Submit n q)
unfolding ledger_after entered
promise-made s ks n q e = rw (e, entered) (here refl)

-- NO OTHER EVENT ends a promise
pub promise-stays : (s : State) (ks : List Task) (v : Event) (k : Task) → k ∈ ks → (k ∈ ledger_after s ks v) ⊎ Ends s.board k v
unfolding ledger_after entered struck
promise-stays s ks (NewBoard W H) k m = inr (new W H)
promise-stays s ks (GridBoard W H g) k m = inr (gridded W H g)
promise-stays s ks (Clock i) k m = inl m
promise-stays s ks (Submit n q) k m = inl (go (submitted s.board n (submission_of q)).answer)
  where
    go : (x : Answer) → k ∈ entered s.board (submission_of q) x ks
    go Rejected = m
    go (Placed c t f) = there m
    go (Refused r) = m
promise-stays s ks (Withdraw n) k m = go (withdrawn s.board n).number refl
  where
    b : Board
    b = s.board

    of : (x y : Bool) → eqb k.id n ≡ x → waiting_phase (phase_at b.now k) ≡ y → (withdrawn b n).number ≡ 0 → (k ∈ struck b 0 n ks) ⊎ Ends b k (Withdraw n)
    of true true p q e = inr (owner n (eqb-true k.id n p) (ltb-true b.now k.start (sym (is-waiting b.now k) ∙ q)) e)
    of true false p q e = inl (in-keep _ m (rw (p, q) tt))
    of false y p q e = inl (in-keep _ m (rw p tt))

    go : (r : ℕ) → (withdrawn b n).number ≡ r → (k ∈ struck b r n ks) ⊎ Ends b k (Withdraw n)
    go zero e = of (eqb k.id n) (waiting_phase (phase_at b.now k)) refl refl e
    go (suc r) e = inl m

-- over some events
pub promise-after : (c : Account) (vs : List Event) (k : Task) → k ∈ c.promises → (k ∈ (account_after c vs).promises) ⊎ EndsIn k c.state vs
unfolding account_after
promise-after c [] k m = inl m
promise-after c (v ∷ vs) k m = go (λ x. promise-after next vs k x) (promise-stays c.state c.promises v k m)
  where
    next : Account
    next = record { state = (outcome c.state v).state; promises = ledger_after c.state c.promises v }

    go : (k ∈ ledger_after c.state c.promises v → (k ∈ (account_after next vs).promises) ⊎ EndsIn k (outcome c.state v).state vs)
        → (k ∈ ledger_after c.state c.promises v) ⊎ Ends c.state.board k v → (k ∈ (account_after next vs).promises) ⊎ EndsIn k c.state (v ∷ vs)
    go below (inr x) = inr (now x)
    go below (inl x) = on (below x)
      where
        on : (k ∈ (account_after next vs).promises) ⊎ EndsIn k (outcome c.state v).state vs → (k ∈ (account_after next vs).promises) ⊎ EndsIn k c.state (v ∷ vs)
        on (inl y) = inl y
        on (inr y) = inr (later y)

-- so a board that is honest by the ledger after them has it
module _ (c : Account) (vs : List Event) (k : Task) (m : k ∈ c.promises) (b : Board) (o : Honest b (account_after c vs).promises) where
  kept : EndsIn k c.state vs ⊎ Stands b k
  kept = go (promise-after c vs k m)
    where
      go : (k ∈ (account_after c vs).promises) ⊎ EndsIn k c.state vs → EndsIn k c.state vs ⊎ Stands b k
      go (inl x) = inr (o.stands k x)
      go (inr x) = inl x

-- A PROMISE THROUGH `session::run`, by its promise as it stands in the code: an event that was run ends it, or it stands on the board that is returned
pub code-kept : (κs : _) (a : _) (r : _) (z : _) → run.Post κs a r z
    → let s = a.0 in let n = a.1.0 in let bytes = a.1.1.0.now in let lent = a.1.1.1.0.now in
    (ks : List Task) → Bytes bytes → Honest s.board ks → (k : Task) → k ∈ ks → EndsIn k s (events_in s n bytes (length lent)) ⊎ Stands r.state.board k
code-kept κs a r z e ks h o k m = kept (account a.0 ks) _ k m r.state.board (code-honest κs a r z e ks h o)

account-on : (c : Account) (us vs : List Event) → account_after c (us ++ vs) ≡ account_after (account_after c us) vs
unfolding account_after
account-on c [] vs = refl
account-on c (u ∷ us) vs = account-on (record { state = (outcome c.state u).state; promises = ledger_after c.state c.promises u }) us vs

-- A PROMISE OF A RECORDING OF BYTES, from the board of zeros: the events us have made it, and vs come after them; one of vs ends it, or it stands
pub promise-kept : (bytes : List ℕ) → Bytes bytes → (us vs ws : List Event) → (story bytes).events ≡ (us ++ vs) ++ ws → (k : Task)
    → let c = account_after (account first_state []) us in k ∈ c.promises → EndsIn k c.state vs ⊎ Stands (account_after c vs).state.board k
promise-kept bytes h us vs ws e k m =
    let c = account_after (account first_state []) us in
    kept c vs k m (account_after c vs).state.board
    (subst (λ x. Honest x.state.board x.promises) (account-on (account first_state []) us vs) (recording-after bytes h (us ++ vs) ws e))
