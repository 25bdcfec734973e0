-- The loop of a run: what is left of the recording gives what is left of the lines, the board and the bytes. Assumes nothing.
use Prim.Native.Nat.{ℕ, zero, suc, ◌+◌, ◌-◌, ◌*◌, ◌≤◌, ◌<◌}
use mathlib.Core.Path.{◌≡◌, refl, sym, ap, ap₂, ◌∙◌, subst}
use mathlib.Core.Bool.{Bool, true, false, cond}
use mathlib.Core.List.{List, [], ◌∷◌, ◌++◌, append-nil, append_assoc}
use native.Mathlib.Nat.{zero-add}
use native.Mathlib.Omega.{arith}
use lib.Dec.{T}
use lib.ListN.{length, drop, set, replicate, length-append, length-drop}
use Rattle.tasks.specs.Tasks.{free_slot}
use lib.Seq.{sets, sets-eq, length-sets, drop-drop}
use Rattle.lists.specs.Lists.{over_front}
use Rattle.lists.proofs.Stores.{sets-append}
use Rattle.tasks.specs.declared.Device.{Device}
use Rattle.tasks.specs.declared.Task.{Task}
use Rattle.slots.specs.Slots.{sound, all_aged_to}
use Rattle.slots.proofs.Soundness.{sound-out}
use Rattle.slots.proofs.Ageing.{aged-now}
use Rattle.std.proofs.Common.{Option, Result}
use Rattle.std.specs.Option.{is_some}
use Rattle.std.specs.Result.{is_ok, result_ok}
use Rattle.survey.specs.declared.Findings.{Findings}
use Rattle.soundness.specs.Tested.{Stood}
use Rattle.events.specs.declared.Event.{Event}
use Rattle.std.specs.Prelude.{Ok, Err, Some, None}
use Rattle.events.specs.Records.{Reading}
use Rattle.events.specs.declared.ReadError.TheVariants.{CutShort, Unknown}
use Rattle.events.specs.Records.{kind_of, read_from}
use Rattle.events.proofs.Calls.{taken-there}
use Rattle.steps.specs.declared.Brief.{Brief}
use Rattle.steps.specs.declared.State.{State}
use Rattle.steps.specs.declared.Change.{Change}
use Rattle.steps.specs.declared.Change.TheVariants.{Nothing, Booked, Freed, Cleared}
use Rattle.steps.specs.declared.Done.{Done}
use Rattle.session.specs.Recording.{most_events, Line, line_of, Outcome, outcome, Run, still, ran_from, line_numbers, room_for, ran, ran_buffer}
use Rattle.steps.specs.Standing.{state_of, Keeps, Follows, as_booked, changed}

-- a whole record, and none
pub ran-got : (m : ℕ) (b : State) (n : ℕ) (bytes : List ℕ) (v : Event) (size : ℕ) → read_from bytes ≡ Ok (Some (v, size))
    → let later : Run = ran_from m (outcome b v).state (suc n) (drop size bytes) in
    ran_from (suc m) b n bytes
    ≡ record { lines = line_of (suc n) v (outcome b v).answer ∷ later.lines; events = v ∷ later.events; state = later.state; taken = size + later.taken }
unfolding ran_from
ran-got m b n bytes v size e = rw (e, ran_from)

ran-zero : (b : State) (n : ℕ) (bytes : List ℕ) → ran_from zero b n bytes ≡ still b
unfolding ran_from
ran-zero b n bytes = refl

pub ran-none : (m : ℕ) (b : State) (n : ℕ) (bytes : List ℕ) → ((v : Event) (size : ℕ) → read_from bytes ≡ Ok (Some (v, size)) → ⊥) → ran_from m b n bytes ≡ still b
unfolding ran_from
ran-none zero b n bytes f = refl
ran-none (suc m) b n bytes f = go (read_from bytes) refl
  where
    go : (r : Reading) → read_from bytes ≡ r → ran_from (suc m) b n bytes ≡ still b
    go (Ok None) e = rw (e, ran_from)
    go (Ok (Some (v, size))) e = absurd (f v size e)
    go (Err (CutShort k)) e = rw (e, ran_from)
    go (Err (Unknown k)) e = rw (e, ran_from)

pub words_append : (xs ys : List Line) → line_numbers (xs ++ ys) ≡ line_numbers xs ++ line_numbers ys
unfolding line_numbers
words_append [] ys = refl
words_append (x ∷ xs) ys = ap (λ l. x.event ∷ x.kind ∷ x.answer ∷ x.column ∷ x.start ∷ x.finish ∷ l) (words_append xs ys)

pub words-length : (xs : List Line) → length (line_numbers xs) ≡ length xs * 6
unfolding line_numbers
words-length [] = refl
words-length (x ∷ xs) = let h = words-length xs in omega arith

-- an event's change to the records, as the code makes it
pub changed-nothing : {x : Change} (tasks : List Task) → x ≡ Nothing → tasks ≡ changed x tasks
unfolding changed
changed-nothing tasks e = rw e

pub changed-booked : {x : Change} {slot : ℕ} {k : Task} (tasks : List Task) → x ≡ Booked slot k → set tasks slot k ≡ changed x tasks
unfolding changed
changed-booked tasks e = rw e

pub changed-freed : {x : Change} {slot : ℕ} {k : Task} (tasks : List Task) → x ≡ Freed slot → k ≡ free_slot → set tasks slot k ≡ changed x tasks
unfolding changed
changed-freed {slot} tasks e q = rw e (ap (set tasks slot) q)

pub changed-cleared : {x : Change} {k : Task} (tasks : List Task) → x ≡ Cleared → k ≡ free_slot → replicate 64 k ≡ changed x tasks
unfolding changed
changed-cleared tasks e q = rw e (ap (replicate 64) q)

-- after n events
pub record Running (b : State) (number most : ℕ) (bytes lent answers : List ℕ) (tasks : List Task) (live masks : List ℕ) (d : Brief) (at count n : ℕ) : Type 0 where
  pub slots : List Task
  pub keeps : Keeps d slots live masks
  pub size : length tasks ≡ 64
  pub records : slots ≡ as_booked d tasks
  pub done : List Line
  pub lines : (ran_from most b number bytes).lines ≡ done ++ (ran_from (most - n) (state_of slots d) (number + n) (drop at bytes)).lines
  pub state : (ran_from most b number bytes).state ≡ (ran_from (most - n) (state_of slots d) (number + n) (drop at bytes)).state
  pub taken : (ran_from most b number bytes).taken ≡ at + (ran_from (most - n) (state_of slots d) (number + n) (drop at bytes)).taken
  pub words : answers ≡ sets lent 0 (line_numbers done)
  pub told : n ≡ length done
  pub counted : count ≡ n
  pub upto : n ≤ most
  pub inside : at ≤ length bytes

-- what a run begins with, where the board is sound
found-ok : (r : Result Findings Findings) {f : Option Findings} → f ≡ result_ok r → (v : Findings) → f ≡ Some v → ◌≡◌ {A = Result Findings Findings} r (Ok v)
found-ok (Ok w) e v q = let z : w ≡ v = cc in ap (λ x. Ok x) z
found-ok (Err w) e v q = cc

-- AT THE BEGIN: the board that was handed over, tested once
pub run-begin : (tasks : List Task) (clock : ℕ) (D : Device) (number most : ℕ) (bytes lent live masks : List ℕ) (r : Result Findings Findings) {f : Option Findings} → Stood D clock tasks live masks r
    → f ≡ result_ok r → is_some f ≡ is_ok r
    → let d : Brief = record { clock = clock; device = D; found = f } in
    Running (state_of tasks d) number most bytes lent lent tasks live masks d 0 0 0
unfolding line_numbers
run-begin tasks clock D number most bytes lent live masks r {f} o e w = record {
  slots = tasks;
  keeps = record {
    slots = o.tested.slots;
    size = o.tested.size;
    wide = o.wide;
    good = sym (w ∙ o.tested.sound);
    kept = λ v q. o.tested.kept v (found-ok r e v q);
    masked = λ v q. o.masked v (found-ok r e v q);
    used = λ v q. rw (found-ok r e v q) at o.tested.used;
  };
  size = o.tested.slots;
  records = as-booked (is_some f) (w ∙ o.tested.sound);
  done = [];
  lines = ap (λ x. (ran_from x (begun) number bytes).lines) first ∙ ap (λ x. (ran_from (most - 0) (begun) x bytes).lines) start;
  state = ap (λ x. (ran_from x (begun) number bytes).state) first ∙ ap (λ x. (ran_from (most - 0) (begun) x bytes).state) start;
  taken = ap (λ x. (ran_from x (begun) number bytes).taken) first ∙ ap (λ x. (ran_from (most - 0) (begun) x bytes).taken) start ∙ sym (zero-add _);
  words = refl;
  told = refl;
  counted = refl;
  upto = omega arith;
  inside = omega arith;
}
  where
    begun : State
    begun = record { board = record { tasks = tasks; now = clock; device = D } }

    first : most ≡ most - 0
    first = omega arith

    start : number ≡ number + 0
    start = omega arith

    as-booked : (x : Bool) → x ≡ sound D clock tasks → tasks ≡ cond x (all_aged_to clock tasks) tasks
    as-booked true e = sym (aged-now D clock tasks (sound-out D clock tasks (subst T e tt)))
    as-booked false e = refl

module _ {b : State} {number most : ℕ} {bytes lent answers : List ℕ} {tasks : List Task} {live masks : List ℕ} {d : Brief} {at count n : ℕ}
    (o : Running b number most bytes lent answers tasks live masks d at count n) where
  abbrev pub now : State
  now = state_of o.slots d

  -- the run of what is left
  abbrev pub rest : Run
  rest = ran_from (most - n) now (number + n) (drop at bytes)

  pub same-room : length answers ≡ length lent
  same-room = ap length o.words ∙ length-sets lent 0 (line_numbers o.done)

  -- AN EVENT MORE
  module _ (h : n < most) {v : Event} {taken : ℕ} (t : read_from (drop at bytes) ≡ Ok (Some (v, taken))) {e : Done} {live' masks' : List ℕ}
      (q : (ks : List Task) → Keeps d ks live masks → Follows d ks (outcome (state_of ks d) v) e live' masks')
      {after : List ℕ} {kind : ℕ} (k : kind ≡ kind_of v)
      (a : after ≡ sets answers (n * 6) ((number + n + 1) ∷ kind ∷ e.number ∷ e.column ∷ e.start ∷ e.finish ∷ []))
      {next : List Task} (c : next ≡ changed e.change tasks) (z : length next ≡ 64) where
    abbrev out : Outcome
    out = outcome now v

    abbrev line : Line
    line = line_of (suc (number + n)) v out.answer

    abbrev later : Run
    later = ran_from (most - (n + 1)) (state_of out.state.board.tasks e.brief) (number + (n + 1)) (drop (at + taken) bytes)

    g : Follows d o.slots out e live' masks'
    g = q o.slots o.keeps

    -- one record off what is left
    one : rest ≡ record { lines = line ∷ later.lines; events = v ∷ later.events; state = later.state; taken = taken + later.taken }
    one =
        let m : most - n ≡ suc (most - (n + 1)) = omega (arith, h) in
        let c1 : suc (number + n) ≡ number + (n + 1) = omega arith in
        ap (λ x. ran_from x now (number + n) (drop at bytes)) m ∙ ran-got (most - (n + 1)) now (number + n) (drop at bytes) v taken t
        ∙ ap (λ (x : Run). record { lines = line ∷ x.lines; events = v ∷ x.events; state = x.state; taken = taken + x.taken })
        (ap (λ x. ran_from (most - (n + 1)) out.state x (drop taken (drop at bytes))) c1
        ∙ ap (λ x. ran_from (most - (n + 1)) out.state (number + (n + 1)) x) (drop-drop taken at bytes)
        ∙ ap (λ x. ran_from (most - (n + 1)) x (number + (n + 1)) (drop (at + taken) bytes)) there)
      where
        there : out.state ≡ state_of out.state.board.tasks e.brief
        there = λ i. record { board = record { tasks = out.state.board.tasks; now = sym g.clock i; device = sym g.device i } }

    pub run_more : Running b number most bytes lent after next live' masks' e.brief (at + taken) (n + 1) (n + 1)
    unfolding line_numbers line_of
    run_more = record {
      slots = out.state.board.tasks;
      keeps = g.keeps;
      size = z;
      records = g.records tasks o.size o.records ∙ ap (as_booked e.brief) (sym c);
      done = o.done ++ (line ∷ []);
      lines = o.lines ∙ ap (λ (x : Run). o.done ++ x.lines) one ∙ sym (append_assoc o.done (line ∷ []) later.lines);
      state = o.state ∙ ap (λ (x : Run). x.state) one;
      taken = o.taken ∙ ap (λ (x : Run). at + x.taken) one ∙ (let y : at + (taken + later.taken) ≡ at + taken + later.taken = omega arith in y);
      words =
          let behind : n * 6 ≡ 0 + length (line_numbers o.done) = omega (arith, words-length o.done, o.told) in
          let event : number + n + 1 ≡ suc (number + n) = omega arith in
          let six : List ℕ = (number + n + 1) ∷ kind ∷ e.number ∷ e.column ∷ e.start ∷ e.finish ∷ [] in
          let told : six ≡ line_numbers (line ∷ []) = λ i. event i ∷ k i ∷ g.number i ∷ g.column i ∷ g.start i ∷ g.finish i ∷ [] in
          a ∙ ap (λ x. sets x (n * 6) six) o.words
          ∙ ap₂ (λ x y. sets (sets lent 0 (line_numbers o.done)) x y) behind told
          ∙ sets-append lent 0 (line_numbers o.done) (line_numbers (line ∷ [])) ∙ ap (sets lent 0) (sym (words_append o.done (line ∷ [])));
      told = omega (arith, length-append o.done (line ∷ []), o.told);
      counted = refl;
      upto = omega (arith, h);
      inside = let y = taken-there (drop at bytes) v taken t in omega (arith, length-drop at bytes, o.inside);
    }

  -- nothing more: as many events as may be, or no whole record
  pub full : most ≤ n → rest ≡ still now
  full h = stopped (most - n) (omega arith)
    where
      stopped : (x : ℕ) → x ≡ 0 → ran_from x now (number + n) (drop at bytes) ≡ still now
      stopped zero y = ran-zero _ _ _
      stopped (suc x) y = absurd (omega arith)

  pub no-more : ((v : Event) (size : ℕ) → read_from (drop at bytes) ≡ Ok (Some (v, size)) → ⊥) → rest ≡ still now
  no-more = ran-none (most - n) now (number + n) (drop at bytes)

  -- AFTER THE LAST
  module _ (ended : rest ≡ still now) (m : most ≡ room_for (length lent) number) {after : List Task} (c : after ≡ as_booked d tasks) where
    every : (ran_from most b number bytes).lines ≡ o.done
    every = o.lines ∙ ap (λ (x : Run). o.done ++ x.lines) ended ∙ append-nil o.done

    pub run_end : (record { count = count; taken = at; state = state_of after d } ≡ ran b number bytes (length lent))
        × ((answers ≡ ran_buffer b number bytes lent) × ((count * 6 ≤ length lent) × (at ≤ length bytes) × (number ≤ most_events → number + count ≤ most_events)))
    unfolding ran ran_buffer
    run_end = (
      rw (← m) (λ i. record { count = all-counted i; taken = bytes-taken i; state = follows i }),
      (
        rw (← m) (o.words ∙ over ∙ ap (λ x. over_front (line_numbers x) lent) (sym every)),
        (omega (arith, o.upto, o.counted), o.inside, λ x. omega (arith, o.upto, o.counted)),
      ),
    )
      where
        over : sets lent 0 (line_numbers o.done) ≡ over_front (line_numbers o.done) lent
        over = sets-eq (line_numbers o.done) lent 0 (omega (arith, words-length o.done, o.told, o.upto)) ∙ rw zero-add

        all-counted : count ≡ length (ran_from most b number bytes).lines
        all-counted = o.counted ∙ o.told ∙ sym (ap length every)

        bytes-taken : at ≡ (ran_from most b number bytes).taken
        bytes-taken = (let y : at ≡ at + 0 = omega arith in y) ∙ sym (o.taken ∙ ap (λ (x : Run). at + x.taken) ended)

        follows : state_of after d ≡ (ran_from most b number bytes).state
        follows = ap (λ x. state_of x d) (c ∙ sym o.records) ∙ sym (o.state ∙ ap (λ (x : Run). x.state) ended)
