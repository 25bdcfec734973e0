-- FOR EVERY WAY TO CUT THE FILES INTO PIECES: what `summary` writes is the text of the whole, and no figure wraps. Assumes nothing.
use Prim.Native.Nat.{ℕ, suc, ◌+◌, ◌-◌, ◌≤◌, ◌<◌}
use mathlib.Core.Path.{◌≡◌, refl, sym, ap, ap₂, ◌∙◌, subst}
use mathlib.Core.Bool.{true, false}
use mathlib.Core.List.Memᴰ
use mathlib.Core.List.{List, [], ◌∷◌, ◌++◌, append-nil, append_assoc}
use mathlib.Core.List.Memᴰ.{not-nil as nowhere}
use mathlib.Core.Logic.{◌⊎◌, inl, inr}
use native.Mathlib.Omega.{arith}
use lib.ListN.{length, drop, length-append}
use Rattle.lists.specs.Lists.{◌∈◌}
use Rattle.tasks.specs.Numbers.{last_instant}
use Rattle.text.specs.Text.{ascii}
use Rattle.text.specs.Output.{Output}
use Rattle.sheets.specs.Sheets.{plus, wrapped, sheet_text}
use Rattle.events.specs.declared.Event.{Event}
use Rattle.events.specs.Records.{read_from}
use Rattle.session.specs.declared.Ending.{Ending}
use Rattle.session.specs.declared.Ending.TheVariants.{NotYet, AtEnd, In15, In16, AtLast, PastLast}
use Rattle.session.specs.Recording.{Line, Story, most_events, first_state}
use Rattle.session.proofs.Recorded.{told as tells}
use Rattle.reader.specs.Reader.{first_reader, Heard, open?, heard, end_in, end_of}
use Rattle.reader.proofs.Cuts.{rest_of, Sane, first-sane, closing, closed-tells, heard-takes, Reads, done, feed, reads-tell}
use Rattle.reader.proofs.Counts.{heard-counts}
use Rattle.stops.specs.Stops.{stop_words, stop_said}
use Rattle.figures.specs.Figures.{Trial, trials_from, sheet_of}
use Rattle.figures.proofs.Laws.{figures-add}
use Rattle.summing.specs.declared.Summing.{Summing}
use Rattle.summing.specs.Summary.{File, whole?, Sum, before, stops_in, story_of, sum_from, summary_text}
use Rattle.summing.specs.Summing.{first_summing, reader_at, next_file, summed, file_end, sum_text, sum_said}
use Rattle.summing.proofs.Events.{Leaves, trials-append, trials-length, heard-leaves, starts-in-time, figures-fit, whole-few}

-- A WAY TO READ A FILE: a piece of what is left, with any room for its lines, until no byte is left; the machine at its end
pub data Feeds : Summing → List ℕ → Summing → Type 0 where
  none_left : (s : Summing) → Feeds s [] s
  piece : (s : Summing) (p more : List ℕ) (words : ℕ) {last : Summing}
      → Feeds (summed s p words).summing (drop (summed s p words).taken (p ++ more)) last → Feeds s (p ++ more) last

-- A WAY TO READ FILES one after the other, until none is left or the summary stops in one; the machine at its end, and the name of a file
pub data Sums : Summing → List File → Summing → List ℕ → Type 0 where
  all_read : (s : Summing) (name : List ℕ) → Sums s [] s name
  next : (s : Summing) (f : File) (fs : List File) {m last : Summing} {name : List ℕ}
      → Feeds (next_file s) f.bytes m → whole? (file_end m) ≡ true → Sums m fs last name → Sums s (f ∷ fs) last name
  stops : (s : Summing) (f : File) (fs : List File) {m : Summing} → Feeds (next_file s) f.bytes m → whole? (file_end m) ≡ false → Sums s (f ∷ fs) m f.name

-- where the machine stands: the events of so many files, those before the file at hand first
pub record Stands (s : Summing) (files : ℕ) (past here : List Trial) : Type 0 where
  pub figures : s.figures ≡ sheet_of files (past ++ here)
  pub number : s.reader.number ≡ length (past ++ here)
  pub before : s.before ≡ length past
  pub few : s.reader.number ≤ most_events
  pub in-time : (t : Trial) → t ∈ past ++ here → t.start ≤ last_instant

-- what a file has told
pub record Told (s : Summing) (files : ℕ) (past here : List Trial) (bytes : List ℕ) (last : Summing) : Type 0 where
  pub lines : List Line
  pub events : List Event
  pub reads : Reads s.reader bytes lines events last.reader
  pub stands : Stands last files past (here ++ trials_from s.reader.state events)

both-in : (P : Trial → Type 0) (xs ys : List Trial) → ((t : Trial) → t ∈ xs → P t) → ((t : Trial) → t ∈ ys → P t) → (t : Trial) → t ∈ xs ++ ys → P t
both-in P xs ys f g t q = pick (Memᴰ.append_cases xs q)
  where
    pick : (t ∈ xs) ⊎ (t ∈ ys) → P t
    pick (inl m) = f t m
    pick (inr m) = g t m

-- A PIECE
piece-stands : (s : Summing) (files : ℕ) (past here : List Trial) → files < 9223372036854775808 → Stands s files past here → (p : List ℕ) (words : ℕ)
    → Stands (summed s p words).summing files past (here ++ trials_from s.reader.state (heard s.reader p words).events)
unfolding summed
piece-stands s files past here f o p words = record {
  figures = ap (λ l. wrapped (plus l (sheet_of 0 more))) o.figures ∙ ap wrapped (figures-add files 0 (past ++ here) more ∙ ap (λ n. sheet_of n ((past ++ here) ++ more)) same-files)
      ∙ ap (λ l. wrapped (sheet_of files l)) (append_assoc past here more) ∙ figures-fit files (past ++ (here ++ more)) f (omega (arith, count, l.few o.few)) slow;
  number = count;
  before = o.before;
  few = l.few o.few;
  in-time = slow;
}
  where
    h : Heard
    h = heard s.reader p words

    more : List Trial
    more = trials_from s.reader.state h.events

    l : Leaves s.reader h
    l = heard-leaves s.reader p words

    same-files : files + 0 ≡ files
    same-files = omega arith

    count : h.reader.number ≡ length (past ++ (here ++ more))
    count = omega (
      arith,
      o.number,
      heard-counts s.reader p words,
      trials-length s.reader.state h.events,
      length-append past here,
      length-append past (here ++ more),
      length-append here more,
    )

    slow : (t : Trial) → t ∈ past ++ (here ++ more) → t.start ≤ last_instant
    slow = subst (λ ts. (t : Trial) → t ∈ ts → t.start ≤ last_instant) (append_assoc past here more)
        (both-in (λ t. t.start ≤ last_instant) (past ++ here) more o.in-time (starts-in-time s.reader.state h.events))

-- A FILE
feeds-told : {s last : Summing} {bytes : List ℕ} (files : ℕ) (past here : List Trial) → files < 9223372036854775808
    → Stands s files past here → Feeds s bytes last → Told s files past here bytes last
unfolding summed trials_from
feeds-told files past here f o (none_left s) =
    record { lines = []; events = []; reads = done s.reader; stands = subst (Stands s files past) (sym (append-nil here)) o }
feeds-told files past here f o (piece s p more words {last} way) =
    let h : Heard = heard s.reader p words in
    let t = feeds-told files past (here ++ trials_from s.reader.state h.events) f (piece-stands s files past here f o p words) way in
    record {
      lines = h.lines ++ t.lines;
      events = h.events ++ t.events;
      reads = feed s.reader p more words t.reads;
      stands = subst (Stands last files past) (append_assoc here (trials_from s.reader.state h.events) (trials_from h.reader.state t.events)
          ∙ ap (λ x. here ++ x) (ap (λ st. trials_from s.reader.state h.events ++ trials_from st t.events)
          (heard-leaves s.reader p words).state ∙ sym (trials-append s.reader.state h.events t.events))) t.stands;
    }

-- the reader at the begin of a file, and how its recording goes
at-sane : (n : ℕ) → n < most_events → Sane (reader_at n)
unfolding reader_at first_reader
at-sane n h = record { held = first-sane.held; size = omega arith; begun = first-sane.begun; going = λ x. h; not-15 = first-sane.not-15 }

at_rest : (n : ℕ) (bytes : List ℕ) → rest_of (reader_at n) bytes ≡ story_of n bytes
unfolding rest_of reader_at first_reader open?
at_rest n bytes = refl

at-state : (n : ℕ) → (reader_at n).state ≡ first_state
unfolding reader_at first_reader
at-state n = refl

-- ANOTHER FILE BEGINS
next-stands : (s : Summing) (files : ℕ) (past here : List Trial) → suc files < 9223372036854775808 → Stands s files past here → Stands (next_file s) (suc files) (past ++ here) []
unfolding next_file reader_at
next-stands s files past here f o = record {
  figures = ap (λ l. wrapped (plus l (sheet_of 1 []))) o.figures ∙ ap wrapped (figures-add files 1 (past ++ here) [] ∙ ap (λ n. sheet_of n ((past ++ here) ++ [])) one_more)
      ∙ figures-fit (suc files) ((past ++ here) ++ []) f (omega (arith, count, o.few)) (λ t q. o.in-time t (subst (λ l. t ∈ l) (append-nil (past ++ here)) q));
  number = count;
  before = o.number;
  few = o.few;
  in-time = λ t q. o.in-time t (subst (λ l. t ∈ l) (append-nil (past ++ here)) q);
}
  where
    one_more : files + 1 ≡ suc files
    one_more = omega arith

    count : s.reader.number ≡ length ((past ++ here) ++ [])
    count = o.number ∙ ap length (sym (append-nil (past ++ here)))

-- A FILE READ: its events and its end are those of its recording
pub record Read (s : Summing) (files : ℕ) (all : List Trial) (f : File) (m : Summing) : Type 0 where
  pub stands : Stands m (suc files) all (trials_from first_state (story_of (length all) f.bytes).events)
  pub ends : file_end m ≡ (story_of (length all) f.bytes).end
  pub events : m.reader.number - m.before ≡ length (story_of (length all) f.bytes).events

file-read : (s : Summing) (files : ℕ) (past here : List Trial) → suc files < 9223372036854775808 → Stands s files past here → s.reader.number < most_events
    → (f : File) {m : Summing} → Feeds (next_file s) f.bytes m → Read s files (past ++ here) f m
unfolding next_file file_end
file-read s files past here h o q f {m} way = record { stands = there; ends = ap (λ (x : Story). x.end) (sym goes); events = count }
  where
    n : ℕ
    n = s.reader.number

    t : Told (next_file s) (suc files) (past ++ here) [] f.bytes m
    t = feeds-told (suc files) (past ++ here) [] h (next-stands s files past here h o) way

    tell : (rest_of (reader_at n) f.bytes ≡ tells t.lines t.events (rest_of m.reader [])) × Sane m.reader
    tell = reads-tell (at-sane n q) t.reads

    goes : story_of (length (past ++ here)) f.bytes ≡ tells t.lines t.events (closing m.reader)
    goes = ap (λ k. story_of k f.bytes) (sym o.number) ∙ sym (at_rest n f.bytes) ∙ tell.0 ∙ ap (tells t.lines t.events) (closed-tells m.reader tell.1)

    its-events : (story_of (length (past ++ here)) f.bytes).events ≡ t.events
    its-events = ap (λ (x : Story). x.events) goes ∙ append-nil t.events

    there : Stands m (suc files) (past ++ here) (trials_from first_state (story_of (length (past ++ here)) f.bytes).events)
    there = subst (Stands m (suc files) (past ++ here)) (ap₂ trials_from (at-state n) (sym its-events)) t.stands

    count : m.reader.number - m.before ≡ length (story_of (length (past ++ here)) f.bytes).events
    count =
        let k = trials-length first_state (story_of (length (past ++ here)) f.bytes).events in
        omega (arith, there.number, there.before, k, length-append (past ++ here) (trials_from first_state (story_of (length (past ++ here)) f.bytes).events))

-- the files from here on
pub whole-on : (n : ℕ) (f : File) (fs : List File) → whole? (story_of n f.bytes).end ≡ true
    → sum_from n (f ∷ fs) ≡ before (trials_from first_state (story_of n f.bytes).events) (sum_from (n + length (story_of n f.bytes).events) fs)
unfolding sum_from
whole-on n f fs e = rw e

stops-there : (n : ℕ) (f : File) (fs : List File) → whole? (story_of n f.bytes).end ≡ false
    → sum_from n (f ∷ fs) ≡ stops_in f.name (trials_from first_state (story_of n f.bytes).events) (length (story_of n f.bytes).events) (story_of n f.bytes).end
unfolding sum_from
stops-there n f fs e = rw e

-- what is written at the end, from the files that are left
pub record Writes (s : Sum) (files : ℕ) (all : List Trial) (last : Summing) (name : List ℕ) : Type 0 where
  pub out : sum_text last name ≡ sheet_text (sheet_of (files + s.files) (all ++ s.trials)) ++ s.words
  pub err : sum_said last name ≡ s.said

end-words : (name : List ℕ) (n : ℕ) (e : Ending) → whole? e ≡ true → (stop_words name n e ≡ ascii "end\n") × (stop_said name n e ≡ [])
unfolding stop_words stop_said
end-words name n NotYet h = (refl, refl)
end-words name n AtEnd h = (refl, refl)
end-words name n (In15 k) h = absurd (let z : ◌≡◌ {A = ℕ} 0 1 = cc in omega arith)
end-words name n (In16 k) h = absurd (let z : ◌≡◌ {A = ℕ} 0 1 = cc in omega arith)
end-words name n AtLast h = absurd (let z : ◌≡◌ {A = ℕ} 0 1 = cc in omega arith)
end-words name n PastLast h = absurd (let z : ◌≡◌ {A = ℕ} 0 1 = cc in omega arith)

pub sums-write : {s last : Summing} {fs : List File} {name : List ℕ} (files : ℕ) (past here : List Trial) → files + length fs < 9223372036854775808 → Stands s files past here
    → s.reader.number < most_events → whole? (file_end s) ≡ true → Sums s fs last name → Writes (sum_from (length (past ++ here)) fs) files (past ++ here) last name
unfolding sum_text sum_said sum_from
sums-write files past here f o q w (all_read s name) =
    let e = end-words name (s.reader.number - s.before) (file_end s) w in
    let same : files ≡ files + 0 = omega arith in
    record {
      out = ap₂ (λ ns x. sheet_text ns ++ x) (o.figures ∙ ap₂ sheet_of same (sym (append-nil (past ++ here)))) e.0;
      err = e.1;
    }
sums-write files past here f o q w (stops s file fs {m} way e) =
    let r = file-read s files past here (omega (arith, f)) o q file way in
    let sum = stops-there (length (past ++ here)) file fs (sym (ap whole? r.ends) ∙ e) in
    let one : suc files ≡ files + 1 = omega arith in
    record {
      out = ap₂ (λ ns x. sheet_text ns ++ x) (r.stands.figures ∙ ap (λ n. sheet_of n ((past ++ here) ++ trials_from first_state (story_of (length (past ++ here)) file.bytes).events)) one)
          (ap₂ (stop_words file.name) r.events r.ends) ∙ sym (ap (λ (x : Sum). sheet_text (sheet_of (files + x.files) ((past ++ here) ++ x.trials)) ++ x.words) sum);
      err = ap₂ (stop_said file.name) r.events r.ends ∙ sym (ap (λ (x : Sum). x.said) sum);
    }
sums-write files past here f o q w (next s file fs {m} {last} {name} way e more) =
    let r = file-read s files past here (omega (arith, f)) o q file way in
    let n = length (past ++ here) in
    let st = story_of n file.bytes in
    let these = trials_from first_state st.events in
    let few = whole-few (most_events - n) first_state n file.bytes (sym (ap whole? r.ends) ∙ e) in
    let count : length ((past ++ here) ++ these) ≡ n + length st.events = length-append (past ++ here) these ∙ ap (λ k. n + k) (trials-length first_state st.events) in
    let rest = sums-write (suc files) (past ++ here) these (omega (arith, f)) r.stands (omega (arith, r.stands.number, count, few, o.number)) e more in
    let sum = whole-on n file fs (sym (ap whole? r.ends) ∙ e) ∙ ap (λ k. before these (sum_from k fs)) (sym count) in
    let later : Sum = sum_from (length ((past ++ here) ++ these)) fs in
    let more-files : suc files + later.files ≡ files + suc later.files = omega arith in
    record {
      out = rest.out ∙ ap₂ (λ k ts. sheet_text (sheet_of k ts) ++ later.words) more-files (append_assoc (past ++ here) these later.trials)
          ∙ sym (ap (λ (x : Sum). sheet_text (sheet_of (files + x.files) ((past ++ here) ++ x.trials)) ++ x.words) sum);
      err = rest.err ∙ sym (ap (λ (x : Sum). x.said) sum);
    }

-- no file is read yet
first-stands : Stands first_summing 0 [] []
unfolding first_summing first_reader
first-stands = record { figures = refl; number = refl; before = refl; few = omega arith; in-time = λ t q. absurd (nowhere q) }

first-whole : whole? (file_end first_summing) ≡ true
unfolding first_summing file_end end_of first_reader open? end_in read_from
first-whole = refl

first-few : first_summing.reader.number < most_events
unfolding first_summing first_reader
first-few = omega arith

-- what is written in all
abbrev pub wrote : Summing → List ℕ → Output
wrote last name = record { out = sum_text last name; err = sum_said last name }

-- THE THEOREM: however the files come, what is written is the summary of their bytes
pub sums-whole : {fs : List File} {last : Summing} {name : List ℕ} → length fs < 9223372036854775808 → Sums first_summing fs last name → wrote last name ≡ summary_text fs
unfolding summary_text
sums-whole {fs} {last} {name} f way =
    let none : 0 + length fs ≡ length fs = omega arith in
    let w = sums-write 0 [] [] (omega (arith, f)) first-stands first-few first-whole way in
    let no_more : 0 + (sum_from 0 fs).files ≡ (sum_from 0 fs).files = omega arith in
    λ i. record { out = (w.out ∙ ap (λ k. sheet_text (sheet_of k (sum_from 0 fs).trials) ++ (sum_from 0 fs).words) no_more) i; err = w.err i }

-- with room for a line a piece is always taken in part, so that reading a file ends
pub summed-takes : (s : Summing) → Sane s.reader → (p : List ℕ) (words : ℕ) → 0 < length p → 6 ≤ words → 0 < (summed s p words).taken
unfolding summed
summed-takes s sane p words h q = heard-takes s.reader sane p words h q
