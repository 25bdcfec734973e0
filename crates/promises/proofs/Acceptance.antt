-- SUMMARIES ADD UP: what `summary --add` prints of the summaries of groups of files is the summary of all the files. Assumes nothing.
use Prim.Native.Nat.{ℕ, zero, suc, ◌+◌, ◌-◌, ◌≤◌, ◌<◌}
use mathlib.Core.Path.{◌≡◌, refl, sym, ap, ap₂, ◌∙◌}
use mathlib.Core.Bool.{true, false}
use mathlib.Core.List.Memᴰ
use mathlib.Core.List.{List, [], ◌∷◌, ◌++◌, map, append-nil, append_assoc}
use mathlib.Core.List.Memᴰ.{not-nil as nowhere}
use mathlib.Core.Logic.{◌⊎◌, inl, inr}
use native.Mathlib.Nat.{mul-le-mul_right}
use native.Mathlib.Omega.{arith}
use borrow.Author.Tests.{lt-ltb}
use lib.ListN.{length, get_or, drop, length-append}
use Rattle.lists.specs.Lists.{◌∈◌, keep, all?, each, range}
use Rattle.tasks.specs.Numbers.{last_instant}
use Rattle.text.specs.Text.{ascii}
use Rattle.std.specs.Prelude.{Ok, Err, Some, None}
use Rattle.events.specs.Records.{Reading, read_from}
use Rattle.events.specs.declared.ReadError.TheVariants.{CutShort, Unknown}
use Rattle.steps.specs.declared.State.{State}
use Rattle.session.specs.Recording.{outcome, Story, story_from, most_events, first_state}
use Rattle.session.proofs.Recorded.{story-got, story-end, story-cut, story-strange}
use Rattle.sheets.specs.Sheets.{fits?, sheet_text}
use Rattle.figures.specs.Figures.{Trial, trials_from, verdicts, of, came, waited_in, figures_of, sheet_with, sheet_of}
use Rattle.figures.proofs.Laws.{figures-add, figures-length, figures-most}
use Rattle.figures.proofs.Once.{row_told}
use Rattle.summing.specs.Summary.{File, whole?, Sum, before, story_of, sum_from, summary_text}
use Rattle.summing.proofs.Events.{trials-length, starts-in-time, whole-few}
use Rattle.summing.proofs.Whole.{whole-on}
use Rattle.adding.specs.Adding.{whole_text, Good, AllGood, TextsHold, no_text, next-text, sum_of, no_figures, total}
use Rattle.adding.specs.Machine.{begun_state, texts_added, closing}
use Rattle.adding.proofs.Given.{prints}

-- A STORY READ TO ITS END is the same with more room, and wherever its events are counted from
story-room : (left more : ℕ) (s : State) (n m : ℕ) (bytes : List ℕ) → left ≤ more → whole? (story_from left s n bytes).end ≡ true
    → ((story_from more s m bytes).events ≡ (story_from left s n bytes).events) × ((story_from more s m bytes).end ≡ (story_from left s n bytes).end)
story-room zero more s n m [] h e = absurd (let y : true ≡ false = sym e ∙ (unfold story_from in refl) in let z : ◌≡◌ {A = ℕ} 0 1 = cc in omega arith)
story-room zero more s n m (b ∷ bytes) h e = absurd (let y : true ≡ false = sym e ∙ (unfold story_from in refl) in let z : ◌≡◌ {A = ℕ} 0 1 = cc in omega arith)
story-room (suc left) zero s n m bytes h e = absurd (omega (arith, h))
story-room (suc left) (suc more) s n m bytes h e = go (λ c a b ws q. story-room left more c a b ws (omega (arith, h)) q) (read_from bytes) refl
  where
    Same : Story → Story → Type 0
    Same x y = (y.events ≡ x.events) × (y.end ≡ x.end)

    both : {x y : Story} → story_from (suc left) s n bytes ≡ x → story_from (suc more) s m bytes ≡ y → Same x y
        → Same (story_from (suc left) s n bytes) (story_from (suc more) s m bytes)
    both p q k = (ap (λ (z : Story). z.events) q ∙ k.0 ∙ sym (ap (λ (z : Story). z.events) p), ap (λ (z : Story). z.end) q ∙ k.1 ∙ sym (ap (λ (z : Story). z.end) p))

    go : ((c : State) (a b : ℕ) (ws : List ℕ) → whole? (story_from left c a ws).end ≡ true
        → ((story_from more c b ws).events ≡ (story_from left c a ws).events) × ((story_from more c b ws).end ≡ (story_from left c a ws).end))
        → (r : Reading) → read_from bytes ≡ r → Same (story_from (suc left) s n bytes) (story_from (suc more) s m bytes)
    go next (Ok None) q = both (story-end left s n bytes q) (story-end more s m bytes q) (refl, refl)
    go next (Err (CutShort k)) q = both (story-cut left s n bytes k q) (story-cut more s m bytes k q) (refl, refl)
    go next (Err (Unknown k)) q = both (story-strange left s n bytes k q) (story-strange more s m bytes k q) (refl, refl)
    go next (Ok (Some (v, size))) q =
        let r = next (outcome s v).state (suc n) (suc m) (drop size bytes) (sym (ap (λ (x : Story). whole? x.end) (story-got left s n bytes v size q)) ∙ e) in
        both (story-got left s n bytes v size q) (story-got more s m bytes v size q) (ap (λ l. v ∷ l) r.0, r.1)

-- FILES READ TO THEIR ENDS, n events into a summary
unfoldable pub Whole : ℕ → List File → Type 0
Whole n [] = Unit {0}
Whole n (f ∷ fs) = (whole? (story_of n f.bytes).end ≡ true) × Whole (n + length (story_of n f.bytes).events) fs

-- their events with the answers, each file from the board of zeros on
unfoldable pub trials_of : List File → List Trial
trials_of [] = []
trials_of (f ∷ fs) = trials_from first_state (story_of 0 f.bytes).events ++ trials_of fs

-- so are they where the summary has read fewer events before
sooner : (n k : ℕ) (f : File) → k ≤ n → whole? (story_of n f.bytes).end ≡ true
    → ((story_of k f.bytes).events ≡ (story_of n f.bytes).events) × ((story_of k f.bytes).end ≡ (story_of n f.bytes).end)
sooner n k f h e = story-room (most_events - n) (most_events - k) first_state n k f.bytes (omega (arith, h)) e

pub whole-sooner : (n k : ℕ) (fs : List File) → k ≤ n → Whole n fs → Whole k fs
unfolding Whole
whole-sooner n k [] h w = tt
whole-sooner n k (f ∷ fs) h w =
    let s = sooner n k f h w.0 in (
      ap whole? s.1 ∙ w.0,
      whole-sooner (n + length (story_of n f.bytes).events) (k + length (story_of k f.bytes).events) fs (omega (arith, h, ap length s.0)) w.1,
    )

-- WHAT THE SUMMARY OF SUCH FILES IS
whole_sum : (n : ℕ) (fs : List File) → Whole n fs → sum_from n fs ≡ record { trials = trials_of fs; files = length fs; words = ascii "end\n"; said = [] }
unfolding Whole trials_of
whole_sum n [] w = unfold sum_from in refl
whole_sum n (f ∷ fs) w =
    let s = sooner n 0 f (omega arith) w.0 in
    whole-on n f fs w.0
    ∙ ap (before (trials_from first_state (story_of n f.bytes).events)) (whole_sum (n + length (story_of n f.bytes).events) fs w.1)
    ∙ ap (λ es. record { trials = trials_from first_state es ++ trials_of fs; files = suc (length fs); words = ascii "end\n"; said = [] }) (sym s.0)

pub whole-text : (fs : List File) → Whole 0 fs → (summary_text fs).out ≡ whole_text (sheet_of (length fs) (trials_of fs))
unfolding summary_text whole_text
whole-text fs w = ap (λ (s : Sum). sheet_text (sheet_of s.files s.trials) ++ s.words) (whole_sum 0 fs w)

-- they have no more events than may be, and none of them starts later than may be
whole-most : (n : ℕ) (fs : List File) → n ≤ most_events → Whole n fs → n + length (trials_of fs) ≤ most_events
unfolding Whole trials_of
whole-most n [] h w = omega (arith, h)
whole-most n (f ∷ fs) h w =
    let s = sooner n 0 f (omega arith) w.0 in
    let here = trials_from first_state (story_of 0 f.bytes).events in
    let few = whole-few (most_events - n) first_state n f.bytes w.0 in
    let rest = whole-most (n + length (story_of n f.bytes).events) fs (omega (arith, few)) w.1 in
    omega (arith, rest, length-append here (trials_of fs), trials-length first_state (story_of 0 f.bytes).events, ap length s.0)

in-time : (fs : List File) (t : Trial) → t ∈ trials_of fs → t.start ≤ last_instant
unfolding trials_of
in-time [] t q = absurd (nowhere q)
in-time (f ∷ fs) t q = go (λ m. in-time fs t m) (Memᴰ.append_cases (trials_from first_state (story_of 0 f.bytes).events) q)
  where
    go : (t ∈ trials_of fs → t.start ≤ last_instant) → (t ∈ trials_from first_state (story_of 0 f.bytes).events) ⊎ (t ∈ trials_of fs) → t.start ≤ last_instant
    go next (inl m) = starts-in-time first_state (story_of 0 f.bytes).events t m
    go next (inr m) = next m

small-fits : (ns : List ℕ) → ((i : ℕ) → get_or ns i 0 < 18446744073709551616) → fits? ns ≡ true
unfolding fits? all?
small-fits [] h = refl
small-fits (n ∷ ns) h = rw (lt-ltb n 18446744073709551616 (h 0)) (small-fits ns (λ i. h (suc i)))

pub whole-fits : (fs : List File) → length fs < 9223372036854775808 → Whole 0 fs → fits? (sheet_of (length fs) (trials_of fs)) ≡ true
whole-fits fs f w =
    let few = whole-most 0 fs (omega arith) w in
    let n : length (trials_of fs) ≤ most_events = omega (arith, few) in
    small-fits (sheet_of (length fs) (trials_of fs))
    (λ i. omega (arith, f, n, figures-most last_instant (omega arith) (length fs) (trials_of fs) (in-time fs) i, mul-le-mul_right last_instant n))

pub whole-good : (fs : List File) → length fs < 9223372036854775808 → Whole 0 fs → Good (sheet_of (length fs) (trials_of fs))
whole-good fs f w = record {
  size = figures-length (length fs) (trials_of fs);
  small = whole-fits fs f w;
  told = row_told (length fs) (trials_of fs);
}

-- GROUPS OF FILES
abbrev pub together : List (List File) → List File
together gs = each gs (λ g. g)

abbrev pub summaries : List (List File) → List (List ℕ)
summaries gs = map (λ g. (summary_text g).out) gs

abbrev sheets_of : List (List File) → List (List ℕ)
sheets_of gs = map (λ g. sheet_of (length g) (trials_of g)) gs

trials-together : (fs gs : List File) → trials_of (fs ++ gs) ≡ trials_of fs ++ trials_of gs
unfolding trials_of
trials-together [] gs = refl
trials-together (f ∷ fs) gs =
    ap (λ l. trials_from first_state (story_of 0 f.bytes).events ++ l) (trials-together fs gs)
    ∙ sym (append_assoc (trials_from first_state (story_of 0 f.bytes).events) (trials_of fs) (trials_of gs))

whole_apart : (n : ℕ) (fs gs : List File) → Whole n (fs ++ gs) → Whole n fs × Whole n gs
unfolding Whole
whole_apart n [] gs w = (tt, w)
whole_apart n (f ∷ fs) gs w =
    let r = whole_apart (n + length (story_of n f.bytes).events) fs gs w.1 in
    ((w.0, r.0), whole-sooner (n + length (story_of n f.bytes).events) n gs (omega arith) r.1)

sum-together : (files : ℕ) (ts : List Trial) (gs : List (List File))
    → sum_of (sheet_of files ts) (sheets_of gs) ≡ sheet_of (files + length (together gs)) (ts ++ trials_of (together gs))
unfolding sum_of each
sum-together files ts [] =
    let e : files ≡ files + 0 = omega arith in
    ap₂ sheet_of e (sym (append-nil ts) ∙ ap (λ l. ts ++ l) (unfold trials_of in refl))
sum-together files ts (g ∷ gs) =
    let e : files + length g + length (together gs) ≡ files + length (g ++ together gs) = omega (arith, length-append g (together gs)) in
    ap (λ ns. sum_of ns (sheets_of gs)) (figures-add files (length g) ts (trials_of g))
    ∙ sum-together (files + length g) (ts ++ trials_of g) gs
    ∙ ap₂ sheet_of e (append_assoc ts (trials_of g) (trials_of (together gs)) ∙ ap (λ l. ts ++ l) (sym (trials-together g (together gs))))

none_yet : no_figures ≡ sheet_of 0 []
unfolding sheet_of verdicts sheet_with figures_of of came waited_in keep each range
none_yet = refl

texts-hold : (gs : List (List File)) → length (together gs) < 9223372036854775808 → Whole 0 (together gs) → TextsHold (summaries gs) (sheets_of gs)
unfolding each AllGood
texts-hold [] f w = no_text
texts-hold (g ∷ gs) f w =
    let apart = whole_apart 0 g (together gs) w in
    let long = length-append g (together gs) in
    next-text {sheets = sheet_of (length g) (trials_of g) ∷ []}
    (record {
      some = omega arith;
      good = (whole-good g (omega (arith, f, long)) apart.0, tt);
      whole = whole-text g apart.0 ∙ sym (append-nil (whole_text (sheet_of (length g) (trials_of g))));
    })
    (texts-hold gs (omega (arith, f, long)) apart.1)

-- THE SUM OF THE SUMMARIES IS THE SUMMARY OF ALL
pub adds-up : (gs : List (List File)) → length (together gs) < 9223372036854775808 → Whole 0 (together gs)
    → closing (texts_added begun_state (summaries gs)) ≡ (summary_text (together gs)).out
adds-up gs f w =
    prints (texts-hold gs f w) (ap fits? all ∙ whole-fits (together gs) f w) ∙ ap whole_text all ∙ sym (whole-text (together gs) w)
  where
    all : total (sheets_of gs) ≡ sheet_of (length (together gs)) (trials_of (together gs))
    all =
        let e : 0 + length (together gs) ≡ length (together gs) = omega arith in
        ap (λ ns. sum_of ns (sheets_of gs)) none_yet ∙ sum-together 0 [] gs ∙ ap (λ n. sheet_of n (trials_of (together gs))) e
