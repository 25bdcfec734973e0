-- WHERE A FILE GIVES NO FURTHER EVENT its rest need not be read: whatever follows, the summary is the same. Assumes nothing.
use Prim.Native.Nat.{ℕ, suc, ◌-◌, ◌%◌, ◌<◌}
use mathlib.Core.Path.{◌≡◌, refl, sym, ap, ap₂, ◌∙◌, subst}
use mathlib.Core.Bool.{Bool, true, false, cond}
use mathlib.Core.List.{List, [], ◌∷◌, ◌++◌, append-nil}
use native.Mathlib.Omega.{arith}
use lib.Dec.{eqb}
use lib.ListN.{length, drop}
use lib.Seq.{drop-length}
use Rattle.sheets.proofs.Laws.{length-plus}
use Rattle.figures.proofs.Laws.{figures-length}
use Rattle.sheets.specs.Sheets.{plus, wrapped, sheet_text}
use Rattle.steps.specs.declared.State.{State}
use Rattle.session.specs.declared.Ending.{Ending}
use Rattle.session.specs.declared.Ending.TheVariants.{NotYet, AtEnd, In15, In16, AtLast, PastLast}
use Rattle.reader.specs.declared.Reader.{Reader}
use Rattle.reader.specs.Reader.{Heard, open?, later_end, passed_over, heard, end_of}
use Rattle.reader.proofs.Ends.{heard-closed}
use Rattle.stops.specs.Stops.{stop_words, stop_said}
use Rattle.lists.specs.Lists.{keep, each, range}
use Rattle.figures.specs.Figures.{trials_from, verdicts, of, came, waited_in, figures_of, sheet_with, sheet_of}
use Rattle.figures.proofs.Tallying.{reads_none}
use Rattle.summing.specs.declared.Summing.{Summing}
use Rattle.summing.specs.Summary.{File, whole?, summary_text}
use Rattle.summing.specs.Summing.{first_summing, next_file, summed, file_end, sum_text, sum_said}
use Rattle.summing.proofs.Whole.{Feeds, none_left, piece, Sums, all_read, next, stops, wrote, sums-whole}

-- two ends of which a summary says the same
pub record Alike (e f : Ending) : Type 0 where
  pub shut : open? f ≡ false
  pub words : (name : List ℕ) (n : ℕ) → stop_words name n f ≡ stop_words name n e
  pub said : (name : List ℕ) (n : ℕ) → stop_said name n f ≡ stop_said name n e
  pub whole : whole? f ≡ whole? e

itself : (e : Ending) → open? e ≡ false → Alike e e
itself e c = record { shut = c; words = λ name n. refl; said = λ name n. refl; whole = refl }

-- the billion with a byte behind it is told as the billion
later-alike : (e : Ending) (p : List ℕ) → open? e ≡ false → Alike e (later_end e p)
unfolding later_end
later-alike NotYet p c = itself NotYet c
later-alike AtEnd p c = itself AtEnd c
later-alike (In15 k) p c = itself (In15 k) c
later-alike (In16 k) p c = itself (In16 k) c
later-alike AtLast p c = go (eqb (length p) 0)
  where
    go : (b : Bool) → Alike AtLast (cond b AtLast PastLast)
    go true = itself AtLast c
    go false = record {
      shut = unfold open? in refl;
      words = λ name n. (unfold stop_words in refl);
      said = λ name n. (unfold stop_said in refl);
      whole = refl;
    }
later-alike PastLast p c = itself PastLast c

-- what a summary says of a machine and of one that was fed more
pub record Same (s t : Summing) : Type 0 where
  pub figures : t.figures ≡ s.figures
  pub number : t.reader.number ≡ s.reader.number
  pub before : t.before ≡ s.before
  pub end : Alike s.reader.end t.reader.end

no-trials : (s : State) → trials_from s [] ≡ []
unfolding trials_from
no-trials s = refl

piece-same : (s : Summing) → open? s.reader.end ≡ false → length s.figures ≡ 83 → wrapped s.figures ≡ s.figures
    → (p : List ℕ) (words : ℕ) → Same s (summed s p words).summing
unfolding summed
piece-same s c long fit p words = record {
  figures = ap (λ (h : Heard). wrapped (plus s.figures (sheet_of 0 (trials_from s.reader.state h.events)))) told
      ∙ ap (λ ts. wrapped (plus s.figures (sheet_of 0 ts))) (no-trials s.reader.state) ∙ ap wrapped (sym (reads_none s.figures long)) ∙ fit;
  number = ap (λ (h : Heard). h.reader.number) told;
  before = refl;
  end = subst (λ (h : Heard). Alike s.reader.end h.reader.end) (sym told) (later-alike s.reader.end p c);
}
  where
    told : heard s.reader p words ≡ passed_over s.reader p (later_end s.reader.end p)
    told = heard-closed s.reader p words c

joined : {s t u : Summing} → Same s t → Same t u → Same s u
joined a b = record {
  figures = b.figures ∙ a.figures;
  number = b.number ∙ a.number;
  before = b.before ∙ a.before;
  end = record {
    shut = b.end.shut;
    words = λ name n. b.end.words name n ∙ a.end.words name n;
    said = λ name n. b.end.said name n ∙ a.end.said name n;
    whole = b.end.whole ∙ a.end.whole;
  };
}

-- THE REST OF THE FILE changes nothing
pub rest-same : {s last : Summing} {bytes : List ℕ} → open? s.reader.end ≡ false → length s.figures ≡ 83 → wrapped s.figures ≡ s.figures
    → Feeds s bytes last → Same s last
rest-same c long fit (none_left s) = record { figures = refl; number = refl; before = refl; end = itself s.reader.end c }
rest-same c long fit (piece s p more words way) =
    let k = piece-same s c long fit p words in
    joined k (rest-same k.end.shut (ap length k.figures ∙ long) (ap wrapped k.figures ∙ fit ∙ sym k.figures) way)

-- so what is written may be written at once
shut-end : (r : Reader) → open? r.end ≡ false → end_of r ≡ r.end
unfolding end_of
shut-end r c = rw c refl

pub rest-says : {s last : Summing} → open? s.reader.end ≡ false → Same s last → (name : List ℕ)
    → (sum_text last name ≡ sum_text s name) × (sum_said last name ≡ sum_said s name) × (whole? (file_end last) ≡ whole? (file_end s))
unfolding sum_text sum_said file_end
rest-says {s} {last} c k name =
    let n : last.reader.number - last.before ≡ s.reader.number - s.before = ap₂ (λ x y. x - y) k.number k.before in
    let here = shut-end s.reader c in
    let there = shut-end last.reader k.end.shut in (
      ap₂ (λ ns x. sheet_text ns ++ x) k.figures (ap₂ (stop_words name) n there
          ∙ k.end.words name (s.reader.number - s.before) ∙ ap (stop_words name (s.reader.number - s.before)) (sym here)),
      ap₂ (stop_said name) n there ∙ k.end.said name (s.reader.number - s.before) ∙ ap (stop_said name (s.reader.number - s.before)) (sym here),
      ap whole? there ∙ k.end.whole ∙ ap whole? (sym here),
    )

-- FIGURES OF 64 BITS, as the machine holds them
pub record Fit (s : Summing) : Type 0 where
  pub long : length s.figures ≡ 83
  pub small : wrapped s.figures ≡ s.figures

twice : (ns : List ℕ) → wrapped (wrapped ns) ≡ wrapped ns
twice [] = refl
twice (n ∷ ns) = let e : n % 18446744073709551616 % 18446744073709551616 ≡ n % 18446744073709551616 = omega arith in ap₂ (λ x xs. x ∷ xs) e (twice ns)

wrapped-long : (ns : List ℕ) → length (wrapped ns) ≡ length ns
wrapped-long [] = refl
wrapped-long (n ∷ ns) = ap suc (wrapped-long ns)

sum-fit : (figures more : List ℕ) → length figures ≡ 83 → length more ≡ 83 → length (wrapped (plus figures more)) ≡ 83
sum-fit figures more a b = wrapped-long (plus figures more) ∙ length-plus figures more (a ∙ sym b) ∙ a

next-fit : (s : Summing) → Fit s → Fit (next_file s)
unfolding next_file
next-fit s f = record { long = sum-fit s.figures (sheet_of 1 []) f.long (figures-length 1 []); small = twice (plus s.figures (sheet_of 1 [])) }

piece-fit : (s : Summing) → Fit s → (p : List ℕ) (words : ℕ) → Fit (summed s p words).summing
unfolding summed
piece-fit s f p words =
    let more = sheet_of 0 (trials_from s.reader.state (heard s.reader p words).events) in
    record { long = sum-fit s.figures more f.long (figures-length 0 (trials_from s.reader.state (heard s.reader p words).events)); small = twice (plus s.figures more) }

feeds-fit : {s last : Summing} {bytes : List ℕ} → Fit s → Feeds s bytes last → Fit last
feeds-fit f (none_left s) = f
feeds-fit f (piece s p more words way) = feeds-fit (piece-fit s f p words) way

-- A WAY TO READ A FILE IN PART: pieces of what is left, as far as one likes; the machine there, and the bytes that are left
pub data Begins : Summing → List ℕ → Summing → List ℕ → Type 0 where
  so_far : (s : Summing) (rest : List ℕ) → Begins s rest s rest
  further : (s : Summing) (p more : List ℕ) (words : ℕ) {m : Summing} {rest : List ℕ}
      → Begins (summed s p words).summing (drop (summed s p words).taken (p ++ more)) m rest → Begins s (p ++ more) m rest

begins-fit : {s m : Summing} {bytes rest : List ℕ} → Fit s → Begins s bytes m rest → Fit m
begins-fit f (so_far s rest) = f
begins-fit f (further s p more words way) = begins-fit (piece-fit s f p words) way

then-all : {s m last : Summing} {bytes rest : List ℕ} → Begins s bytes m rest → Feeds m rest last → Feeds s bytes last
then-all (so_far s rest) way = way
then-all (further s p more words part) way = piece s p more words (then-all part way)

-- where no further event comes, the rest can be read at once
rest_read : (m : Summing) (rest : List ℕ) → open? m.reader.end ≡ false → Feeds m rest (summed m rest 6).summing
rest_read m rest c = subst (λ l. Feeds m l last) (append-nil rest) (piece m rest [] 6 (subst (λ l. Feeds last l last) (sym gone) (none_left last)))
  where
    last : Summing
    last = (summed m rest 6).summing

    taken : (summed m rest 6).taken ≡ length rest
    taken = unfold summed in ap (λ (h : Heard). h.taken) (heard-closed m.reader rest 6 c)

    gone : drop (summed m rest 6).taken (rest ++ []) ≡ []
    gone = ap₂ drop taken (append-nil rest) ∙ drop-length rest

-- THE WAYS THAT THE PROGRAM TAKES: a file is read to its end, or, where no further event comes, as far as one likes
pub data Goes : Summing → List File → Summing → List ℕ → Type 0 where
  no_more : (s : Summing) (name : List ℕ) → Goes s [] s name
  on : (s : Summing) (f : File) (fs : List File) {m last : Summing} {name : List ℕ}
      → Feeds (next_file s) f.bytes m → whole? (file_end m) ≡ true → Goes m fs last name → Goes s (f ∷ fs) last name
  cut : (s : Summing) (f : File) (fs : List File) {m : Summing} → Feeds (next_file s) f.bytes m → whole? (file_end m) ≡ false → Goes s (f ∷ fs) m f.name
  shut : (s : Summing) (f : File) (fs : List File) {m : Summing} {rest : List ℕ} → Begins (next_file s) f.bytes m rest
      → open? m.reader.end ≡ false → whole? (file_end m) ≡ false → Goes s (f ∷ fs) m f.name

-- each of them writes what one that reads all writes
record Reads-all (s : Summing) (fs : List File) (m : Summing) (name : List ℕ) : Type 0 where
  last : Summing
  way : Sums s fs last name
  same : wrote m name ≡ wrote last name

goes-sums : {s m : Summing} {fs : List File} {name : List ℕ} → Fit s → Goes s fs m name → Reads-all s fs m name
goes-sums f (no_more s name) = record { last = s; way = all_read s name; same = refl }
goes-sums f (cut s file fs {m} feeds e) = record { last = m; way = stops s file fs feeds e; same = refl }
goes-sums f (on s file fs feeds e more) =
    let r = goes-sums (feeds-fit (next-fit s f) feeds) more in
    record { last = r.last; way = next s file fs feeds e r.way; same = r.same }
goes-sums f (shut s file fs {m} {rest} part c e) =
    let fit = begins-fit (next-fit s f) part in
    let feeds = rest_read m rest c in
    let says = rest-says c (rest-same c fit.long fit.small feeds) file.name in
    record {
      last = (summed m rest 6).summing;
      way = stops s file fs (then-all part feeds) (says.2 ∙ e);
      same = λ i. record { out = sym says.0 i; err = sym says.1 i };
    }

first-fit : Fit first_summing
unfolding first_summing
first-fit = record { long = figures-length 0 []; small = unfold sheet_of verdicts sheet_with figures_of of came waited_in keep each range in refl }

-- THE THEOREM for all these ways
pub goes-whole : {fs : List File} {m : Summing} {name : List ℕ} → length fs < 9223372036854775808 → Goes first_summing fs m name → wrote m name ≡ summary_text fs
goes-whole f way = let r = goes-sums first-fit way in r.same ∙ sums-whole f r.way
