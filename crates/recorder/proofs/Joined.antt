-- However a text is cut into pieces, and whatever room there is for records: the outputs one after the other are what `record` writes for the text. Assumes nothing.
use Prim.Native.Nat.{ℕ, suc, ◌+◌, ◌-◌, ◌≤◌, ◌<◌}
use mathlib.Core.Path.{◌≡◌, refl, sym, ap, ◌∙◌}
use mathlib.Core.Bool.{Bool, true, false, cond, ◌&&◌}
use mathlib.Core.List.{List, [], ◌∷◌, ◌++◌, append-nil, append_assoc}
use native.Mathlib.Omega.{arith}
use native.Mathlib.Numerals.{add-one}
use borrow.Author.Tests.{lt-ltb, le-ltb, le-leb, eqb-true}
use lib.Dec.{eqb}
use lib.ListN.{length, take, drop, length-append, length-drop}
use lib.Seq.{sets, sets-eq, length-sets, length-take-le, take_at, drop_at, drop-drop}
use Rattle.text.specs.Output.{Output, nothing, before}
use Rattle.recorder.specs.declared.Recorder.{Recorder}
use Rattle.recorder.specs.Recorder.{Made, lines_on, long_text, refused, line_made, made, record_lines, record_bytes}
use Rattle.recorder.specs.Machine.{begun, added, Feeding, line_fed, part_fed, after, goes_on, parts_fed, unfed, feeding, closing, rest}
use Rattle.recorder.proofs.Reading.{added-small}
use Rattle.recorder.proofs.Recording.{line-few}
use Rattle.recorder.proofs.Feeding.{Parted, long, line, kept, parted, part-all, part-some, parts-stop, parts_last, parts_more}

before-assoc : (a b c : Output) → before (before a b) c ≡ before a (before b c)
before-assoc a b c = rw (append_assoc a.out b.out c.out, append_assoc a.err b.err c.err)

before-none : (a : Output) → before a nothing ≡ a
before-none a = rw (append-nil a.out, append-nil a.err)

both_l : (a b : Bool) → (a && b) ≡ true → a ≡ true
both_l true b e = refl
both_l false b e = e

-- bytes with no line feed among them go behind a line that has begun
record Plain (p : List ℕ) : Type 0 where
  behind : (begun more : List ℕ) → lines_on begun (p ++ more) ≡ lines_on (begun ++ p) more

plain-none : Plain []
plain-none = record { behind = λ begun more. ap (λ t. lines_on t more) (sym (append-nil begun)) }

-- THE PARTS of a piece: the last, or one with a line feed (10) behind it
data Parts : List ℕ → Type 0 where
  last : {p : List ℕ} → Plain p → Parts p
  next : {p xs : List ℕ} → Plain p → Parts xs → Parts (p ++ (10 ∷ xs))

plain-one : (p : List ℕ) (b : ℕ) → eqb b 10 ≡ false → Plain p → Plain (p ++ (b ∷ []))
unfolding lines_on
plain-one p b e h = record {
  behind = λ begun more.
      ap (lines_on begun) (append_assoc p (b ∷ []) more) ∙ h.behind begun (b ∷ more) ∙ ap (λ t. cond t ((begun ++ p) ∷ lines_on [] more) (lines_on ((begun ++ p) ++ (b ∷ [])) more)) e
      ∙ ap (λ t. lines_on t more) (append_assoc begun p (b ∷ []));
}

parts-on : (p xs : List ℕ) → Plain p → Parts (p ++ xs)
parts-on p [] h = rw (append-nil p) (last h)
parts-on p (b ∷ bs) h = go (λ q k. parts-on q bs k) (eqb b 10) refl
  where
    go : ((q : List ℕ) → Plain q → Parts (q ++ bs)) → (t : Bool) → eqb b 10 ≡ t → Parts (p ++ (b ∷ bs))
    go more true e = let ten : b ≡ 10 = eqb-true b 10 e in rw ten (next h (more [] plain-none))
    go more false e = rw append_assoc at (more (p ++ (b ∷ [])) (plain-one p b e h))

parts-of : (xs : List ℕ) → Parts xs
parts-of xs = parts-on [] xs plain-none

-- the lines of such parts
lines_end : (begun xs : List ℕ) → lines_on begun (10 ∷ xs) ≡ begun ∷ lines_on [] xs
unfolding lines_on
lines_end begun xs = refl

lines-last : {p : List ℕ} → Plain p → lines_on [] p ≡ p ∷ []
unfolding lines_on
lines-last {p} h = ap (lines_on []) (sym (append-nil p)) ∙ h.behind [] []

lines_next : {p : List ℕ} → Plain p → (xs : List ℕ) → lines_on [] (p ++ (10 ∷ xs)) ≡ p ∷ lines_on [] xs
lines_next {p} h xs = h.behind [] (10 ∷ xs) ∙ lines_end p xs

-- WHERE A MACHINE CAN STAND before so many bytes: what it holds lies in its buffer, and its counters do not reach their end
pub record Stands (r : Recorder) (held bytes : List ℕ) : Type 0 where
  pub size : length held ≡ 65536
  pub few : r.held < 65536
  pub lines : r.line + length bytes ≤ 18446744073709551615
  pub records : r.records + length bytes ≤ 18446744073709551615

stands-less : {r : Recorder} {held xs ys : List ℕ} → length ys ≤ length xs → Stands r held xs → Stands r held ys
stands-less h s = record { size = s.size; few = s.few; lines = omega (arith, s.lines); records = omega (arith, s.records) }

-- a machine that has stopped has nothing to write
pub rest-stopped : (r : Recorder) (held bytes : List ℕ) → r.more ≡ false → rest r held bytes ≡ nothing
unfolding rest
rest-stopped r held bytes e = rw e

rest-on : (r : Recorder) (held bytes : List ℕ) → r.more ≡ true → rest r held bytes ≡ record_lines r.line r.records (lines_on (take r.held held) bytes)
unfolding rest
rest-on r held bytes e = rw e

-- a line that is too long, whatever comes behind it
made-long : (n records : ℕ) (l : List ℕ) → 65536 ≤ length l → made n records l ≡ refused (long_text n records)
unfolding made
made-long n records l h = rw (le-ltb (length l) 65536 h)

pub made-right : (n records : ℕ) (l : List ℕ) → length l < 65536 → made n records l ≡ line_made n records l
unfolding made
made-right n records l h = rw (lt-ltb (length l) 65536 h)

-- lines whose first one makes m
pub lines-made : (n records : ℕ) (l : List ℕ) (ls : List (List ℕ)) (m : Made) → made n records l ≡ m
    → record_lines n records (l ∷ ls) ≡ cond m.more (before m.output (record_lines (suc n) (records + m.records) ls)) m.output
unfolding record_lines
lines-made n records l ls m e = rw e

long-lines : (n records : ℕ) (begun bytes : List ℕ) → 65536 ≤ length begun → record_lines n records (lines_on begun bytes) ≡ (refused (long_text n records)).output
unfolding lines_on
long-lines n records begun [] h = lines-made n records begun [] (refused (long_text n records)) (made-long n records begun h)
long-lines n records begun (b ∷ bs) h = go (eqb b 10) (long-lines n records (begun ++ (b ∷ [])) bs (omega (arith, length-append begun (b ∷ []))))
  where
    go : (t : Bool) → record_lines n records (lines_on (begun ++ (b ∷ [])) bs) ≡ (refused (long_text n records)).output
        → record_lines n records (cond t (begun ∷ lines_on [] bs) (lines_on (begun ++ (b ∷ [])) bs)) ≡ (refused (long_text n records)).output
    go true more = lines-made n records begun (lines_on [] bs) (refused (long_text n records)) (made-long n records begun h)
    go false more = more

-- ONE PART
module _ {r : Recorder} {held p : List ℕ} (plain : Plain p) (on : r.more ≡ true) where
  module _ {bytes : List ℕ} (s : Stands r held bytes) where
    size-held : length (take r.held held) ≡ r.held
    size-held = length-take-le r.held held (omega (arith, s.size, s.few))

    size-line : length (take r.held held ++ p) ≡ r.held + length p
    size-line = length-append (take r.held held) p ∙ ap (λ k. k + length p) size-held

    -- what is held then
    put-behind : length p < 65536 - r.held → take (r.held + length p) (sets held r.held p) ≡ take r.held held ++ p
    put-behind h =
        ap (take (r.held + length p)) (sets-eq p held r.held (omega (arith, s.size)))
        ∙ take_at (take r.held held ++ p) (drop (r.held + length p) held) (r.held + length p) size-line

  -- with a line feed behind it
  rest-next : (more : List ℕ) → Stands r held (p ++ (10 ∷ more)) → {f : Feeding} → Parted r held p true f
      → rest r held (p ++ (10 ∷ more)) ≡ before f.output (rest f.recorder f.held more)
  unfolding line_fed rest
  rest-next more s (long h) =
      rest-on r held (p ++ (10 ∷ more)) on ∙ ap (record_lines r.line r.records) (plain.behind (take r.held held) (10 ∷ more))
      ∙ long-lines r.line r.records (take r.held held ++ p) (10 ∷ more) (omega (arith, size-line s))
      ∙ sym (before-none (refused (long_text r.line r.records)).output)
  rest-next more s (line h) =
      let l = take (r.held + length p) (sets held r.held p) in
      let m = line_made r.line r.records l in
      let here : lines_on (take r.held held) (p ++ (10 ∷ more)) ≡ l ∷ lines_on [] more =
      plain.behind (take r.held held) (10 ∷ more) ∙ lines_end (take r.held held ++ p) more ∙ ap (λ t. t ∷ lines_on [] more) (sym (put-behind s h)) in
      let size : length (p ++ (10 ∷ more)) ≡ length p + suc (length more) = length-append p (10 ∷ more) in
      let short : length l < 65536 = omega (arith, ap length (put-behind s h), size-line s) in
      let n : added r.line 1 ≡ suc r.line = sym (added-small r.line 1 (omega (arith, s.lines))) ∙ add-one r.line in
      let k : added r.records m.records ≡ r.records + m.records = sym (added-small r.records m.records (omega (arith, s.records, line-few r.line r.records l))) in
      rest-on r held (p ++ (10 ∷ more)) on ∙ ap (record_lines r.line r.records) here
      ∙ lines-made r.line r.records l (lines_on [] more) m (made-right r.line r.records l short)
      ∙ rw (n, k) (go m (record_lines (suc r.line) (r.records + m.records) (lines_on [] more)))
    where
      go : (m : Made) (o : Output) → cond m.more (before m.output o) m.output ≡ before m.output (cond m.more o nothing)
      go m o = by m.more
        where
          by : (t : Bool) → cond t (before m.output o) m.output ≡ before m.output (cond t o nothing)
          by true = refl
          by false = sym (before-none m.output)

  -- with none
  rest-last : (more : List ℕ) → Stands r held (p ++ more) → {f : Feeding} → Parted r held p false f
      → rest r held (p ++ more) ≡ before f.output (rest f.recorder f.held more)
  unfolding rest
  rest-last more s (long h) =
      rest-on r held (p ++ more) on ∙ ap (record_lines r.line r.records) (plain.behind (take r.held held) more)
      ∙ long-lines r.line r.records (take r.held held ++ p) more (omega (arith, size-line s))
      ∙ sym (before-none (refused (long_text r.line r.records)).output)
  rest-last more s (kept h) =
      ap (λ ls. cond r.more (record_lines r.line r.records ls) nothing)
      (plain.behind (take r.held held) more ∙ ap (λ t. lines_on t more) (sym (put-behind s h)))

-- where it then stands
module _ {r : Recorder} {held p : List ℕ} (bytes more : List ℕ) where
  part-stands : {ends : Bool} → length more + length p + cond ends 1 0 ≤ length bytes → Stands r held bytes → {f : Feeding} → Parted r held p ends f → Stands f.recorder f.held more
  unfolding line_fed
  part-stands h s (long k) = record { size = s.size; few = s.few; lines = omega (arith, s.lines); records = omega (arith, s.records) }
  part-stands h s (line k) =
      let text = take (r.held + length p) (sets held r.held p) in
      let m = line-few r.line r.records text in
      let l : added r.line 1 ≡ r.line + 1 = sym (added-small r.line 1 (omega (arith, s.lines))) in
      let n = added-small r.records (line_made r.line r.records text).records (omega (arith, s.records, m)) in
      record {
        size = length-sets held r.held p ∙ s.size;
        few = omega arith;
        lines = omega (arith, s.lines);
        records = omega (arith, s.records, m, n);
      }
  part-stands h s (kept k) =
      record { size = length-sets held r.held p ∙ s.size; few = omega arith; lines = omega (arith, s.lines); records = omega (arith, s.records) }

-- THE PARTS OF A PIECE: so many bytes of it are done, and what was to be written is what has been and what the machine still has to write
record Ran (f g : Feeding) (xs more : List ℕ) : Type 0 where
  done : ℕ
  most : done ≤ length xs
  taken : g.recorder.more ≡ true → g.taken ≡ f.taken + done
  stands : Stands g.recorder g.held (drop done (xs ++ more))
  same : before f.output (rest f.recorder f.held (xs ++ more)) ≡ before g.output (rest g.recorder g.held (drop done (xs ++ more)))

ran-none : (f : Feeding) (xs more : List ℕ) → Stands f.recorder f.held (xs ++ more) → Ran f f xs more
ran-none f xs more s = record { done = 0; most = omega arith; taken = λ e. (let z : f.taken ≡ f.taken + 0 = omega arith in z); stands = s; same = refl }

ran-last : (f : Feeding) {p : List ℕ} (more : List ℕ) → Plain p → f.recorder.more ≡ true → Stands f.recorder f.held (p ++ more)
    → Ran f (after f (part_fed f.recorder f.held p false)) p more
ran-last f {p} more h on s =
    let g = part_fed f.recorder f.held p false in
    let how = parted f.recorder f.held p false in
    let left : drop (length p) (p ++ more) ≡ more = drop_at p more (length p) refl in
    record {
      done = length p;
      most = omega arith;
      taken = λ e. ap (λ k. f.taken + k) (part-all how e ∙ (let z : length p + 0 ≡ length p = omega arith in z));
      stands = rw left (part-stands (p ++ more) more (omega (arith, length-append p more)) s how);
      same =
          ap (before f.output) (rest-last h on more s how) ∙ sym (before-assoc f.output g.output (rest g.recorder g.held more))
          ∙ ap (λ t. before (before f.output g.output) (rest g.recorder g.held t)) (sym left);
    }

module _ (room : ℕ) where
  ran-next : (f : Feeding) {p : List ℕ} (xs more : List ℕ) → Plain p → f.recorder.more ≡ true → Stands f.recorder f.held ((p ++ (10 ∷ xs)) ++ more)
      → ((e : Feeding) → Stands e.recorder e.held (xs ++ more) → Ran e (parts_fed room e (lines_on [] xs)) xs more)
      → Ran f (parts_fed room (after f (part_fed f.recorder f.held p true)) (lines_on [] xs)) (p ++ (10 ∷ xs)) more
  ran-next f {p} xs more h on s then =
      let g = part_fed f.recorder f.held p true in
      let how = parted f.recorder f.held p true in
      let all : (p ++ (10 ∷ xs)) ++ more ≡ p ++ (10 ∷ (xs ++ more)) = append_assoc p (10 ∷ xs) more in
      let sum : length (p ++ (10 ∷ (xs ++ more))) ≡ length p + suc (length (xs ++ more)) = length-append p (10 ∷ (xs ++ more)) in
      let s2 : Stands f.recorder f.held (p ++ (10 ∷ (xs ++ more))) = rw all at s in
      let r = then (after f g) (part-stands (p ++ (10 ∷ (xs ++ more))) (xs ++ more) (omega (arith, sum)) s2 how) in
      let left : drop (length p + 1 + r.done) ((p ++ (10 ∷ xs)) ++ more) ≡ drop r.done (xs ++ more) =
      ap (drop (length p + 1 + r.done)) all ∙ sym (drop-drop r.done (length p + 1) (p ++ (10 ∷ (xs ++ more)))) ∙ ap (drop r.done) (drop-next p (xs ++ more)) in
      record {
        done = length p + 1 + r.done;
        most = omega (arith, r.most, length-append p (10 ∷ xs));
        taken = λ e. go g.recorder.more refl r.done e (r.taken e) (λ k. part-all how k);
        stands = rw left r.stands;
        same =
            ap (before f.output) (ap (rest f.recorder f.held) all ∙ rest-next h on (xs ++ more) s2 how)
            ∙ sym (before-assoc f.output g.output (rest g.recorder g.held (xs ++ more))) ∙ r.same
            ∙ rw left refl;
      }
    where
      drop-next : (p ys : List ℕ) → drop (length p + 1) (p ++ (10 ∷ ys)) ≡ ys
      drop-next p ys = ap (λ k. drop k (p ++ (10 ∷ ys))) (add-one (length p)) ∙ drop-suc p ys
        where
          drop-suc : (p ys : List ℕ) → drop (suc (length p)) (p ++ (10 ∷ ys)) ≡ ys
          drop-suc [] ys = refl
          drop-suc (b ∷ bs) ys = drop-suc bs ys

      go : (t : Bool) → (part_fed f.recorder f.held p true).recorder.more ≡ t
          → let g = part_fed f.recorder f.held p true in
          let e = parts_fed room (after f g) (lines_on [] xs) in
          (done : ℕ) → e.recorder.more ≡ true → e.taken ≡ f.taken + g.taken + done → (g.recorder.more ≡ true → g.taken ≡ length p + 1)
          → e.taken ≡ f.taken + (length p + 1 + done)
      go true m done k t a = let z = a m in omega arith
      go false m done k t a =
          let g = part_fed f.recorder f.held p true in
          let stop = parts-stop room (after f g) (rw m refl) (lines_on [] xs) in
          let both : true ≡ false = sym k ∙ ap (λ e. e.recorder.more) stop ∙ m in
          absurd (let z : ◌≡◌ {A = ℕ} 0 1 = cc in omega arith)

  ran-parts : {xs : List ℕ} → Parts xs → (f : Feeding) (more : List ℕ) → Stands f.recorder f.held (xs ++ more) → Ran f (parts_fed room f (lines_on [] xs)) xs more
  ran-parts (last {p} h) f more s = go (goes_on room f) refl
    where
      go : (t : Bool) → goes_on room f ≡ t → Ran f (parts_fed room f (lines_on [] p)) p more
      go false e = rw (parts-stop room f e (lines_on [] p)) (ran-none f p more s)
      go true e = rw (lines-last h, parts_last room f e p) (ran-last f more h (both_l f.recorder.more _ e) s)
  ran-parts (next {p} {xs} h ps) f more s = go (λ e k. ran-parts ps e more k) (goes_on room f) refl
    where
      go : ((e : Feeding) → Stands e.recorder e.held (xs ++ more) → Ran e (parts_fed room e (lines_on [] xs)) xs more) → (t : Bool) → goes_on room f ≡ t
          → Ran f (parts_fed room f (lines_on [] (p ++ (10 ∷ xs)))) (p ++ (10 ∷ xs)) more
      go then false e = rw (parts-stop room f e (lines_on [] (p ++ (10 ∷ xs)))) (ran-none f (p ++ (10 ∷ xs)) more s)
      go then true e = rw (lines_next h xs, parts_more room f e p [] xs) (ran-next f xs more h (both_l f.recorder.more _ e) s then)

-- ONE CALL OF `feed`: what it wrote and what is still to be written, of the bytes that it did not take, is what was to be written
pub record Fed (r : Recorder) (held piece more : List ℕ) (room : ℕ) : Type 0 where
  pub same : let f = feeding r held piece room in
      rest r held (piece ++ more) ≡ before f.output (rest f.recorder f.held (drop f.taken (piece ++ more)))
  pub stands : Stands (feeding r held piece room).recorder (feeding r held piece room).held (drop (feeding r held piece room).taken (piece ++ more))

module _ (r : Recorder) (held piece more : List ℕ) (room : ℕ) where
  abbrev all : Feeding
  all = parts_fed room (unfed r held) (lines_on [] piece)

  fed_by : Ran (unfed r held) all piece more → (t : Bool) → all.recorder.more ≡ t → Fed r held piece more room
  unfolding feeding
  fed_by n true e =
      let k : all.taken ≡ n.done = n.taken e ∙ (let z : 0 + n.done ≡ n.done = omega arith in z) in
      record { same = n.same ∙ rw (e, k) refl; stands = rw (e, k) n.stands }
  fed_by n false e =
      let none : (k : ℕ) → rest all.recorder all.held (drop k (piece ++ more)) ≡ nothing = λ k. rest-stopped all.recorder all.held (drop k (piece ++ more)) e in
      record {
        same =
            n.same
            ∙ ap (before all.output) (none n.done ∙ sym (none (cond all.recorder.more all.taken (length piece))));
        stands = rw e (stands-less (omega (arith, length-drop n.done (piece ++ more), length-drop (length piece) (piece ++ more), n.most)) n.stands);
      }

  pub feed-rest : Stands r held (piece ++ more) → Fed r held piece more room
  feed-rest s = fed_by (ran-parts room (parts-of piece) (unfed r held) more s) all.recorder.more refl

-- THE END: what is still to be written where no byte comes is what `close` writes
pub close-rest : (r : Recorder) (held : List ℕ) → Stands r held [] → rest r held [] ≡ closing r held true
unfolding rest closing lines_on record_lines
close-rest r held s =
    let l = take r.held held in
    let short : length l < 65536 = omega (arith, s.few, s.size, length-take-le r.held held (omega (arith, s.few, s.size))) in
    let m = line_made r.line r.records l in
    ap (λ o. cond r.more o nothing) (lines-made r.line r.records l [] m (made-right r.line r.records l short) ∙ go m.more m.output)
  where
    go : (t : Bool) (o : Output) → cond t (before o nothing) o ≡ o
    go true o = before-none o
    go false o = refl

-- ANY PLAY: from a machine that stands so, each feeding is given any first part of the bytes that are left, and any room; at the end it is closed.
-- Once it has stopped the play may end
pub data Played : Recorder → List ℕ → List ℕ → Output → Type 0 where
  closed : (r : Recorder) (held : List ℕ) → Played r held [] (closing r held true)
  stopped : (r : Recorder) (held bytes : List ℕ) → r.more ≡ false → Played r held bytes nothing
  fed : (r : Recorder) (held piece more : List ℕ) (room : ℕ) (o : Output)
      → Played (feeding r held piece room).recorder (feeding r held piece room).held (drop (feeding r held piece room).taken (piece ++ more)) o
      → Played r held (piece ++ more) (before (feeding r held piece room).output o)

pub played : {r : Recorder} {held bytes : List ℕ} {o : Output} → Played r held bytes o → Stands r held bytes → o ≡ rest r held bytes
played (closed r held) s = sym (close-rest r held s)
played (stopped r held bytes e) s = sym (rest-stopped r held bytes e)
played (fed r held piece more room o p) s =
    let f = feed-rest r held piece more room s in
    ap (before (feeding r held piece room).output) (played p f.stands) ∙ sym f.same

-- WHATEVER THE PIECES AND THE ROOM, the outputs one after the other are those of the text, if it has fewer than 2^64 - 1 bytes
pub joined : {held text : List ℕ} {o : Output} → length held ≡ 65536 → length text < 18446744073709551615 → Played begun held text o → o ≡ record_bytes text
unfolding record_bytes rest
joined {held} {text} h k p = played p (record { size = h; few = omega arith; lines = omega arith; records = omega arith })

-- PROGRESS: with a byte to take and room for a record, something is taken
parts-grow : (room : ℕ) (f : Feeding) (ps : List (List ℕ)) → f.taken ≤ (parts_fed room f ps).taken
unfolding parts_fed
parts-grow room f [] = omega arith
parts-grow room f (p ∷ []) = go (goes_on room f)
  where
    go : (t : Bool) → f.taken ≤ (cond t (after f (part_fed f.recorder f.held p false)) f).taken
    go true = omega arith
    go false = omega arith
parts-grow room f (p ∷ q ∷ ps) = go (goes_on room f) (parts-grow room (after f (part_fed f.recorder f.held p true)) (q ∷ ps))
  where
    go : (t : Bool) → let g = after f (part_fed f.recorder f.held p true) in
        g.taken ≤ (parts_fed room g (q ∷ ps)).taken → f.taken ≤ (cond t (parts_fed room g (q ∷ ps)) f).taken
    go true h = omega arith
    go false h = omega arith

module _ (r : Recorder) (held : List ℕ) (room : ℕ) (few : r.held < 65536) (enough : 18 ≤ room) (on : r.more ≡ true) where
  goes : goes_on room (unfed r held) ≡ true
  goes = rw on (le-leb 18 (room - 0) (omega arith))

  parts-move : {xs : List ℕ} → Parts xs → 0 < length xs → 0 < (parts_fed room (unfed r held) (lines_on [] xs)).taken
  parts-move (last {p} h) s =
      rw (lines-last h, parts_last room (unfed r held) goes p) (let k : 0 < (part_fed r held p false).taken = part-some (parted r held p false) few (omega arith) in omega arith)
  parts-move (next {p} {xs} h ps) s =
      let k : 0 < (part_fed r held p true).taken = part-some (parted r held p true) few (omega arith) in
      let f = after (unfed r held) (part_fed r held p true) in
      rw (lines_next h xs, parts_more room (unfed r held) goes p [] xs) (omega (arith, parts-grow room f (lines_on [] xs)))

pub feed-moves : (r : Recorder) (held piece : List ℕ) (room : ℕ) → r.held < 65536 → 18 ≤ room → 0 < length piece → 0 < (feeding r held piece room).taken
unfolding feeding
feed-moves r held piece room few enough some = go (parts_fed room (unfed r held) (lines_on [] piece)).recorder.more refl
  where
    stays : r.more ≡ false → parts_fed room (unfed r held) (lines_on [] piece) ≡ unfed r held
    stays e = parts-stop room (unfed r held) (rw e refl) (lines_on [] piece)

    on : (t : Bool) → r.more ≡ t → (parts_fed room (unfed r held) (lines_on [] piece)).recorder.more ≡ true → r.more ≡ true
    on true e k = e
    on false e k = sym (ap (λ f. f.recorder.more) (stays e)) ∙ k

    go : (t : Bool) → (parts_fed room (unfed r held) (lines_on [] piece)).recorder.more ≡ t
        → 0 < cond (parts_fed room (unfed r held) (lines_on [] piece)).recorder.more (parts_fed room (unfed r held) (lines_on [] piece)).taken (length piece)
    go true e = rw e (parts-move r held room few enough (on r.more refl e) (parts-of piece) some)
    go false e = rw e some
