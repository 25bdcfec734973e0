-- A piece of the text part by part: what a part does, and what is left to feed gives what is left to do. Assumes nothing.
use Prim.Native.Nat.{ℕ, suc, ◌+◌, ◌-◌, ◌≤◌, ◌<◌}
use mathlib.Core.Path.{◌≡◌, refl, sym, ap, ◌∙◌}
use mathlib.Core.Bool.{Bool, true, false, cond}
use mathlib.Core.List.{List, [], ◌∷◌, ◌++◌, append-nil, append_assoc}
use native.Mathlib.Omega.{arith}
use native.Mathlib.Numerals.{add-one}
use native.Mathlib.Nat.{zero-add}
use borrow.Author.Tests.{lt-ltb, le-ltb, ltb-true, ltb-false}
use lib.Dec.{ltb, eqb}
use lib.ListN.{length, take, drop, set, length-append}
use lib.Seq.{sets, sets-eq, length-sets}
use Rattle.lists.specs.Lists.{index_of, over_front}
use Rattle.text.specs.Digits.{Put}
use Rattle.tokens.specs.declared.Sort.TheVariants.{Newline}
use Rattle.tokens.specs.Tokens.{stops_at}
use Rattle.recorder.specs.declared.Recorder.{Recorder}
use Rattle.recorder.specs.declared.Fed.{Fed}
use Rattle.recorder.specs.declared.Step.{Step}
use Rattle.recorder.specs.Recorder.{lines_on, long_text, line_made}
use Rattle.recorder.specs.Machine.{step_of, added, Feeding, line_fed, kept_fed, long_fed, part_fed, after, goes_on, parts_fed, fed_of, closing, closed_of}
use Rattle.recorder.proofs.Recording.{line_quiet, line-short}

-- a text stored from the front on
pub sets-front : (l xs : List ℕ) → length xs ≤ length l → sets l 0 xs ≡ over_front xs l
sets-front l xs h = sets-eq xs l 0 (omega arith) ∙ ap (λ k. xs ++ drop k l) (zero-add (length xs))

-- it lies in the buffer
pub front_long : (xs l : List ℕ) → length xs ≤ length (over_front xs l)
front_long xs l = omega (arith, length-append xs (drop (length xs) l))

-- WHAT A PART DOES: too long, the end of a line, or kept
pub data Parted (r : Recorder) (held part : List ℕ) : Bool → Feeding → Type 0 where
  long : {ends : Bool} → 65536 - r.held ≤ length part → Parted r held part ends (long_fed r held part)
  line : length part < 65536 - r.held → Parted r held part true (line_fed r (sets held r.held part) (r.held + length part) (length part + 1))
  kept : length part < 65536 - r.held → Parted r held part false (kept_fed r held part)

module _ (r : Recorder) (held part : List ℕ) where
  pub part-long : (ends : Bool) → 65536 - r.held ≤ length part → part_fed r held part ends ≡ long_fed r held part
  unfolding part_fed
  part-long ends h = rw (le-ltb (length part) (65536 - r.held) h)

  pub part-line : length part < 65536 - r.held → part_fed r held part true ≡ line_fed r (sets held r.held part) (r.held + length part) (length part + 1)
  unfolding part_fed
  part-line h = rw (lt-ltb (length part) (65536 - r.held) h)

  pub part-kept : length part < 65536 - r.held → part_fed r held part false ≡ kept_fed r held part
  unfolding part_fed
  part-kept h = rw (lt-ltb (length part) (65536 - r.held) h)

  pub parted : (ends : Bool) → Parted r held part ends (part_fed r held part ends)
  parted ends = go ends (ltb (length part) (65536 - r.held)) refl
    where
      go : (ends t : Bool) → ltb (length part) (65536 - r.held) ≡ t → Parted r held part ends (part_fed r held part ends)
      go ends false e = let h : 65536 - r.held ≤ length part = ltb-false _ _ e in rw (part-long ends h) (long h)
      go true true e = let h : length part < 65536 - r.held = ltb-true _ _ e in rw (part-line h) (line h)
      go false true e = let h : length part < 65536 - r.held = ltb-true _ _ e in rw (part-kept h) (kept h)

-- a feeding that goes on said nothing; none writes more than a record; the held bytes are fewer than 65,536; it takes no more than the part
-- and the line feed behind it, all of that where it goes on, and some of it always
module _ {r : Recorder} {held part : List ℕ} where
  pub part-quiet : {ends : Bool} {f : Feeding} → Parted r held part ends f → f.recorder.more ≡ true → f.output.err ≡ []
  unfolding line_fed
  part-quiet (long h) e = absurd (let z : ◌≡◌ {A = ℕ} 0 1 = cc in omega arith)
  part-quiet (line h) e = line_quiet _ _ _ e
  part-quiet (kept h) e = refl

  pub part-short : {ends : Bool} {f : Feeding} → Parted r held part ends f → length f.output.out ≤ 18
  unfolding line_fed
  part-short (long h) = omega arith
  part-short (line h) = line-short _ _ _
  part-short (kept h) = omega arith

  pub part-few : {ends : Bool} {f : Feeding} → Parted r held part ends f → r.held < 65536 → f.recorder.held < 65536
  unfolding line_fed
  part-few (long h) k = k
  part-few (line h) k = omega arith
  part-few (kept h) k = omega arith

  pub part-most : {ends : Bool} {f : Feeding} → Parted r held part ends f → f.taken ≤ length part + cond ends 1 0
  unfolding line_fed
  part-most (long {ends} h) = go ends
    where
      go : (t : Bool) → length part ≤ length part + cond t 1 0
      go true = omega arith
      go false = omega arith
  part-most (line h) = omega arith
  part-most (kept h) = omega arith

  pub part-all : {ends : Bool} {f : Feeding} → Parted r held part ends f → f.recorder.more ≡ true → f.taken ≡ length part + cond ends 1 0
  unfolding line_fed
  part-all (long h) e = absurd (let z : ◌≡◌ {A = ℕ} 0 1 = cc in omega arith)
  part-all (line h) e = refl
  part-all (kept h) e = let z : length part ≡ length part + 0 = omega arith in z

  pub part-some : {ends : Bool} {f : Feeding} → Parted r held part ends f → r.held < 65536 → 0 < length part + cond ends 1 0 → 0 < f.taken
  unfolding line_fed
  part-some (long h) k s = omega arith
  part-some (line h) k s = omega arith
  part-some (kept h) k s = omega arith

  pub part_held : {ends : Bool} {f : Feeding} → Parted r held part ends f → length f.held ≡ length held
  unfolding line_fed
  part_held (long h) = refl
  part_held (line h) = length-sets held r.held part
  part_held (kept h) = length-sets held r.held part

-- THE PROMISE OF A PART: what is returned, and what the three buffers then are
abbrev pub Does : Feeding → ℕ → List ℕ → List ℕ → Fed → List ℕ → List ℕ → List ℕ → Type 0
Does f used out err q held' out' err' = (q ≡ fed_of f) × ((held' ≡ f.held) × ((out' ≡ sets out used f.output.out) × (err' ≡ over_front f.output.err err)))

module _ (r : Recorder) (held part : List ℕ) (used : ℕ) (out err : List ℕ) where
  pub does-long : (ends : Bool) {said : ℕ} {err' : List ℕ} → 65536 - r.held ≤ length part
      → said ≡ length (long_text r.line r.records) → err' ≡ over_front (long_text r.line r.records) err
      → Does (part_fed r held part ends) used out err (record { recorder = (long_fed r held part).recorder; taken = length part; used = 1; said = said }) held (set out used 0) err'
  does-long ends h s e = rw (part-long r held part ends h) (rw s refl, (refl, (refl, e)))

  pub does-line : {ends : Bool} {end line records : ℕ} {s : Step} {held' out' err' : List ℕ} → ends ≡ true → length part < 65536 - r.held
      → end ≡ r.held + length part → held' ≡ sets held r.held part
      → s ≡ step_of (line_made r.line r.records (take (end - 0) held')) → out' ≡ sets out used (line_made r.line r.records (take (end - 0) held')).output.out
      → err' ≡ over_front (line_made r.line r.records (take (end - 0) held')).output.err err → line ≡ added r.line 1 → records ≡ added r.records s.records
      → Does (part_fed r held part ends) used out err
      (record { recorder = record { line = line; records = records; held = 0; more = s.more }; taken = length part + 1; used = s.used; said = s.said }) held' out' err'
  unfolding line_fed
  does-line {end = end} {s = s} {held' = held'} t h n b e o p l c =
      let k : end - 0 ≡ r.held + length part = omega arith in
      let now : take (end - 0) held' ≡ take (r.held + length part) (sets held r.held part) = ap (λ i. take i held') k ∙ ap (take (r.held + length part)) b in
      rw (t, part-line r held part h) (rw (l, c, e, now) refl, (b, (rw now at o, rw now at p)))

  pub does-kept : {ends : Bool} {end : ℕ} {held' : List ℕ} → ends ≡ false → length part < 65536 - r.held → end ≡ r.held + length part → held' ≡ sets held r.held part
      → Does (part_fed r held part ends) used out err
      (record { recorder = record { line = r.line; records = r.records; held = end; more = r.more }; taken = length part; used = 0; said = 0 }) held' out err
  does-kept t h n b = rw (t, part-kept r held part h) (rw n refl, (b, (refl, refl)))

-- THE PROMISE OF THE END
abbrev pub Closes : Recorder → List ℕ → Bool → List ℕ → List ℕ → Fed → List ℕ → List ℕ → Type 0
Closes r held whole out err q out' err' =
    (q ≡ closed_of r (closing r held whole))
    × ((out' ≡ over_front (closing r held whole).out out) × ((err' ≡ over_front (closing r held whole).err err) × ((q.used ≤ length out') × (q.said ≤ length err'))))

-- what it returns, by how much was written
abbrev ends : Recorder → ℕ → ℕ → Fed
ends r used said = record { recorder = record { line = r.line; records = r.records; held = r.held; more = false }; taken = 0; used = used; said = said }

module _ (r : Recorder) (held out err : List ℕ) where
  pub closed : (whole : Bool) → r.more ≡ false → Closes r held whole out err (ends r 0 0) out err
  unfolding closing
  closed whole e = rw e (refl, (refl, (refl, (omega arith, omega arith))))

  pub cut : {whole : Bool} {used : ℕ} {out' : List ℕ} → r.more ≡ true → whole ≡ false → 0 < length out → Put out 0 (0 ∷ []) out' used
      → Closes r held whole out err (ends r used 0) out' err
  unfolding closing
  cut {used = used} m w h a =
      let one : used ≡ 1 = a.place in
      rw (m, w) (ap (λ n. ends r n 0) one, (a.stored ∙ sets-front out (0 ∷ []) (omega arith), (refl, (omega (arith, ap length a.stored, length-sets out 0 (0 ∷ [])), omega arith))))

  pub closes : {whole : Bool} {s : Step} {out' err' : List ℕ} → r.more ≡ true → whole ≡ true → 18 ≤ length out
      → s ≡ step_of (line_made r.line r.records (take (r.held - 0) held))
      → out' ≡ sets out 0 (line_made r.line r.records (take (r.held - 0) held)).output.out
      → err' ≡ over_front (line_made r.line r.records (take (r.held - 0) held)).output.err err
      → Closes r held whole out err (ends r s.used s.said) out' err'
  unfolding closing
  closes {whole} {s} {out'} {err'} m t h e o p =
      let k : r.held - 0 ≡ r.held = omega arith in
      let text = (line_made r.line r.records (take r.held held)).output.out in
      let front : sets out 0 text ≡ over_front text out = sets-front out text (omega (arith, line-short r.line r.records (take r.held held))) in
      let used-fits : s.used ≤ length out' = rw (e, k, o, k, front) (front_long text out) in
      let said_fits : s.said ≤ length err' = rw (e, k, p, k) (front_long (line_made r.line r.records (take r.held held)).output.err err) in
      rw (m, t) (rw (e, k) refl, (rw k at o ∙ front, (rw k at p, (used-fits, said_fits))))

-- THE PARTS OF A TEXT: up to the first line feed, and what is behind it
abbrev first : List ℕ → ℕ
first xs = index_of (stops_at Newline) xs

pub lines-on : (begun xs : List ℕ) → ltb (first xs) (length xs) ≡ true → lines_on begun xs ≡ (begun ++ take (first xs) xs) ∷ lines_on [] (drop (first xs + 1) xs)
unfolding lines_on index_of stops_at
lines-on begun [] h = absurd (let z : 0 < 0 = ltb-true 0 0 h in omega arith)
lines-on begun (x ∷ xs) h = go (λ b k. lines-on b xs k) (eqb x 10) h
  where
    go : ((b : List ℕ) → ltb (first xs) (length xs) ≡ true → lines_on b xs ≡ (b ++ take (first xs) xs) ∷ lines_on [] (drop (first xs + 1) xs)) → (t : Bool)
        → ltb (cond t 0 (first xs + 1)) (suc (length xs)) ≡ true
        → cond t (begun ∷ lines_on [] xs) (lines_on (begun ++ (x ∷ [])) xs)
        ≡ (begun ++ take (cond t 0 (first xs + 1)) (x ∷ xs)) ∷ lines_on [] (drop (cond t 0 (first xs + 1) + 1) (x ∷ xs))
    go more true k = rw (append-nil begun)
    go more false k =
        let less : first xs < length xs = omega (arith, ltb-true (first xs + 1) (suc (length xs)) k) in
        let two : first xs + 1 + 1 ≡ suc (first xs + 1) = add-one (first xs + 1) in
        rw (two, more (begun ++ (x ∷ [])) (lt-ltb _ _ less), add-one (first xs)) (ap (λ t. t ∷ lines_on [] (drop (suc (first xs)) xs)) (append_assoc begun (x ∷ []) (take (first xs) xs)))

pub lines-last : (begun xs : List ℕ) → length xs ≤ first xs → lines_on begun xs ≡ (begun ++ xs) ∷ []
unfolding lines_on index_of stops_at
lines-last begun [] h = ap (λ t. t ∷ []) (sym (append-nil begun))
lines-last begun (x ∷ xs) h = go (λ b k. lines-last b xs k) (eqb x 10) h
  where
    go : ((b : List ℕ) → length xs ≤ first xs → lines_on b xs ≡ (b ++ xs) ∷ []) → (t : Bool) → suc (length xs) ≤ cond t 0 (first xs + 1)
        → cond t (begun ∷ lines_on [] xs) (lines_on (begun ++ (x ∷ [])) xs) ≡ (begun ++ (x ∷ xs)) ∷ []
    go more true k = absurd (omega arith)
    go more false k = more (begun ++ (x ∷ [])) (omega arith) ∙ ap (λ t. t ∷ []) (append_assoc begun (x ∷ []) xs)

-- there is always a first line
some-line : (begun xs : List ℕ) (P : List (List ℕ) → Type 0) → ((p : List ℕ) (ps : List (List ℕ)) → P (p ∷ ps)) → P (lines_on begun xs)
unfolding lines_on
some-line begun [] P f = f begun []
some-line begun (x ∷ xs) P f = go (λ b. some-line b xs P f) (eqb x 10)
  where
    go : ((b : List ℕ) → P (lines_on b xs)) → (t : Bool) → P (cond t (begun ∷ lines_on [] xs) (lines_on (begun ++ (x ∷ [])) xs))
    go more true = f begun (lines_on [] xs)
    go more false = more (begun ++ (x ∷ []))

module _ (room : ℕ) (f : Feeding) where
  -- where it does not go on, it stays
  pub parts-stop : goes_on room f ≡ false → (ps : List (List ℕ)) → parts_fed room f ps ≡ f
  unfolding parts_fed
  parts-stop e [] = refl
  parts-stop e (p ∷ []) = ap (λ t. cond t (after f (part_fed f.recorder f.held p false)) f) e
  parts-stop e (p ∷ q ∷ ps) = ap (λ t. cond t (parts_fed room (after f (part_fed f.recorder f.held p true)) (q ∷ ps)) f) e

  -- the last part, and a part with others behind it
  pub parts_last : goes_on room f ≡ true → (p : List ℕ) → parts_fed room f (p ∷ []) ≡ after f (part_fed f.recorder f.held p false)
  unfolding parts_fed
  parts_last e p = ap (λ t. cond t (after f (part_fed f.recorder f.held p false)) f) e

  pub parts_more : goes_on room f ≡ true → (p : List ℕ) (begun xs : List ℕ)
      → parts_fed room f (p ∷ lines_on begun xs) ≡ parts_fed room (after f (part_fed f.recorder f.held p true)) (lines_on begun xs)
  unfolding parts_fed
  parts_more e p begun xs =
      some-line begun xs (λ ls. parts_fed room f (p ∷ ls) ≡ parts_fed room (after f (part_fed f.recorder f.held p true)) ls)
      (λ q ps. ap (λ t. cond t (parts_fed room (after f (part_fed f.recorder f.held p true)) (q ∷ ps)) f) e)

  -- no byte is left
  pub parts-end : f.recorder.held < 65536 → parts_fed room f (lines_on [] []) ≡ f
  unfolding lines_on
  parts-end h = go (goes_on room f) refl
    where
      same-held : f.recorder.held + 0 ≡ f.recorder.held
      same-held = omega arith

      same_taken : f.taken + 0 ≡ f.taken
      same_taken = omega arith

      go : (t : Bool) → goes_on room f ≡ t → parts_fed room f ([] ∷ []) ≡ f
      go false e = parts-stop e ([] ∷ [])
      go true e =
          parts_last e [] ∙ ap (after f) (part-kept f.recorder f.held [] (omega arith))
          ∙ rw (same-held, same_taken, append-nil f.output.out, append-nil f.output.err) refl
