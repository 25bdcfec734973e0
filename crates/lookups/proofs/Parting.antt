-- The horizon list parts the columns 1 to W, nothing left out and nothing twice, and its releases are those that Horizon visits. Assumes nothing.
use Prim.Native.Nat.{ℕ, ◌≤◌, ◌<◌}
use mathlib.Core.Path.{◌≡◌, sym, ◌∙◌, subst}
use mathlib.Core.List.{List, map}
use native.Mathlib.Omega.{arith}
use Rattle.lists.specs.Lists.{◌∈◌, rising}
use Rattle.lists.proofs.Members.{map-in, in_map, range-in, in-range, rising-in, in-rising}
use Rattle.lists.proofs.Order.{Sorted, rising-sorted, sorted-unique}
use Rattle.tasks.specs.declared.Task.{Task}
use Rattle.tasks.specs.declared.Submission.{Submission}
use Rattle.columns.specs.Columns.{columns}
use Rattle.planners.specs.Planners.{release, visited}
use Rattle.lookups.specs.Lookups.{Strip, horizon_list}
use Rattle.lookups.proofs.HorizonList.{Earlier, sooner, lefter, Lying, listed-equal, horizon-ordered, each-lies, lies-once}

-- A PARTING OF THE COLUMNS 1 TO W by the runs of a list
pub record Parted (W : ℕ) (ss : List Strip) : Type 0 where
  -- each run has a column, and columns of the device only
  pub inside : (s : Strip) → s ∈ ss → (1 ≤ s.first) × (s.first ≤ s.last) × (s.last ≤ W)
  -- nothing left out: each column lies in a run
  pub some-run : (c : ℕ) → 1 ≤ c → c ≤ W → (s : Strip) × (s ∈ ss) × (s.first ≤ c) × (c ≤ s.last)
  -- nothing twice: in one run only, and no run is listed twice
  pub one-run : (c : ℕ) (s t : Strip) → s ∈ ss → t ∈ ss → s.first ≤ c → c ≤ s.last → t.first ≤ c → c ≤ t.last → s ≡ t
  pub strictly : Sorted Earlier ss

-- no run comes before itself
pub earlier-never : (s : Strip) → Earlier s s → ⊥
earlier-never s (sooner h) = omega arith
earlier-never s (lefter e h) = omega arith

module _ (W now : ℕ) (ts : List Task) where
  -- THE HORIZON LIST PARTS THE DEVICE
  pub horizon-parts : Parted W (horizon_list W now ts)
  horizon-parts = record {
    inside = λ s m. let o = listed-equal W now ts m in (o.from_one, o.some-column, o.on-device);
    some-run = λ c l h. let p = each-lies W now ts c l h in (p.strip, p.among, p.from, p.to);
    one-run = λ c s t m n a b d e. lies-once W now ts c (record { strip = s; among = m; from = a; to = b }) (record { strip = t; among = n; from = d; to = e });
    strictly = horizon-ordered W now ts;
  }

  -- a column's release is that of its run
  pub column-release : (c : ℕ) (p : Lying W now ts c) → p.strip.release ≡ release now ts c
  column-release c p = sym ((listed-equal W now ts p.among).equal c p.from p.to)

  -- THE SAME RELEASES: those of the list are those of the columns
  pub same-releases : rising (map (λ s. s.release) (horizon_list W now ts)) ≡ rising (map (release now ts) (columns W))
  same-releases = sorted-unique ◌<◌ (λ x y p q. omega arith) (rising listed) (rising times) (rising-sorted listed) (rising-sorted times) from to
    where
      listed : List ℕ
      listed = map (λ s. s.release) (horizon_list W now ts)

      times : List ℕ
      times = map (release now ts) (columns W)

      from : (x : ℕ) → x ∈ rising listed → x ∈ rising times
      from x m =
          let k = map-in (λ s. s.release) (horizon_list W now ts) (rising-in listed m) in
          let o = listed-equal W now ts k.1 in
          let first : 1 ≤ k.0.first = o.from_one in
          in-rising times (subst (λ z. z ∈ times) (o.equal k.0.first (omega arith) o.some-column ∙ sym k.2)
          (in_map (release now ts) (in-range 1 W k.0.first first (omega (arith, o.some-column, o.on-device)))))

      to : (x : ℕ) → x ∈ rising times → x ∈ rising listed
      to x m =
          let k = map-in (release now ts) (columns W) (rising-in times m) in
          let b = range-in 1 W k.1 in
          let p = each-lies W now ts k.0 b.low (omega (arith, b.high)) in
          in-rising listed (subst (λ z. z ∈ listed) (column-release k.0 p ∙ sym k.2) (in_map (λ s. s.release) p.among))

  -- so Horizon visits now and then each release of the list after now and up to d − e
  pub visits-listed : (a : Submission) → visited W now ts a (map (λ s. s.release) (horizon_list W now ts)) ≡ visited W now ts a (map (release now ts) (columns W))
  unfolding visited
  visits-listed a = rw same-releases
