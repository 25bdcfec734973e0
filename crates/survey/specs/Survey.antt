-- What one pass over the slots finds: code-level definitions; no promise of a public call cites them. Assumes nothing.
use Rattle.std.specs.Prelude.{ℕ, ◌≤◌, ◌≡◌, List, length, Result, Ok, Err, is_ok}
use Rattle.lists.specs.Lists.{all?}
use Rattle.tasks.specs.declared.Device.{Device}
use Rattle.tasks.specs.declared.Task.{Task}
use Rattle.slots.specs.Slots.{slot_sound}
use Rattle.live.specs.Kept.{Stands, InUse}
use Rattle.survey.specs.declared.Findings.{Findings}

-- what was found, be the slots sound or not
abbrev pub findings_of : Result Findings Findings → Findings
findings_of (Ok v) = v
findings_of (Err v) = v

-- the survey of the slots of a device at now: whether each slot is sound, and where they are, the live tasks
pub record Surveyed (D : Device) (now : ℕ) (ks : List Task) (rows : List ℕ) (r : Result Findings Findings) : Type 0 where
  pub size : length rows ≡ 384
  pub slots : length ks ≡ 64
  pub few : (findings_of r).count ≤ 64
  pub used : InUse 64 ks (findings_of r).used
  pub sound : is_ok r ≡ all? (slot_sound D now) ks
  pub stands : (v : Findings) → r ≡ Ok v → Stands 64 ks v.count rows
