-- The headline: what a check does.
use Rattle.std.specs.Prelude.{◌≡◌, ◌⊎◌, ℕ, Option, Result, Ok, Err}
use Rattle.mesh_base.specs.declared.limits.Scale.{Scale}
use Rattle.log_text.specs.declared.Refusal.{Refusal}
use Rattle.outside_io.specs.declared.stop.Stop.{Stop}
use Rattle.outside_io.specs.declared.stop.Stop.TheVariants.{NoMemory}
use Rattle.outside_io.specs.Causes.{Rose}
use Rattle.outside_io.specs.Outside.{HasCauses}
use Rattle.outside_io.specs.World.{World}
use Rattle.track_input.specs.Words.{MeshName}
use Rattle.track_check.specs.Check.{Check, IsCheck, found_by, ending_told}
use Rattle.track_check.specs.Endings.{Ends}
use Rattle.track_check.specs.Causes.{Cause, IsStopped, IsReadable}

-- THE HEADLINE, read from here down, each part explained where it stands. A check writes one line
-- for each fault of the lists that a mesh file gives, of which at most a million, and then how many
-- there are; or the line of the refusal of the file; or it is stopped, and then it wrote the first
-- bytes of that, and not all. Its ending is the first fault. Nothing is stored.

-- The ending has its cause in the check, and the check has a cause for no
-- other ending but those that stop it.
pub record IsCaused (c : Check) (result : Result (Option Refusal) Stop) : Type 0 where
  pub cause : Cause c result
  pub no_other : (other : Result (Option Refusal) Stop) → Cause c other →
      (result ≡ other) ⊎ IsStopped other ⊎ IsStopped result

-- What can be read is checked, where memory does not want and no count of faults rises.
abbrev pub IsComplete : Scale → MeshName → ℕ → Result (Option Refusal) Stop → World → World →
    Type 0
IsComplete scale mesh decimals result old new =
    (can : IsReadable scale old.holds.files mesh decimals) →
    ¬ Rose old.desk_faults new.desk_faults → ¬ Rose old.sink_faults new.sink_faults →
    (result ≡ Ok (ending_told scale (Ok can.lists))) ⊎ (result ≡ Err NoMemory)

-- The file that the desk held at entry under the name is checked.
pub record Checks (scale : Scale) (mesh : MeshName) (decimals : ℕ)
    (result : Result (Option Refusal) Stop) (old new : World) : Type 0 where
  pub check : Check
  pub is_check : IsCheck scale old.holds.files mesh decimals check
  pub ends : Ends scale (found_by check) result old.holds new.holds
  pub caused : IsCaused check result
  pub complete : IsComplete scale mesh decimals result old new
  pub faults : HasCauses old new result
