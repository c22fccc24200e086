-- The headline: what a conversion does.
use Rattle.std.specs.Prelude.{◌≡◌, ◌⊎◌, ℕ, Option, None, Result, Ok, Err}
use Rattle.in_out.specs.InOut.{InOut}
use Rattle.mesh_base.specs.declared.limits.Scale.{Scale}
use Rattle.log_text.specs.declared.Refusal.{Refusal}
use Rattle.outside_io.specs.declared.stop.Stop.{Stop}
use Rattle.outside_io.specs.declared.stop.Stop.TheVariants.{NoMemory}
use Rattle.outside_io.specs.Causes.{Rose}
use Rattle.outside_io.specs.Outside.{Around, HasCauses, InWorld}
use Rattle.outside_io.specs.World.{World}
use Rattle.track_input.specs.declared.MeshFile.{MeshFile}
use Rattle.track_input.specs.Named.{mesh_name}
use Rattle.track_input.specs.Words.{MeshName}
use Rattle.track_convert.specs.Conversion.{Conversion, IsConversion, found_by}
use Rattle.track_convert.specs.Endings.{Ends}
use Rattle.track_convert.specs.Causes.{Cause, IsStopped, IsConvertible}

-- THE HEADLINE, read from here down, each part explained where it stands. A conversion
-- writes one line and stores one file: the text, in the format that its name picks, of the
-- lists that the grammar of the other file gives, which has the same content; or it writes
-- the line of the first refusal that applies and stores nothing; or it is stopped. In every
-- ending each other name is as it was.

-- The ending has its cause in the conversion, and the conversion has a cause for no
-- other ending but those that stop it.
pub record IsCaused (c : Conversion) (result : Result (Option Refusal) Stop) : Type 0 where
  pub cause : Cause c result
  pub no_other : (other : Result (Option Refusal) Stop) → Cause c other →
      (result ≡ other) ⊎ IsStopped other ⊎ IsStopped result

-- What can be converted is, where memory does not want and no count of faults rises.
abbrev pub IsComplete : Scale → MeshName → ℕ → Result (Option Refusal) Stop → World → World →
    Type 0
IsComplete scale from decimals result old new =
    IsConvertible scale old.holds.files from decimals → ¬ Rose old.desk_faults new.desk_faults →
    ¬ Rose old.sink_faults new.sink_faults →
    (result ≡ Ok None) ⊎ (result ≡ Err NoMemory)

-- The file that the desk held at entry under the one name is converted to the other.
pub record Converts (scale : Scale) (from to : MeshName) (decimals : ℕ)
    (result : Result (Option Refusal) Stop) (old new : World) : Type 0 where
  pub conversion : Conversion
  pub is_conversion : IsConversion scale old.holds.files from decimals conversion
  pub ends : Ends to decimals (found_by conversion) result old.holds new.holds
  pub caused : IsCaused conversion result
  pub complete : IsComplete scale from decimals result old new
  pub faults : HasCauses old new result

-- That of a call that is handed what is outside and the two files.
abbrev pub ConvertsFile : {O : Type 0} → (O → Around) → InOut O → Scale → MeshFile → MeshFile → ℕ →
    Result (Option Refusal) Stop → Type 0
ConvertsFile around outside scale from to decimals result =
    InWorld around outside (Converts scale (mesh_name from) (mesh_name to) decimals result)
