-- The log of the generated job, and when its lines tell that nothing is in the way.
use Rattle.std.specs.Prelude.{◌≡◌, ℕ, Bool, true, false, List, length}
use Rattle.std.specs.List.{filter}
use Rattle.mesh_base.specs.declared.How.TheVariants.{Whole}
use Rattle.log_text.specs.declared.LogLine.{LogLine}
use Rattle.log_text.specs.declared.LogLine.TheVariants.{Hit, Moved, Refused}
use Rattle.mesh_make.specs.Cubes.{cubes_mesh}
use Rattle.mesh_make.specs.CubeSteps.{cubes_steps}
use Rattle.track_engine.specs.State.{start}
use Rattle.track_engine.specs.Answers.{without_fields}
use Rattle.track_engine.specs.Effects.{ExpectedLog, log_from}

-- the log of the directives of the generated job, from its mesh on, where no field is stored
abbrev pub log_of_cubes : ℕ → ℕ → ExpectedLog
log_of_cubes n key =
    log_from (without_fields (cubes_steps n key)) (cubes_steps n key) (start (cubes_mesh n))

-- A line tells neither a pair that does not pass, nor a step that
-- is not taken whole, nor a refusal.
abbrev pub MovesWhole : LogLine → Type 0
MovesWhole (Hit pair) = ⊥
MovesWhole (Moved how) = how ≡ Whole
MovesWhole (Refused why) = ⊥
MovesWhole _ = Unit {0}

-- whether a line tells how a step was taken
abbrev pub is_moved : LogLine → Bool
is_moved (Moved how) = true
is_moved _ = false

-- how many steps the lines tell
abbrev pub moved_in : List LogLine → ℕ
moved_in lines = length (filter is_moved lines)
