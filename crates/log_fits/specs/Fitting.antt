-- Logs whose lines all fit.
use Rattle.std.specs.Prelude.{⊤, List, [], ◌∷◌}
use Rattle.mesh_base.specs.Mesh.{Mesh}
use Rattle.mesh_base.specs.Valid.{IsValidSurface}
use Rattle.step_text.specs.declared.Placed.{Placed}
use Rattle.step_text.specs.Ranges.{AreInRange, AreNested}
use Rattle.log_text.specs.declared.TheConstants.{VERSION}
use Rattle.log_text.specs.declared.LogLine.{LogLine}
use Rattle.log_text.specs.declared.LogLine.TheVariants.{First}
use Rattle.log_run.specs.States.{LogState, without_lines, with_line}
use Rattle.log_run.specs.Fits.{LineFits}
use Rattle.track_input.specs.Job.{Job, mesh_of_job}
use Rattle.track_engine.specs.Answers.{Answers}
use Rattle.track_engine.specs.Effects.{log_of_mesh}
use Rattle.track_run.specs.Job.{log_of}

-- each of the lines fits where the lines before it lead
abbrev pub LinesFit : LogState → List LogLine → Type 0
LinesFit s [] = ⊤
LinesFit s (line ∷ lines) = LineFits s line × LinesFit (with_line s line) lines

-- The log of directives within their limits, whose groups are nested, over a mesh
-- that is sound, closed and clear.
abbrev pub LogsOfMeshesFit : Type 0
LogsOfMeshesFit = (answers : Answers) (m : Mesh) (steps : List Placed) → IsValidSurface m →
    AreInRange steps → AreNested 0 steps 0 →
    LinesFit (without_lines m) (First VERSION ∷ (log_of_mesh answers m steps).lines)

-- the log of a job
abbrev pub LogsOfJobsFit : Type 0
LogsOfJobsFit = (job : Job) (answers : Answers) →
    LinesFit (without_lines (mesh_of_job job)) (log_of job answers).lines
