-- The summary of the job of cubes, which is made and run.
use Rattle.std.specs.Prelude.{◌≡◌, ℕ, ◌*◌, Bool, true, false, List, [], ◌∷◌, ◌++◌, length, count_by, codes, decimal, Option, Some, None}
use Rattle.std.specs.FinMap as finite
use Rattle.grid_base.specs.declared.grid.Point.{Point}
use Rattle.mesh_base.specs.Mesh.{Mesh}
use Rattle.mesh_base.specs.declared.How.TheVariants.{Whole}
use Rattle.edit_base.specs.declared.Change.TheVariants.{Split}
use Rattle.line_text.specs.WrittenLines.{line_of_words}
use Rattle.log_text.specs.Lines.{point_words, text_of_lines}
use Rattle.log_text.specs.declared.TheConstants.{VERSION}
use Rattle.log_text.specs.declared.LogLine.{LogLine}
use Rattle.log_text.specs.declared.LogLine.TheVariants.{First, Step, Moved, Did}
use Rattle.log_replay.specs.Replay.{Replay, at_mesh, after}
use Rattle.outside_io.specs.ToldLines.{capped}
use Rattle.mesh_make.specs.Cubes.{cubes_mesh}
use Rattle.mesh_make.specs.CubeSteps.{cubes_steps}
use Rattle.step_text.specs.declared.Placed.{Placed}
use Rattle.track_engine.specs.Answers.{without_fields}
use Rattle.track_engine.specs.Effects.{log_of_mesh}

-- ---- the job's log, and where its replay leads

-- the whole log of a job of a mesh and directives where no field is stored: its first line, and the
-- log from the first mesh that is saved on
abbrev pub whole_log : Mesh → List Placed → List LogLine
whole_log m steps = First VERSION ∷ (log_of_mesh (without_fields steps) m steps).lines

-- the log of the job of cubes
abbrev pub log_of_cubes : ℕ → ℕ → List LogLine
log_of_cubes n key = whole_log (cubes_mesh n) (cubes_steps n key)

-- the replay of all its lines, from the mesh of the cubes on
abbrev pub replay_of_cubes : ℕ → ℕ → Replay
replay_of_cubes n key = after (at_mesh (cubes_mesh n)) (log_of_cubes n key)

-- ---- the kinds of lines that are counted

-- a step begins
abbrev pub is_step_line : LogLine → Bool
is_step_line (Step k) = true
is_step_line _ = false

-- a step is taken with the asked shifts
abbrev pub is_whole_step_line : LogLine → Bool
is_whole_step_line (Moved Whole) = true
is_whole_step_line _ = false

-- an edge is split
abbrev pub is_split_line : LogLine → Bool
is_split_line (Did (Split a b w at)) = true
is_split_line _ = false

-- how many lines a log has, and how many of them are of each of these kinds
pub record Counts : Type 0 where
  pub lines : ℕ
  pub steps : ℕ
  pub whole_steps : ℕ
  pub splits : ℕ

-- the counts of these lines
abbrev pub counts_of : List LogLine → Counts
counts_of lines = record {
  lines = length lines;
  steps = count_by is_step_line lines;
  whole_steps = count_by is_whole_step_line lines;
  splits = count_by is_split_line lines;
}

-- ---- the summary

-- a count as digits; it stands still at 2 ^ 64 - 1, which no log reaches
abbrev pub count_word : ℕ → List ℕ
count_word count = decimal (capped count)

-- the lines that tell the job: what was asked for, and how many cubes there are
abbrev pub job_text : ℕ → ℕ → List ℕ
job_text n key =
    line_of_words (codes "try" ∷ decimal n ∷ decimal key ∷ [])
    ++ line_of_words (codes "cubes" ∷ decimal (n * n * n) ∷ [])

-- the lines that tell the steps, those of them that were taken whole, and the splits
abbrev pub kinds_text : Counts → List ℕ
kinds_text counts =
    line_of_words
    (codes "steps" ∷ count_word counts.steps ∷ codes "whole" ∷ count_word counts.whole_steps ∷ [])
    ++ line_of_words (codes "splits" ∷ count_word counts.splits ∷ [])

-- the line that tells where vertex 1 stands; where it does not live nothing is told
-- of it, and there is no such line
abbrev pub corner_text : Option Point → List ℕ
corner_text (Some p) = line_of_words (codes "corner" ∷ point_words p)
corner_text None = []

-- the lines that tell the mesh: its live vertices and faces, and where vertex 1 stands
abbrev pub end_text : Mesh → List ℕ
end_text m =
    line_of_words (codes "mesh" ∷ decimal (finite.len m.points) ∷ decimal (finite.len m.faces) ∷ [])
    ++ corner_text (finite.get m.points 1)

-- the line that tells how long the log is
abbrev pub length_text : Counts → List ℕ
length_text counts = line_of_words (codes "lines" ∷ count_word counts.lines ∷ [])

-- a summary: the job, the counts of its log, and the mesh at its end
abbrev pub summary_text : ℕ → ℕ → Counts → Mesh → List ℕ
summary_text n key counts m =
    job_text n key ++ kinds_text counts ++ end_text m ++ length_text counts

-- the summary of the job of cubes, by its log and by the mesh to which the replay of the log leads
unfoldable pub summary_of : ℕ → ℕ → List ℕ
summary_of n key = summary_text n key (counts_of (log_of_cubes n key)) (replay_of_cubes n key).mesh

-- what counts the lines of one kind in a text counts those of any log in its text
abbrev pub CountsLines : (List ℕ → ℕ) → (LogLine → Bool) → Type 0
CountsLines counted is_of_kind =
    (log : List LogLine) → counted (text_of_lines log) ≡ count_by is_of_kind log
