-- What is told to a counting sink, and what a run comes to.
use Rattle.std.specs.Prelude.{◌≡◌, ℕ, List}
use Rattle.mesh_base.specs.Mesh.{Mesh}
use Rattle.log_text.specs.Lines.{text_of_lines}
use Rattle.log_replay.specs.Replay.{at_mesh, after}
use Rattle.outside_io.specs.ToldLines.{lines_in, steps_in, whole_steps_in, splits_in}
use Rattle.step_text.specs.declared.Placed.{Placed}
use Rattle.track_try.specs.Summary.{Counts, whole_log}

-- the counts of a text
abbrev pub counts_in : List ℕ → Counts
counts_in text = record {
  lines = lines_in text;
  steps = steps_in text;
  whole_steps = whole_steps_in text;
  splits = splits_in text;
}

-- A job of this mesh and these directives was run: a sink was given the text of its whole log, and
-- the mesh is that to which the replay of the log leads.
pub record HasRun (m : Mesh) (steps : List Placed) (told : List ℕ) (now : Mesh) : Type 0 where
  pub log : told ≡ text_of_lines (whole_log m steps)
  pub mesh : now ≡ (after (at_mesh m) (whole_log m steps)).mesh
