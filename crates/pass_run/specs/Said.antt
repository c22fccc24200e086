-- What the lines of a pass do to a sink, and to a mesh.
use Rattle.std.specs.Prelude.{◌≡◌, ℕ, ◌⊎◌, List, ◌++◌, take, Option, Result, Ok, Err}
use Rattle.mesh_base.specs.Mesh.{Mesh}
use Rattle.log_text.specs.Lines.{text_of_lines}
use Rattle.log_text.specs.declared.LogLine.{LogLine}
use Rattle.log_replay.specs.Replay.{after, at_mesh}
use Rattle.log_write.specs.Written.{WrittenInPart}
use Rattle.outside_io.specs.Sink.{appended}

-- the replay of these lines leads from the one mesh to the other
abbrev pub LeadTo : List LogLine → Mesh → Mesh → Type 0
LeadTo lines from to = after (at_mesh from) lines ≡ at_mesh to

-- The first of these lines were written, and perhaps a part of the next. The lines written lead to
-- the mesh, or they and the next one.
pub record SaidInPart (from to : Mesh) (old new : Option (List ℕ))
    (lines : List LogLine) : Type 0 where
  pub text : WrittenInPart old new lines
  pub mesh : LeadTo text.done from to ⊎ LeadTo (text.done ++ take 1 text.rest) from to

-- these lines were written and lead to the mesh, or the first of them
abbrev pub Said : {T E : Type 0} → Mesh → Mesh → Option (List ℕ) → Option (List ℕ) → List LogLine →
    Result T E → Type 0
Said from to old new lines (Ok x) =
    LeadTo lines from to × (new ≡ appended old (text_of_lines lines))
Said from to old new lines (Err fault) = SaidInPart from to old new lines
