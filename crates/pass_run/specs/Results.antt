-- What the parts of a pass do.
use Rattle.std.specs.Prelude.{◌≡◌, ℕ, List, Result, Ok, Err, IfOk, Option, Some, None}
use Rattle.grid_base.specs.declared.NoMemory.{NoMemory}
use Rattle.grid_decided.specs.Decided.{meets_exactly}
use Rattle.mesh_base.specs.Mesh.{Mesh}
use Rattle.mesh_base.specs.Sides.{IsClosed}
use Rattle.mesh_base.specs.Placements.{IsClearMesh}
use Rattle.mesh_base.specs.Kept.{BeginsWith}
use Rattle.edit_base.specs.declared.Asked.{Asked}
use Rattle.edit_base.specs.declared.Edit.{Edit}
use Rattle.edit_any.specs.Dispatch.{answer_to}
use Rattle.log_text.specs.declared.LogLine.{LogLine}
use Rattle.outside_io.specs.declared.stop.Stop.{Stop}
use Rattle.outside_io.specs.Outside.{Around, StoresNothing}
use Rattle.pass_run.specs.declared.passes.PassCount.{PassCount}
use Rattle.pass_run.specs.PassLines.{line_of, mesh_asked, done_in, refused_in}
use Rattle.pass_run.specs.Said.{Said}

-- what an edit answers in a mesh, by the exact test
abbrev pub exact_answer : ℕ → Mesh → Asked → Edit
exact_answer depth m what = answer_to meets_exactly m depth what

-- its line, if an edit is asked
abbrev pub line_asked : (Asked → Edit) → Option Asked → Option LogLine
line_asked answer (Some what) = Some (line_of what (answer what))
line_asked answer None = None

-- the mesh that it leaves; after want of memory the same mesh
abbrev pub mesh_then : (Asked → Edit) → Mesh → Option Asked → Result (Option LogLine) NoMemory →
    Mesh
mesh_then answer m call (Ok line) = mesh_asked answer m call
mesh_then answer m call (Err fault) = m

-- Where a pass stands: the mesh, the meshes that are kept for marks, and what is outside.
pub record Stage : Type 0 where
  pub mesh : Mesh
  pub kept : List Mesh
  pub around : Around

-- the three of a surface and of what is outside
abbrev pub stage : {S O : Type 0} → (S → Mesh) → (S → List Mesh) → (O → Around) → S → O → Stage
stage mesh kept around surface outside =
    record { mesh = mesh surface; kept = kept surface; around = around outside }

-- what the sink then holds, where it tells
abbrev pub written_at : Stage → Option (List ℕ)
written_at s = s.around.world.holds.written

-- The mesh is closed and clear, earlier marks hold, and the desk is left alone.
pub record Keeps {T : Type 0} (old new : Stage) (result : Result T Stop) : Type 0 where
  pub closed : IsClosed new.mesh
  pub clear : IsClearMesh new.mesh
  pub marks : BeginsWith new.kept old.kept
  pub nothing_stored : StoresNothing old.around new.around result

-- From old to new these lines were said and counted, or the first of them.
pub record PassResult (lines : List LogLine) (old new : Stage)
    (result : Result PassCount Stop) : Type 0 where
  pub said : Said old.mesh new.mesh (written_at old) (written_at new) lines result
  pub done : IfOk result (λ count. count.done ≡ done_in lines)
  pub refused : IfOk result (λ count. count.refused ≡ refused_in lines)
  pub keeps : Keeps old new result
