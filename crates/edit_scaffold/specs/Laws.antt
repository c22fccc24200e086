-- The laws of scaffolds, as statements.
use Rattle.std.specs.Prelude.{IfSome}
use Rattle.mesh_base.specs.Mesh.{Mesh, IsSound}
use Rattle.mesh_base.specs.Placements.{IsClearMesh}
use Rattle.edit_base.specs.declared.answers.Change.{Change}
use Rattle.edit_check.specs.Agreeing.{AgreesWhereOld}
use Rattle.edit_check.specs.Untouched.{IsClearWhereUntouched}
use Rattle.edit_any.specs.Dispatch.{scaffold_of}

-- The scaffold of an edit agrees with the mesh before the edit, but for new faces and the vertices
-- that move.
abbrev pub ScaffoldsAgree : Type 0
ScaffoldsAgree = (m : Mesh) (change : Change) →
    IfSome (scaffold_of m change) (λ s. AgreesWhereOld m s.mesh s.moves)

-- The scaffold of an edit of a sound and clear mesh is clear where nothing is touched: where faces
-- from the mesh's next id on are new, and the vertices move as they do there.
abbrev pub ScaffoldsAreClearWhereUntouched : Type 0
ScaffoldsAreClearWhereUntouched = (m : Mesh) (change : Change) → IsSound m → IsClearMesh m →
    IfSome (scaffold_of m change) (λ s. IsClearWhereUntouched s.mesh s.moves m.next_face)
