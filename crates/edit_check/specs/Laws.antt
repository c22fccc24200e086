-- What the laws of a check say.
use Rattle.std.specs.Prelude.{◌≡◌, ℕ, Bool, List, true, false}
use Rattle.grid_base.specs.declared.Positions.{Positions}
use Rattle.grid_base.specs.SeparationTests.{IsExact}
use Rattle.mesh_base.specs.declared.ids.Corners.{Corners}
use Rattle.mesh_base.specs.Mesh.{Mesh, IsSound}
use Rattle.mesh_base.specs.Pairs.{Pair}
use Rattle.mesh_base.specs.Placements.{IsClearMesh}
use Rattle.edit_base.specs.declared.Move.{Move}
use Rattle.edit_base.specs.Scaffold.{Scaffold, joins_contacts, is_as_required}
use Rattle.edit_base.specs.Edges.{with_faces, without_faces}
use Rattle.edit_check.specs.Untouched.{IsUntouched, IsClearWhereUntouched}
use Rattle.edit_check.specs.Agreeing.{AgreesWhereOld}

-- An untouched pair of a mesh that is clear where it is untouched is as required, unless its two
-- members hold two vertices that may touch each other.
abbrev pub UntouchedIsAsRequired : Type 0
UntouchedIsAsRequired =
    (meets : Positions → Bool) → IsExact meets → (s : Scaffold) (fresh_from depth : ℕ) →
    IsClearWhereUntouched s.mesh s.moves fresh_from → (p : Pair) →
    IsUntouched s.mesh s.moves fresh_from p → joins_contacts s.together p ≡ false →
    is_as_required meets s depth p ≡ true

-- A clear mesh is clear where it is untouched, whatever moves and whichever faces are new.
abbrev pub ClearIsClearWhereUntouched : Type 0
ClearIsClearWhereUntouched =
    (m : Mesh) (moves : List Move) (fresh_from : ℕ) → IsClearMesh m →
    IsClearWhereUntouched m moves fresh_from

-- So is a mesh that agrees with a clear one but for what is new and what moves, where faces from
-- that one's next id on are new.
abbrev pub ChangedIsClearWhereUntouched : Type 0
ChangedIsClearWhereUntouched =
    (old new : Mesh) (moves : List Move) → IsSound old → IsClearMesh old →
    AgreesWhereOld old new moves → IsClearWhereUntouched new moves old.next_face

-- A mesh of which faces are dropped and others made agrees with it.
abbrev pub ChangedMeshesAgree : Type 0
ChangedMeshesAgree =
    (m : Mesh) (dropped : List ℕ) (made : List Corners) (moves : List Move) →
    AgreesWhereOld m (with_faces (without_faces m dropped) made) moves
