-- Lists have no fault exactly where they make a closed mesh.
use Rattle.std.specs.Prelude.{List}
use Rattle.grid_base.specs.declared.Point.{Point}
use Rattle.mesh_base.specs.Mesh.{IsSound}
use Rattle.mesh_base.specs.Sides.{IsClosed}
use Rattle.mesh_base.specs.Given.{Faces, mesh_under}
use Rattle.mesh_base.specs.declared.limits.Scale.{Scale}
use Rattle.mesh_shape.specs.Shape.{HasNoFault}

-- lists that make a mesh within its limits that is closed have no fault
abbrev pub ClosedMeshHasNoFault : Type 0
ClosedMeshHasNoFault = (scale : Scale) (points : List Point) (faces : Faces) →
    IsSound (mesh_under scale points faces) →
    IsClosed (mesh_under scale points faces) → HasNoFault scale points faces

-- lists with no fault make a mesh within its limits
abbrev pub FaultlessIsSound : Type 0
FaultlessIsSound = (scale : Scale) (points : List Point) (faces : Faces) →
    HasNoFault scale points faces → IsSound (mesh_under scale points faces)

-- and it is closed
abbrev pub FaultlessIsClosed : Type 0
FaultlessIsClosed = (scale : Scale) (points : List Point) (faces : Faces) →
    HasNoFault scale points faces → IsClosed (mesh_under scale points faces)
