-- The laws of pinches, as statements.
use Rattle.std.specs.Prelude.{◌≡◌, ◌≢◌, ℕ, Bool, List, None}
use Rattle.grid_base.specs.declared.Point.{Point}
use Rattle.grid_base.specs.declared.Positions.{Positions}
use Rattle.grid_base.specs.Points.{position_of}
use Rattle.grid_base.specs.Triples.{plus}
use Rattle.mesh_base.specs.Mesh.{Mesh}
use Rattle.mesh_base.specs.Placements.{rest_positions}
use Rattle.edit_base.specs.declared.Move.{Move}
use Rattle.edit_base.specs.Scaffold.{move_of}
use Rattle.edit_check.specs.Agreeing.{AgreesWhereOld}
use Rattle.edit_pinch.specs.Pinch.{pinch_mesh, fan_point, fan_shift}
use Rattle.edit_pinch.specs.Answer.{pinch_answer}
use Rattle.edit_pinch.specs.SolidVertices.{PinchesNoneSolid}

-- The copy for a fan stands at the vertex's point plus the fan's shift.
abbrev pub CopiesAreShifted : Type 0
CopiesAreShifted = (m : Mesh) (v : ℕ) (fan : List ℕ) →
    position_of (fan_point m v fan) ≡ plus (rest_positions m v) (fan_shift m v fan)

-- Whatever test of meeting is made to whatever depth, no done pinch is of a solid vertex.
abbrev pub NoSolidIsPinched : Type 0
NoSolidIsPinched = (meets : Positions → Bool) (v depth : ℕ) →
    PinchesNoneSolid v (λ m. pinch_answer meets m v depth)

-- A pinch changes no mark.
abbrev pub PinchesKeepMarks : Type 0
PinchesKeepMarks = (m : Mesh) (v : ℕ) (at : Point) (points : List Point) →
    (pinch_mesh m v at points).solid ≡ m.solid

-- A mesh of which a vertex is pinched agrees with it but for new faces and what moves, where the
-- vertex is named among what moves.
abbrev pub PinchedMeshesAgree : Type 0
PinchedMeshesAgree = (m : Mesh) (v : ℕ) (at : Point) (points : List Point) (moves : List Move) →
    move_of moves v ≢ None → AgreesWhereOld m (pinch_mesh m v at points) moves
