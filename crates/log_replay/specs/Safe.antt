-- What a log promises of the motions and of the edits that it tells.
use Rattle.std.specs.Prelude.{◌≡◌, ⊤, false, List}
use Rattle.mesh_base.specs.Mesh.{Mesh, is_solid}
use Rattle.mesh_base.specs.Placements.{IsClearAlong}
use Rattle.mesh_base.specs.Shifts.{moved_by, with_moves}
use Rattle.mesh_base.specs.Valid.{IsValidSurface}
use Rattle.edit_base.specs.declared.Change.{Change}
use Rattle.edit_base.specs.declared.Change.TheVariants.{Pinch}
use Rattle.edit_collapse.specs.SolidEnds.{SolidEndStays}
use Rattle.edit_any.specs.Dispatch.{edited, scaffold_of}
use Rattle.edit_any.specs.SolidVertices.{SolidVerticesStay}
use Rattle.edit_base.specs.Clauses.{MovesClear}
use Rattle.log_text.specs.declared.LogLine.{LogLine}
use Rattle.log_text.specs.declared.LogLine.TheVariants.{Move, Moved, Did}
use Rattle.log_replay.specs.Replay.{Replay, replayed, EachAt}

-- A motion by the `move` lines so far begins in a mesh that is sound, closed and clear, keeps it
-- clear at every fraction, and ends in one that is so too.
pub record MotionIsSafe (r : Replay) : Type 0 where
  pub before : IsValidSurface r.mesh
  pub along : IsClearAlong r.mesh (moved_by r.mesh r.moves)
  pub after : IsValidSurface (with_moves r.mesh r.moves)

-- a pinch is of a vertex that is not solid
abbrev pub PinchesNoSolid : Mesh → Change → Type 0
PinchesNoSolid m (Pinch v at copies) = is_solid m v ≡ false
PinchesNoSolid m _ = ⊤

-- No edit moves a solid vertex. A collapse goes to the end that is solid, if one is, and the vertex
-- that it leaves is solid then; no solid vertex is pinched; and after each edit the solid vertices
-- that are left stand where they stood, and are solid.
pub record NoSolidMoves (m : Mesh) (change : Change) : Type 0 where
  pub collapse : SolidEndStays m change
  pub pinch : PinchesNoSolid m change
  pub each : SolidVerticesStay m change (edited m change)

-- An edit begins in a mesh that is sound, closed and clear, its scaffold is closed, and clear at
-- every fraction of its motion, of a pinch above zero and of a collapse below one, and it leaves a
-- mesh that is sound, closed and clear. A zip has no motion. No solid vertex moves.
pub record EditIsSafe (r : Replay) (change : Change) : Type 0 where
  pub before : IsValidSurface r.mesh
  pub along : MovesClear scaffold_of r.mesh change
  pub after : IsValidSurface (edited r.mesh change)
  pub solid : NoSolidMoves r.mesh change

-- A `move` line promises that its vertex is not solid, a `moved` line that the motion by the `move`
-- lines is safe, and the line of a done edit that the edit is.
abbrev pub LineIsSafe : Replay → LogLine → Type 0
LineIsSafe r (Move s) = is_solid r.mesh s.v ≡ false
LineIsSafe r (Moved how) = MotionIsSafe r
LineIsSafe r (Did change) = EditIsSafe r change
LineIsSafe r _ = ⊤

-- a line is safe where it stands, and leaves a mesh that is sound, closed and clear
abbrev pub LineKeepsTheMesh : Replay → LogLine → Type 0
LineKeepsTheMesh r line = LineIsSafe r line × IsValidSurface (replayed r line).mesh

-- each of the lines does so, in turn
abbrev pub LinesKeepTheMesh : Replay → List LogLine → Type 0
LinesKeepTheMesh r lines = EachAt LineKeepsTheMesh r lines
