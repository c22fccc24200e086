-- What a log promises of the meshes and the motions that it tells.
use Rattle.std.specs.Prelude.{◌≡◌, ◌≤◌, ℕ, List, length, map, None, Ok}
use Rattle.std.specs.FinMap as finite
use Rattle.mesh_base.specs.declared.Scale.{Scale}
use Rattle.mesh_base.specs.Limits.{limits_of}
use Rattle.mesh_base.specs.Mesh.{Mesh, IsSound}
use Rattle.mesh_base.specs.Sides.{IsClosed}
use Rattle.mesh_base.specs.Placements.{IsClearMesh}
use Rattle.mesh_base.specs.Valid.{IsValidSurface}
use Rattle.mesh_shape.specs.Shape.{shape_fault}
use Rattle.obj_text.specs.Obj.{lists_of}
use Rattle.mesh_base.specs.Given.{mesh_under}
use Rattle.grid_base.specs.Points.{point_at}
use Rattle.grid_base.specs.declared.TheConstants.{DECIMALS_MAX}
use Rattle.obj_text.specs.Written.{mesh_text, ranked_lists}
use Rattle.obj_text.specs.Laws.{renumbered}
use Rattle.log_text.specs.declared.LogLine.{LogLine}
use Rattle.log_text.specs.declared.LogLine.TheVariants.{Mesh as MeshLine, Close}
use Rattle.log_replay.specs.Replay.{Replay, replayed, EachAt}
use Rattle.log_replay.specs.Safe.{LineIsSafe}

-- as many vertices and faces are live as a job of this scale may have
pub record FitsScale (scale : Scale) (m : Mesh) : Type 0 where
  pub vertices : finite.len m.points ≤ (limits_of scale).vertices
  pub faces : finite.len m.faces ≤ (limits_of scale).faces

-- The text of a mesh on a grid of so many decimals is read again by a job of a scale: its lists are
-- of good shape and make the mesh with its vertices and faces numbered anew, which is sound, closed
-- and clear too. So a run takes the file as its mesh.
pub record IsReadAgain (scale : Scale) (decimals : ℕ) (m : Mesh) : Type 0 where
  pub lists : lists_of decimals (mesh_text decimals m) ≡ Ok (ranked_lists m)
  pub shape : shape_fault scale (length (ranked_lists m).points) (ranked_lists m).faces ≡ None
  pub mesh :
      mesh_under scale (map point_at (ranked_lists m).points) (ranked_lists m).faces
      ≡ renumbered scale m
  pub sound : IsSound (renumbered scale m)
  pub closed : IsClosed (renumbered scale m)
  pub clear : IsClearMesh (renumbered scale m)

-- A mesh that is saved has these live numbers, is within the laws and limits of a mesh, is closed,
-- and no edge meets a face that shares no vertex with it. Its text is read again on a grid of as
-- many decimals, of which a job has at most `DECIMALS_MAX`, by a job of each scale that has room
-- for as many vertices and faces.
pub record IsSavedWell (r : Replay) (vertices faces : ℕ) : Type 0 where
  pub vertex_count : vertices ≡ finite.len r.mesh.points
  pub face_count : faces ≡ finite.len r.mesh.faces
  pub sound : IsSound r.mesh
  pub closed : IsClosed r.mesh
  pub clear : IsClearMesh r.mesh
  pub read_again : (scale : Scale) (decimals : ℕ) → FitsScale scale r.mesh →
      decimals ≤ DECIMALS_MAX → IsReadAgain scale decimals r.mesh

-- What a line promises of the replay where it stands: of a `mesh` line that the mesh is saved well,
-- of a `move` line that its vertex is not solid, of a `moved` line that the motion by the `move`
-- lines is safe, of the line of a done edit that the edit is, and of a `close` line that the mesh
-- after it, kept or taken back, is sound, closed and clear.
abbrev pub LineHolds : Replay → LogLine → Type 0
LineHolds r (MeshLine k vertices faces) = IsSavedWell r vertices faces
LineHolds r (Close kept) = IsValidSurface (replayed r (Close kept)).mesh
LineHolds r line = LineIsSafe r line

-- each line keeps its promise, one after another
abbrev pub LogIsSafe : Replay → List LogLine → Type 0
LogIsSafe r lines = EachAt LineHolds r lines
