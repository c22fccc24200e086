-- The laws of splits, as statements.
use Rattle.std.specs.Prelude.{◌≡◌, Bool, List}
use Rattle.grid_base.specs.declared.Point.{Point}
use Rattle.mesh_base.specs.Mesh.{Mesh}
use Rattle.mesh_base.specs.Sides.{IsClosed}
use Rattle.mesh_base.specs.Changes.{with_vertex}
use Rattle.mesh_base.specs.Limits.{is_over_limits}
use Rattle.edit_base.specs.declared.Move.{Move}
use Rattle.edit_base.specs.Edges.{Edge, without_faces, AreFresh}
use Rattle.edit_base.specs.Required.{HasEdge}
use Rattle.edit_check.specs.Agreeing.{AgreesWhereOld}
use Rattle.edit_split.specs.Split.{faces_beside, split_faces, split_mesh, split_is_over}

-- At whatever point the edge is split, the split passes a limit where the counts of the mesh say
-- so.
abbrev pub SplitTakesRoom : Mesh → Edge → Type 0
SplitTakesRoom m s = (at : Point) → is_over_limits (split_mesh m s at) ≡ split_is_over m

-- Where the two faces beside the edge are dropped and a vertex is made, wherever it stands, each of
-- the four faces of the split may be made when its turn comes.
abbrev pub SplitFacesAreFresh : Mesh → Edge → Type 0
SplitFacesAreFresh m s = (at : Point) →
    AreFresh (with_vertex (without_faces m (faces_beside s)) at) (split_faces s m.next_vertex)

-- A mesh of which an edge is split agrees with the mesh before, but for new faces.
abbrev pub SplitMeshesAgree : Type 0
SplitMeshesAgree = (m : Mesh) (s : Edge) (at : Point) (moves : List Move) →
    AgreesWhereOld m (split_mesh m s at) moves

-- the answer is whether the split of an edge of a closed mesh, whichever and wherever, would pass a
-- limit
abbrev pub TellsOver : Mesh → Bool → Type 0
TellsOver m answer = (s : Edge) (at : Point) → IsClosed m → HasEdge m s →
    answer ≡ is_over_limits (split_mesh m s at)
