-- The laws of flips, as statements.
use Rattle.std.specs.Prelude.{◌≡◌, ◌≢◌, false}
use Rattle.grid_base.specs.declared.Point.{Point}
use Rattle.mesh_base.specs.Mesh.{Mesh}
use Rattle.mesh_base.specs.Pairs.{is_edge}
use Rattle.edit_base.specs.Edges.{Edge, without_faces, AreFresh}
use Rattle.edit_base.specs.Reasons.{is_full}
use Rattle.edit_split.specs.Split.{faces_beside, split_mesh, split_is_over}
use Rattle.edit_flip.specs.Flip.{flip_faces, flip_mesh}

-- The flip and its scaffold, a split at whatever point, pass a limit where the counts say it of a
-- split.
abbrev pub FlipTakesRoomOfSplit : Mesh → Edge → Type 0
FlipTakesRoomOfSplit m s =
    (at : Point) → is_full (split_mesh m s at) (flip_mesh m s) ≡ split_is_over m

-- Where the two opposite vertices are two and no edge, and the faces beside the edge are dropped,
-- each of the two faces of the flip may be made when its turn comes.
abbrev pub FlipFacesAreFresh : Mesh → Edge → Type 0
FlipFacesAreFresh m s = s.c ≢ s.d → is_edge m s.c s.d ≡ false →
    AreFresh (without_faces m (faces_beside s)) (flip_faces s)
