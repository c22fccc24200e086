-- Faces with their corners, as they are parted into fans.
use Rattle.std.specs.Prelude.{ℕ, ◌==◌, ◌&&◌, not, Bool, List, map}
use Rattle.std.specs.List.{list_any}
use Rattle.mesh_base.specs.declared.ids.Corners.{Corners}
use Rattle.mesh_base.specs.Mesh.{Mesh}
use Rattle.mesh_base.specs.Sides.{has_corner}
use Rattle.mesh_base.specs.Changes.{corner_list}
use Rattle.edit_base.specs.Edges.{corners_at}

-- the two share a vertex other than v
abbrev pub share_other : ℕ → Corners → Corners → Bool
share_other v c d = list_any (λ u. not (u == v) && has_corner d u) (corner_list c)

-- a face with its corners
abbrev pub cornered : Mesh → ℕ → ℕ × Corners
cornered m f = (f, corners_at m f)

-- the faces alone
abbrev pub face_ids : List (ℕ × Corners) → List ℕ
face_ids es = map (λ e. e.0) es
