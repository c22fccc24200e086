-- What each change makes of a mesh.
use Rattle.std.specs.Prelude.{◌≡◌, ℕ, ◌+◌, ◌⊎◌, false, List, [], ◌∷◌, slice_index}
use Rattle.std.specs.FinMap as map
use Rattle.grid_base.specs.declared.TheConstants.{ID_MAX}
use Rattle.grid_base.specs.declared.Point.{Point}
use Rattle.mesh_base.specs.declared.ids.Corners.{Corners}
use Rattle.mesh_base.specs.Mesh.{Mesh, AreLive, AreDifferent, HasCorners, equal_up_to_rotation}

-- a list of three, as corners
abbrev pub corners_of : List ℕ → Corners
corners_of ids =
    record { first = slice_index ids 0; second = slice_index ids 1; third = slice_index ids 2 }

-- corners, as a list of three
abbrev pub corner_list : Corners → List ℕ
corner_list c = c.first ∷ c.second ∷ c.third ∷ []

-- a vertex more, at the point, with the next id
abbrev pub with_vertex : Mesh → Point → Mesh
with_vertex m p =
    record m { points = map.insert m.points m.next_vertex p; next_vertex = m.next_vertex + 1 }

-- a face more, with the next id
abbrev pub with_face : Mesh → Corners → Mesh
with_face m c = record m { faces = map.insert m.faces m.next_face c; next_face = m.next_face + 1 }

-- a face less; its id stays given
abbrev pub without_face : Mesh → ℕ → Mesh
without_face m f = record m { faces = map.remove m.faces f }

-- a vertex less, and its mark as solid, if it has one; its id stays given
abbrev pub without_vertex : Mesh → ℕ → Mesh
without_vertex m v = record m { points = map.remove m.points v; solid = map.remove m.solid v }

-- the vertex at another point
abbrev pub with_point : Mesh → ℕ → Point → Mesh
with_point m v p = record m { points = map.insert m.points v p }

-- the vertex solid
abbrev pub with_solid : Mesh → ℕ → Mesh
with_solid m v = record m { solid = map.insert m.solid v tt }

-- a face may be made of the corners
pub record IsFresh (m : Mesh) (c : Corners) : Type 0 where
  pub live : AreLive m c
  pub different : AreDifferent c
  pub new : (f : ℕ) (d : Corners) → HasCorners m f d → equal_up_to_rotation d c ≡ false

-- no vertex can be made: so many are live, or so many ids are made
abbrev pub IsFullOfVertices : Mesh → Type 0
IsFullOfVertices m = (map.len m.points ≡ m.limits.vertices) ⊎ (m.next_vertex ≡ (ID_MAX + 1))

-- no face can be made
abbrev pub IsFullOfFaces : Mesh → Type 0
IsFullOfFaces m = (map.len m.faces ≡ m.limits.faces) ⊎ (m.next_face ≡ (ID_MAX + 1))
