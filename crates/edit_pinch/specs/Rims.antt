-- The vertices of a fan, face by face.
use Rattle.std.specs.Prelude.{◌≡◌, ℕ, true, ◌==◌, ◌||◌, List, [], ◌∷◌, ◌++◌, if◌then◌else◌}
use Rattle.std.specs.List.{fold}
use Rattle.grid_base.specs.Triples.{Triple, plus, minus}
use Rattle.mesh_base.specs.Mesh.{Mesh, IsLiveFace}
use Rattle.mesh_base.specs.Changes.{corner_list}
use Rattle.mesh_base.specs.Placements.{origin, rest_positions}
use Rattle.edit_base.specs.Classes.{is_one_of}
use Rattle.edit_base.specs.Edges.{corners_at}

-- a vertex more, unless it is v or is there
abbrev pub with_other : ℕ → List ℕ → ℕ → List ℕ
with_other v found u = if (u == v) || is_one_of found u then found else found ++ u ∷ []

-- the corners of a face more
abbrev pub with_corners : Mesh → ℕ → List ℕ → ℕ → List ℕ
with_corners m v found f = fold (with_other v) found (corner_list (corners_at m f))

-- the vertices of a fan other than v, each where it is first found
abbrev pub found_rim : Mesh → ℕ → List ℕ → List ℕ
found_rim m v fan = fold (with_corners m v) [] fan

-- the way from v to a vertex more
abbrev pub with_way : Mesh → ℕ → Triple → ℕ → Triple
with_way m v sum u = plus sum (minus (rest_positions m u) (rest_positions m v))

-- the ways from v to the vertices, added
abbrev pub ways : Mesh → ℕ → List ℕ → Triple
ways m v us = fold (with_way m v) origin us

-- each of the faces lives
abbrev pub AreLiveFaces : Mesh → List ℕ → Type 0
AreLiveFaces m fan = (f : ℕ) → is_one_of fan f ≡ true → IsLiveFace m f
