-- The text of lists: a line for each point, and then one for each face.
use Rattle.std.specs.Prelude.{ℕ, List, [], ◌∷◌, ◌++◌, map, codes, decimal}
use Rattle.std.specs.List.{flat_map}
use Rattle.grid_base.specs.Triples.{Triple}
use Rattle.line_text.specs.Numbers.{fixed_text}
use Rattle.line_text.specs.WrittenLines.{line_of_words}
use Rattle.obj_text.specs.Obj.{Lists}

-- v X Y Z
abbrev pub point_line : ℕ → Triple → List ℕ
point_line decimals p =
    line_of_words
    (codes "v" ∷ fixed_text decimals p.x ∷ fixed_text decimals p.y ∷ fixed_text decimals p.z ∷ [])

-- f I J K
abbrev pub triangle_line : List ℕ → List ℕ
triangle_line corners = line_of_words (codes "f" ∷ map decimal corners)

-- the lines of points
abbrev pub points_text : ℕ → List Triple → List ℕ
points_text decimals points = flat_map (λ p. point_line decimals p) points

-- the lines of faces
abbrev pub triangles_text : List (List ℕ) → List ℕ
triangles_text faces = flat_map (λ f. triangle_line f) faces

-- the text of lists on a grid of so many decimals
abbrev pub lists_text : ℕ → Lists → List ℕ
lists_text decimals lists = points_text decimals lists.points ++ triangles_text lists.faces
