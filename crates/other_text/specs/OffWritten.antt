-- The OFF text of lists.
use Rattle.std.specs.Prelude.{ℕ, ◌-◌, List, [], ◌∷◌, ◌++◌, length, map, codes, decimal}
use Rattle.std.specs.List.{flat_map}
use Rattle.grid_base.specs.Triples.{Triple}
use Rattle.line_text.specs.Numbers.{fixed_text}
use Rattle.line_text.specs.WrittenLines.{line_of_words}
use Rattle.obj_text.specs.Obj.{Lists}

-- X Y Z
abbrev pub point_words : ℕ → Triple → List (List ℕ)
point_words decimals p =
    fixed_text decimals p.x ∷ fixed_text decimals p.y ∷ fixed_text decimals p.z ∷ []

-- 3 I J K, from 0
abbrev pub face_words : List ℕ → List (List ℕ)
face_words corners = codes "3" ∷ map (λ c. decimal (c - 1)) corners

-- the row of a point
abbrev pub point_line : ℕ → Triple → List ℕ
point_line decimals p = line_of_words (point_words decimals p)

-- the row of a face
abbrev pub face_line : List ℕ → List ℕ
face_line corners = line_of_words (face_words corners)

-- the rows of points
abbrev pub points_text : ℕ → List Triple → List ℕ
points_text decimals points = flat_map (λ p. point_line decimals p) points

-- the rows of faces
abbrev pub faces_text : List (List ℕ) → List ℕ
faces_text faces = flat_map (λ f. face_line f) faces

-- the rows of the points and then of the faces
abbrev pub rows_text : ℕ → Lists → List ℕ
rows_text decimals lists = points_text decimals lists.points ++ faces_text lists.faces

-- OFF, V F 0, and the rows
abbrev pub off_text : ℕ → Lists → List ℕ
off_text decimals lists =
    line_of_words (codes "OFF" ∷ [])
    ++ line_of_words (decimal (length lists.points) ∷ decimal (length lists.faces) ∷ codes "0" ∷ [])
    ++ rows_text decimals lists
