-- The text of a mesh: a line for each live vertex, and then one for each live face.
use Rattle.std.specs.Prelude.{ℕ, List, [], ◌∷◌, ◌++◌, length, map, codes, decimal, nat_le}
use Rattle.std.specs.List.{flat_map, filter}
use Rattle.std.specs.FinMap as finite
use Rattle.grid_base.specs.declared.Point.{Point}
use Rattle.grid_base.specs.Points.{position_of}
use Rattle.line_text.specs.Numbers.{fixed_text}
use Rattle.line_text.specs.WrittenLines.{line_of_words}
use Rattle.mesh_base.specs.declared.Corners.{Corners}
use Rattle.mesh_base.specs.Mesh.{Mesh}
use Rattle.obj_text.specs.Obj.{Lists}

-- how many of the ids there are up to v
abbrev pub rank_among : List ℕ → ℕ → ℕ
rank_among ids v = length (filter (λ u. nat_le u v) ids)

-- the rank of a vertex among the live ones, from 1
abbrev pub rank : Mesh → ℕ → ℕ
rank m v = rank_among (finite.keys m.points) v

-- the ranks of the corners, in order
abbrev pub ranks : Mesh → Corners → List ℕ
ranks m c = rank m c.first ∷ rank m c.second ∷ rank m c.third ∷ []

-- where the live vertices stand, by rising id
abbrev pub points_in_order : Mesh → List Point
points_in_order m = map (λ e. e.1) (finite.entries m.points)

-- the live faces, by rising id, each by the ranks of its corners
abbrev pub faces_by_rank : Mesh → List (List ℕ)
faces_by_rank m = map (λ e. ranks m e.1) (finite.entries m.faces)

-- f and the ranks of the corners among the ids
abbrev pub ranked_line : List ℕ → List ℕ → List ℕ
ranked_line ids corners = line_of_words (codes "f" ∷ map decimal (map (rank_among ids) corners))

-- v X Y Z
abbrev pub vertex_line : ℕ → Point → List ℕ
vertex_line decimals p =
    line_of_words
    (codes "v" ∷ fixed_text decimals p.x ∷ fixed_text decimals p.y ∷ fixed_text decimals p.z ∷ [])

-- f I J K
abbrev pub face_line : Mesh → Corners → List ℕ
face_line m c = line_of_words (codes "f" ∷ map decimal (ranks m c))

-- the lines of the live vertices, by rising id
abbrev pub vertices_text : ℕ → Mesh → List ℕ
vertices_text decimals m = flat_map (λ e. vertex_line decimals e.1) (finite.entries m.points)

-- the lines of the live faces, by rising id
abbrev pub faces_text : Mesh → List ℕ
faces_text m = flat_map (λ e. face_line m e.1) (finite.entries m.faces)

-- the text of a mesh on a grid of so many decimals
abbrev pub mesh_text : ℕ → Mesh → List ℕ
mesh_text decimals m = vertices_text decimals m ++ faces_text m

-- where the live vertices stand, by rising id, and the live faces by rising id,
-- each by the ranks of its corners
abbrev pub ranked_lists : Mesh → Lists
ranked_lists m = record {
  points = map (λ e. position_of e.1) (finite.entries m.points);
  faces = faces_by_rank m;
}
