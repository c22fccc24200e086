-- The pinch of a vertex v at which several fans of faces meet.
use Rattle.std.specs.Prelude.{ℕ, ◌*◌, ◌==◌, ◌&&◌, not, Bool, List, [], ◌∷◌, length, map, drop, slice_index_or, zip, pos, int_div}
use Rattle.std.specs.List.{filter, fold, list_any, enumerate_from}
use Rattle.std.specs.FinMap as finite
use Rattle.grid_base.specs.declared.Point.{Point}
use Rattle.grid_base.specs.Points.{position_of, point_at}
use Rattle.grid_base.specs.Triples.{Triple, plus, minus, times}
use Rattle.edit_base.specs.declared.scaffold.Touch.TheVariants.{Start}
use Rattle.edit_base.specs.declared.Move.{Move}
use Rattle.edit_base.specs.declared.answers.CopyAt.{CopyAt}
use Rattle.mesh_base.specs.Mesh.{Mesh}
use Rattle.mesh_base.specs.Sides.{has_corner, faces_at}
use Rattle.mesh_base.specs.Changes.{corner_list, with_vertex, with_point}
use Rattle.mesh_base.specs.Placements.{origin, rest_positions, rest_positions_doubled}
use Rattle.edit_base.specs.Classes.{classes}
use Rattle.edit_base.specs.Edges.{corners_at, with_all_renamed}
use Rattle.edit_base.specs.Scaffold.{Scaffold}

-- two faces share a vertex other than v
abbrev pub share_second : Mesh → ℕ → ℕ → ℕ → Bool
share_second m v f g =
    list_any (λ u. not (u == v) && has_corner (corners_at m g) u) (corner_list (corners_at m f))

-- the faces at v in fans: two that share a second vertex are in one
-- fan, and so on. By the least face
abbrev pub fans : Mesh → ℕ → List (List ℕ)
fans m v = classes (share_second m v) (faces_at m v)

-- the vertices of a fan other than v
abbrev pub rim : Mesh → ℕ → List ℕ → List ℕ
rim m v fan =
    filter (λ u. not (u == v) && list_any (λ f. has_corner (corners_at m f) u) fan)
    (finite.keys m.points)

-- each component divided by n, toward zero
abbrev pub divided : Triple → ℕ → Triple
divided t n = record { x = int_div t.x (pos n); y = int_div t.y (pos n); z = int_div t.z (pos n) }

-- an eighth of the way to the mean of the fan's other vertices
abbrev pub fan_shift : Mesh → ℕ → List ℕ → Triple
fan_shift m v fan =
    divided (fold (λ sum u. plus sum (minus (rest_positions m u) (rest_positions m v))) origin
    (rim m v fan)) (8 * length (rim m v fan))

-- where the copy for a fan ends
abbrev pub fan_point : Mesh → ℕ → List ℕ → Point
fan_point m v fan = point_at (plus (rest_positions m v) (fan_shift m v fan))

-- a copy at a point for a fan, whose faces are made again with the copy in v's place
abbrev pub with_copy : ℕ → Mesh → List ℕ × Point → Mesh
with_copy v m copy = with_all_renamed v m.next_vertex (with_vertex m copy.1) copy.0

-- the first fan keeps v, at its point, and each later one gets a copy, at the point that is given
abbrev pub pinch_mesh : Mesh → ℕ → Point → List Point → Mesh
pinch_mesh m v at points = fold (with_copy v) (with_point m v at) (zip (drop 1 (fans m v)) points)

-- where v ends, which the first fan keeps
abbrev pub first_point : Mesh → ℕ → Point
first_point m v = fan_point m v (slice_index_or (fans m v) 0 [])

-- the copies for fans, under the next vertex ids, with their points
abbrev pub copies_for : Mesh → ℕ → List (List ℕ) → List CopyAt
copies_for m v fans =
    map (λ e. record { w = e.0; at = fan_point m v e.1 }) (enumerate_from m.next_vertex fans)

-- those of the later fans
abbrev pub later_copies : Mesh → ℕ → List CopyAt
later_copies m v = copies_for m v (drop 1 (fans m v))

-- where the copies stand
abbrev pub copy_points : List CopyAt → List Point
copy_points copies = map (λ copy. copy.at) copies

-- the way to a point
abbrev pub move_to : Triple → ℕ → Point → Move
move_to here v at = record { v = v; start = here; end = times 2 (position_of at) }

-- the ways of v and its copies from where it stands
abbrev pub moves_from : Triple → ℕ → Point → List CopyAt → List Move
moves_from here v at copies = move_to here v at ∷ map (λ copy. move_to here copy.w copy.at) copies

-- v and its copies
abbrev pub vertex_and_copies : ℕ → List CopyAt → List ℕ
vertex_and_copies v copies = v ∷ map (λ copy. copy.w) copies

-- The result, with v and each copy going from the old place to its own. A pair whose
-- members hold two of them is to open.
abbrev pub pinch_scaffold : Mesh → ℕ → Scaffold
pinch_scaffold m v =
    let at = first_point m v in
    let copies = later_copies m v in
    record {
      mesh = pinch_mesh m v at (copy_points copies);
      moves = moves_from (rest_positions_doubled m v) v at copies;
      touch = Start;
      together = vertex_and_copies v copies;
    }
