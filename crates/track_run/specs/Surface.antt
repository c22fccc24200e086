-- What may be amiss in the surface of a mesh.
use Rattle.std.specs.Prelude.{ℕ, pos, ◌==◌, ◌&&◌, ◌||◌, Bool, List, int_lt, map, nat_lt}
use Rattle.std.specs.List.{count_by, list_any}
use Rattle.std.specs.FinMap as finite
use Rattle.mesh_base.specs.declared.ids.Corners.{Corners}
use Rattle.mesh_base.specs.Mesh.{Mesh, equal_up_to_rotation}
use Rattle.mesh_base.specs.Sides.{runs, faces_running}
use Rattle.mesh_base.specs.Pairs.{edges}
use Rattle.edit_base.specs.Edges.{corners_at}
use Rattle.mesh_measure.specs.Volume.{volume6}
use Rattle.outside_io.specs.declared.SurfaceFacts.{SurfaceFacts}

-- along how many edges more than one face runs from the smaller end to the greater; in a closed
-- mesh as many run back
abbrev pub crowded_edges : Mesh → ℕ
crowded_edges m = count_by (λ e. nat_lt 1 (runs m e.0 e.1)) (edges m)

-- the corners of the faces, by rising id
abbrev pub each_corners : Mesh → List Corners
each_corners m = map (λ e. e.1) (finite.entries m.faces)

-- the corners the other way round
abbrev pub backward : Corners → Corners
backward c = record { first = c.third; second = c.second; third = c.first }

-- whether some face has the corners the other way round
abbrev pub has_opposite : Mesh → Corners → Bool
has_opposite m c = list_any (λ d. equal_up_to_rotation d (backward c)) (each_corners m)

-- how many faces have an opposite
abbrev pub opposite_faces : Mesh → ℕ
opposite_faces m = count_by (λ c. has_opposite m c) (each_corners m)

-- what may be amiss in it: whether there is no vertex, whether the volume is below zero, and how many
-- edges are crowded and how many faces have an opposite
abbrev pub surface_facts : Mesh → SurfaceFacts
surface_facts m = record {
  is_empty = finite.len m.points == 0;
  is_inside_out = int_lt (volume6 m) (pos 0);
  crowded = crowded_edges m;
  opposite = opposite_faces m;
}

-- ---- how they are found

-- whether v is above u, and more than one face runs from u to v
abbrev pub runs_up_twice : Mesh → ℕ → ℕ → Bool
runs_up_twice m u v = nat_lt u v && nat_lt 1 (runs m u v)

-- whether two of three are so
abbrev pub most : Bool → Bool → Bool → Bool
most a b c = (a && b) || (b && c) || (c && a)

-- whether the corners rise from the least of them on
abbrev pub rises : Corners → Bool
rises c = most (nat_lt c.first c.second) (nat_lt c.second c.third) (nat_lt c.third c.first)

-- whether the face has the corners, turned or not
abbrev pub is_there_at : Mesh → Corners → ℕ → Bool
is_there_at m c f = equal_up_to_rotation (corners_at m f) c

-- whether some face that runs from the first corner to the second has the corners
abbrev pub stands : Mesh → Corners → Bool
stands m c = list_any (λ f. is_there_at m c f) (faces_running m c.first c.second)
