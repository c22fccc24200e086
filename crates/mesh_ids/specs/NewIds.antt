-- Vertices and faces that take new ids in turn.
use Rattle.std.specs.Prelude.{◌≡◌, ℕ, ◌+◌, ◌-◌, ◌<◌, ◌≤◌, List, [], ◌∷◌, length, map, get_or}
use Rattle.std.specs.List.{filter}
use Rattle.std.specs.FinMap as finite
use Rattle.grid_base.specs.declared.TheConstants.{ID_MAX}
use Rattle.mesh_base.specs.declared.ids.Corners.{Corners}
use Rattle.mesh_base.specs.Mesh.{Mesh, is_solid}
use Rattle.obj_text.specs.Written.{rank_among}

-- each is at least low and below the next, and above the one before
abbrev pub AreRisingBelow : ℕ → ℕ → List ℕ → Type 0
AreRisingBelow next low [] = Unit {0}
AreRisingBelow next low (id ∷ ids) = (low ≤ id) × (id < next) × AreRisingBelow next (id + 1) ids

-- as many may take these ids, where the one that comes next gets the id next: they rise from 1 on,
-- and are below it, which is at most one above the greatest
pub record MayTake (count : ℕ) (ids : List ℕ) (next : ℕ) : Type 0 where
  pub many : length ids ≡ count
  pub rise : AreRisingBelow next 1 ids
  pub some : 1 ≤ next
  pub most : next ≤ ID_MAX + 1

-- the id at the place among new ids that an id has among old ones
abbrev pub new_id : List ℕ → List ℕ → ℕ → ℕ
new_id old ids id = get_or ids (rank_among old id - 1) 0

-- the new id of a vertex
abbrev pub vertex_id : Mesh → List ℕ → ℕ → ℕ
vertex_id m ids v = new_id (finite.keys m.points) ids v

-- the new id of a face
abbrev pub face_id : Mesh → List ℕ → ℕ → ℕ
face_id m ids f = new_id (finite.keys m.faces) ids f

-- the corners of a face by other ids
abbrev pub renamed : (ℕ → ℕ) → Corners → Corners
renamed id c = record { first = id c.first; second = id c.second; third = id c.third }

-- The live vertices take these ids in turn, by rising id: each stands where it stood, is a corner of
-- the faces of which it was one, and is solid where it was; and the next vertex gets the id next.
abbrev pub with_vertex_ids : Mesh → List ℕ → ℕ → Mesh
with_vertex_ids m ids next = record m {
  points = finite.from_entries (map (λ e. (vertex_id m ids e.0, e.1)) (finite.entries m.points));
  faces = finite.from_entries (map (λ e. (e.0, renamed (vertex_id m ids) e.1)) (finite.entries m.faces));
  solid = finite.from_entries
      (map (λ v. (vertex_id m ids v, tt)) (filter (is_solid m) (finite.keys m.points)));
  next_vertex = next;
}

-- the live faces take these ids in turn, by rising id, and the next face gets the id next
abbrev pub with_face_ids : Mesh → List ℕ → ℕ → Mesh
with_face_ids m ids next = record m {
  faces = finite.from_entries (map (λ e. (face_id m ids e.0, e.1)) (finite.entries m.faces));
  next_face = next;
}
