-- A mesh as contracts see it, however it is kept.
use Rattle.std.specs.Prelude.{◌≡◌, ◌≢◌, ℕ, ◌+◌, ◌<◌, ◌≤◌, ◌==◌, ◌&&◌, ◌||◌, Bool, true, IsSome, is_some, IsTrue}
use Rattle.std.specs.Prelude.{Some}
use Rattle.std.specs.Ordering.{nat_cmp}
use Rattle.std.specs.FinMap as map
use Rattle.grid_base.specs.declared.TheConstants.{VERTICES_MAX, FACES_MAX, ID_MAX}
use Rattle.grid_base.specs.declared.Point.{Point}
use Rattle.mesh_base.specs.declared.ids.Corners.{Corners}
use Rattle.mesh_base.specs.declared.limits.Limits.{Limits}

-- a finite set of ids: a map that says nothing of each
abbrev pub IdSet : Type 0
IdSet = map.FinMap nat_cmp (Unit {0})

-- the points of the live vertices, the corners of the live faces, the solid
-- vertices, the ids that come next, and how many of each kind may be live
pub record Mesh : Type 0 where
  pub points : map.FinMap nat_cmp Point
  pub faces : map.FinMap nat_cmp Corners
  pub solid : IdSet
  pub next_vertex : ℕ
  pub next_face : ℕ
  pub limits : Limits

-- the vertex lives
abbrev pub IsLiveVertex : Mesh → ℕ → Type 0
IsLiveVertex m v = IsSome (map.get m.points v)

-- the face lives
abbrev pub IsLiveFace : Mesh → ℕ → Type 0
IsLiveFace m f = IsSome (map.get m.faces f)

-- whether the vertex is solid
abbrev pub is_solid : Mesh → ℕ → Bool
is_solid m v = is_some (map.get m.solid v)

-- the face f has the corners c
abbrev pub HasCorners : Mesh → ℕ → Corners → Type 0
HasCorners m f c = map.get m.faces f ≡ Some c

-- no two corners are the same
pub record AreDifferent (c : Corners) : Type 0 where
  pub first_second : c.first ≢ c.second
  pub second_third : c.second ≢ c.third
  pub third_first : c.third ≢ c.first

-- each corner is a live vertex
abbrev pub AreLive : Mesh → Corners → Type 0
AreLive m c = IsLiveVertex m c.first × IsLiveVertex m c.second × IsLiveVertex m c.third

-- the second corner first
abbrev pub turned : Corners → Corners
turned c = record { first = c.second; second = c.third; third = c.first }

-- whether they are the same, the first of one being the first of the other
abbrev pub same_corners : Corners → Corners → Bool
same_corners c d = (c.first == d.first) && (c.second == d.second) && (c.third == d.third)

-- whether the one is the other, turned or not
abbrev pub equal_up_to_rotation : Corners → Corners → Bool
equal_up_to_rotation c d =
    same_corners c d || same_corners (turned c) d || same_corners (turned (turned c)) d

-- the laws of a mesh
pub record IsMesh (m : Mesh) : Type 0 where
  pub vertex_ids : (v : ℕ) → IsLiveVertex m v → (1 ≤ v) × (v < m.next_vertex)
  pub face_ids : (f : ℕ) → IsLiveFace m f → (1 ≤ f) × (f < m.next_face)
  pub solid_ids : (v : ℕ) → is_solid m v ≡ true → IsLiveVertex m v
  pub live_corners : (f : ℕ) (c : Corners) → HasCorners m f c → AreLive m c
  pub different_corners : (f : ℕ) (c : Corners) → HasCorners m f c → AreDifferent c
  pub different_faces : (f g : ℕ) (c d : Corners) → HasCorners m f c → HasCorners m g d →
      IsTrue (equal_up_to_rotation c d) → f ≡ g

-- at most as many live vertices and faces as its limits say, these at most the greatest
-- that there are, and 2^31 ids made of each kind
pub record IsWithinLimits (m : Mesh) : Type 0 where
  pub vertices : map.len m.points ≤ m.limits.vertices
  pub faces : map.len m.faces ≤ m.limits.faces
  pub greatest : (m.limits.vertices ≤ VERTICES_MAX) × (m.limits.faces ≤ FACES_MAX)
  pub vertex_ids : (1 ≤ m.next_vertex) × (m.next_vertex ≤ (ID_MAX + 1))
  pub face_ids : (1 ≤ m.next_face) × (m.next_face ≤ (ID_MAX + 1))

-- a mesh within the limits
pub record IsSound (m : Mesh) : Type 0 where
  pub is_mesh : IsMesh m
  pub limits : IsWithinLimits m
