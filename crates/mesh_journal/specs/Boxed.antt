-- Which boxes an index of the faces has.
use Rattle.std.specs.Prelude.{◌≡◌, ℕ, ◌≤◌, Option, Some, List, IsSome, slice_get}
use Rattle.std.specs.FinMap as map
use Rattle.std.specs.Ordering.{nat_cmp}
use Rattle.grid_base.specs.declared.Extent.{Extent}
use Rattle.grid_base.specs.Triples.{Triple}
use Rattle.grid_base.specs.Extents.{IsIn}
use Rattle.mesh_base.specs.declared.ids.Corners.{Corners}
use Rattle.mesh_base.specs.Mesh.{Mesh, HasCorners}
use Rattle.mesh_base.specs.Placements.{rest_positions_doubled}

-- the box of each face
abbrev pub Boxes : Type 0
Boxes = map.FinMap nat_cmp Extent

-- the face has a box, and the position is in it
pub record IsBoxedAt (b : Boxes) (f : ℕ) (p : Triple) : Type 0 where
  pub there : IsSome (map.get b f)
  pub around : (e : Extent) → map.get b f ≡ Some e → IsIn e p

-- the same, where there are boxes
abbrev pub Holds : Option Boxes → ℕ → Triple → Type 0
Holds o f p = (b : Boxes) → o ≡ Some b → IsBoxedAt b f p

-- the box has the places of the corners, in half units
pub record IsAround (e : Extent) (m : Mesh) (c : Corners) : Type 0 where
  pub first : IsIn e (rest_positions_doubled m c.first)
  pub second : IsIn e (rest_positions_doubled m c.second)
  pub third : IsIn e (rest_positions_doubled m c.third)

-- where there are boxes, that of the face has the places of the corners, in half units
pub record HoldsCorners (o : Option Boxes) (m : Mesh) (f : ℕ) (c : Corners) : Type 0 where
  pub first : Holds o f (rest_positions_doubled m c.first)
  pub second : Holds o f (rest_positions_doubled m c.second)
  pub third : Holds o f (rest_positions_doubled m c.third)

-- where there are boxes, each face of the mesh has one with its corners
abbrev pub AreBoxed : Option Boxes → Mesh → Type 0
AreBoxed o m = (f : ℕ) (c : Corners) → HasCorners m f c → HoldsCorners o m f c

-- so it is in each of these meshes from a place on
abbrev pub AreBoxedFrom : ℕ → Option Boxes → List Mesh → Type 0
AreBoxedFrom since o kept = (k : ℕ) (m : Mesh) → since ≤ k
    → slice_get kept k ≡ Some m → AreBoxed o m
