-- Where vertices stand, in a list by id.
use Rattle.std.specs.Prelude.{◌≡◌, ℕ, ◌≤◌, List, length, Some, slice_get}
use Rattle.std.specs.FinMap as finite
use Rattle.grid_base.specs.declared.Point.{Point}
use Rattle.mesh_base.specs.Mesh.{Mesh}

-- if the vertex is live, it stands there
abbrev pub Stands : Mesh → ℕ → Point → Type 0
Stands m v q = (p : Point) → finite.get m.points v ≡ Some p → q ≡ p

-- what the list has at the id of a vertex, if anything, is where that stands
abbrev pub IsPlaced : Mesh → List Point → ℕ → Type 0
IsPlaced m places v = (q : Point) → slice_get places v ≡ Some q → Stands m v q

-- The list has places of ids that are given, and each live one where it stands. Of an id that is
-- not live nothing is said.
pub record HasPlaces (m : Mesh) (places : List Point) : Type 0 where
  pub placed : (v : ℕ) → IsPlaced m places v
  pub given : length places ≤ m.next_vertex
