-- The sides of faces as a list, each by its two ends, the smaller first.
use Rattle.std.specs.Prelude.{◌≡◌, ℕ, ◌&&◌, ◌||◌, ◌+◌, ◌*◌, ◌^◌, ◌<◌, Bool, true, false, nat_lt, List}
use Rattle.std.specs.List.{list_any}
use Rattle.std.specs.FinMap as finite
use Rattle.std.specs.Ordering.{nat_cmp, ordering_then, eq_by_cmp}
use Rattle.std.specs.declared.cmp.Ordering.{Ordering}
use Rattle.std.proofs.Common.{Option, Some, None}
use Rattle.mesh_base.specs.declared.ids.Corners.{Corners}
use Rattle.mesh_base.specs.Mesh.{Mesh}
use Rattle.mesh_base.specs.Sides.{follows}

-- edges in order of the smaller end and then of the larger
abbrev pub edge_cmp : ℕ × ℕ → ℕ × ℕ → Ordering
edge_cmp x y = ordering_then (nat_cmp x.0 y.0) (nat_cmp x.1 y.1)

-- a number that is smaller for the earlier of two sides, where the larger ends are below 2^32
abbrev pub side_rank : ℕ × ℕ → ℕ
side_rank e = e.0 * 2 ^ 32 + e.1

-- whether the list has the side
abbrev pub has_side : List (ℕ × ℕ) → ℕ → ℕ → Bool
has_side sides u v = list_any (eq_by_cmp edge_cmp (u, v)) sides

-- the larger ends are below 2^32
abbrev pub HasSmallEnds : List (ℕ × ℕ) → Type 0
HasSmallEnds sides = (u v : ℕ) → has_side sides u v ≡ true → v < 2 ^ 32

-- whether the one follows the other in the corners
abbrev pub are_neighbours : Corners → ℕ → ℕ → Bool
are_neighbours c u v = follows c u v || follows c v u

-- the same of a face that may not live
abbrev pub neighbours_in : Option Corners → ℕ → ℕ → Bool
neighbours_in (Some c) u v = are_neighbours c u v
neighbours_in None u v = false

-- the same of a face of a mesh
abbrev pub neighbours_at : Mesh → ℕ → ℕ → ℕ → Bool
neighbours_at m f = neighbours_in (finite.get m.faces f)

-- the same of some of these faces
abbrev pub neighbours_in_any : Mesh → List ℕ → ℕ → ℕ → Bool
neighbours_in_any m faces u v = list_any (λ f. neighbours_at m f u v) faces

-- the list has the two that the test names, the smaller first
abbrev pub HasSides : List (ℕ × ℕ) → (ℕ → ℕ → Bool) → Type 0
HasSides sides named = (u v : ℕ) → has_side sides u v ≡ (nat_lt u v && named u v)

-- the list has the sides of these faces of a mesh, the smaller end first
abbrev pub HasSidesOf : Mesh → List ℕ → List (ℕ × ℕ) → Type 0
HasSidesOf m faces sides = HasSides sides (neighbours_in_any m faces)

-- the list has what it had before, and those besides
abbrev pub AddsSides : List (ℕ × ℕ) → List (ℕ × ℕ) → (ℕ → ℕ → Bool) → Type 0
AddsSides old new named =
    (u v : ℕ) → has_side new u v ≡ (has_side old u v || (nat_lt u v && named u v))

-- whether the list has the id
abbrev pub has_id : List ℕ → ℕ → Bool
has_id ids w = list_any (eq_by_cmp nat_cmp w) ids

-- the list has the ids above v that the test names
abbrev pub HasIdsAbove : ℕ → List ℕ → (ℕ → Bool) → Type 0
HasIdsAbove v ids named = (w : ℕ) → has_id ids w ≡ (nat_lt v w && named w)

-- the list has what it had before, and those besides
abbrev pub AddsIdsAbove : ℕ → List ℕ → List ℕ → (ℕ → Bool) → Type 0
AddsIdsAbove v old new named =
    (w : ℕ) → has_id new w ≡ (has_id old w || (nat_lt v w && named w))
