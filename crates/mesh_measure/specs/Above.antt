-- The edges of a mesh, vertex by vertex.
use Rattle.std.specs.Prelude.{◌≡◌, ℕ, ◌&&◌, ◌||◌, List, nat_lt}
use Rattle.std.specs.List.{filter}
use Rattle.std.specs.FinMap as finite
use Rattle.mesh_base.specs.Mesh.{Mesh}
use Rattle.mesh_base.specs.Pairs.{is_edge}
use Rattle.mesh_base.specs.Sides.{above}
use Rattle.edit_base.specs.Classes.{is_one_of}

-- the vertices above v to which an edge leads from v
abbrev pub edges_from : Mesh → ℕ → List ℕ
edges_from m v = filter (λ u. is_edge m v u) (above v (finite.keys m.points))

-- the list has what it had, and those of these numbers that are above v
abbrev pub AddsAbove : ℕ → List ℕ → List ℕ → List ℕ → Type 0
AddsAbove v us old new =
    (q : ℕ) → is_one_of new q ≡ (is_one_of old q || (nat_lt v q && is_one_of us q))
