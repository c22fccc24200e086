-- The vertices as a contract sees them: the live ones with their half-edges, and the buried ones.
use Rattle.std.specs.Prelude.{ℕ}
use Rattle.std.specs.Ordering.{nat_cmp}
use Rattle.std.specs.FinMap as finite
use Rattle.half_mesh.specs.declared.row.Vertex.{Vertex}
use Rattle.half_mesh.specs.Fans.{Woven}

-- the fans of the live vertices and the half-edges, the buried vertices, and
-- how many vertices more find memory
pub record Ground : Type 0 where
  pub woven : Woven
  pub buried : finite.FinMap nat_cmp Vertex
  pub seats : ℕ
