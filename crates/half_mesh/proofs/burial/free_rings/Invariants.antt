use Rattle.std.proofs.Common.{◌≡◌, ◌≤◌, ℕ, Some, None, length}
use Rattle.std.specs.FinMap as finite
use Rattle.mesh_base.specs.Sides.{above}
use Rattle.half_mesh.specs.Fans.{Side, side_at}
use Rattle.half_mesh.proofs.burial.free_rings.Given as goal

-- the fans, and the sides of the faces that are not buried, are as before
abbrev pub invariant-loop-f : goal.invariant-loop-f
invariant-loop-f l = record {
  fans : l.fans.woven.fans ≡ l.fn.fans.woven.fans;
  sides : (k : ℕ) (side : Side) → side_at l.fn.fans.woven.sides k ≡ Some side → finite.get l.keys.buried side.face ≡ None → side_at l.fans.woven.sides k ≡ Some side;
  buried : l.fans.buried ≡ l.fn.fans.buried;
  seats : l.fans.seats ≡ l.fn.fans.seats;
  room : l.fn.fans.woven.room ≤ l.fans.woven.room;
}

abbrev pub decreases-loop-f : goal.decreases-loop-f
decreases-loop-f l = length (above l.last (finite.keys l.keys.buried))
