use Rattle.std.proofs.Common.{◌≡◌, ℕ, ◌&&◌, ◌||◌, nat_lt, map}
use Rattle.mesh_base.specs.SideList.{has_id}
use Rattle.half_mesh.specs.Fans.{faces_of}
use Rattle.half_mesh.specs.Tied.{are_beside}
use Rattle.half_mesh.specs.Walks.{walk, spoke_of}
use Rattle.half_mesh.proofs.fans.put_linked.Given as goal

-- the list has what it had, the neighbours in the faces so far, and those to come
abbrev pub invariant-loop-left : goal.invariant-loop-left
invariant-loop-left l = (w : ℕ) →
    (has_id l.into.items w || (nat_lt l.v w && are_beside l.fans.woven.sides l.keys.live (faces_of (map spoke_of (walk l.halves l.left l.at))) l.v w))
    ≡ (has_id l.initial.into.items w || (nat_lt l.v w && are_beside l.fans.woven.sides l.keys.live (faces_of (map spoke_of (walk l.halves l.fn.count l.fn.first))) l.v w))

abbrev pub decreases-loop-left : goal.decreases-loop-left
decreases-loop-left l = l.left
