use Rattle.std.proofs.Common.{◌≡◌, ℕ, ◌&&◌, ◌||◌, nat_lt, length}
use Rattle.std.specs.List.{list_any}
use Rattle.std.specs.FinMap as map
use Rattle.mesh_base.specs.SideList.{has_id}
use Rattle.mesh_base.specs.Sides.{above}
use Rattle.mesh_base.proofs.NeighboursAbove.{seen}
use Rattle.mesh_base.proofs.neighbours.put_all.Given as goal

-- the list has the neighbours in the faces so far, and the others are to come
abbrev pub invariant-loop-f : goal.invariant-loop-f
invariant-loop-f g l = (w : ℕ) → let m = g.T.FaceTable.mesh l.table in (has_id l.ids.items w || (nat_lt l.v w && list_any (seen m l.v w) (above l.last (map.keys m.faces)))) ≡ (nat_lt l.v w && list_any (seen m l.v w) (map.keys m.faces))

-- those above the last become fewer
abbrev pub decreases-loop-f : goal.decreases-loop-f
decreases-loop-f g l = length (above l.last (map.keys (g.T.FaceTable.mesh l.table).faces))
