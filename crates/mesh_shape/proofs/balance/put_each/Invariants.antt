use Rattle.std.proofs.Common.{◌≡◌, ℕ, ◌||◌, drop}
use Rattle.mesh_base.specs.SideList.{has_side}
use Rattle.mesh_shape.proofs.balance.put_each.Given as goal

-- the list has its own and those so far, and the others are to come
abbrev pub invariant-loop-side : goal.invariant-loop-side
invariant-loop-side l = (u v : ℕ) → (has_side l.list.items u v || has_side (drop l.side-index l.sides) u v) ≡ (has_side l.initial.list.items u v || has_side l.sides u v)
