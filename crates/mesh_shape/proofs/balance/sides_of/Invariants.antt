use Rattle.std.proofs.Common.{take}
use Rattle.mesh_shape.specs.Shape.{runs_in}
use Rattle.mesh_shape.specs.Balance.{HasRuns}
use Rattle.mesh_shape.specs.Balance.{AreSmall}
use Rattle.mesh_shape.proofs.balance.sides_of.Given as goal

-- the lists have the sides of the faces so far
abbrev pub invariant-loop-f : goal.invariant-loop-f
invariant-loop-f l = record {
  up : HasRuns l.sides.up.items (λ u v. runs_in (take l.f-index l.faces) u v);
  down : HasRuns l.sides.down.items (λ u v. runs_in (take l.f-index l.faces) v u);
  small_up : AreSmall l.sides.up.items;
  small_down : AreSmall l.sides.down.items;
}
