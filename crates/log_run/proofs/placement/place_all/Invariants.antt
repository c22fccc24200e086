use Rattle.std.proofs.Common.{◌≡◌, drop}
use Rattle.mesh_base.specs.Kept.{BeginsWith}
use Rattle.mesh_base.specs.Shifts.{with_moves}
use Rattle.log_run.specs.Placing.{CanMoveAll}
use Rattle.log_run.proofs.placement.place_all.Given as goal

-- those to come can be made, and make of the mesh what all make of the first
abbrev pub invariant-loop-s : goal.invariant-loop-s
invariant-loop-s g l = record {
  can : CanMoveAll (g.S.Surface.mesh l.mesh) (drop l.s-index l.moves);
  made : with_moves (g.S.Surface.mesh l.mesh) (drop l.s-index l.moves) ≡ with_moves (g.S.Surface.mesh l.fn.mesh) l.moves;
  marks : BeginsWith (g.S.Surface.kept l.mesh) (g.S.Surface.kept l.fn.mesh);
}
