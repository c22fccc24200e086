use Rattle.std.proofs.Common.{take}
use Rattle.std.specs.List.{All}
use Rattle.edit_check.specs.Reach.{ReachesAt, Widens}
use Rattle.edit_check.proofs.reach.reach_moves.Given as goal

-- the box has those so far, and what it had at first
abbrev pub invariant-loop-m : goal.invariant-loop-m
invariant-loop-m g l = let m = g.S.Surface.mesh l.paths.mesh.now in record { reached : All (λ move. ReachesAt m l.paths.moves.now l.fresh_from l.wide move.v) (take l.m-index l.paths.moves.now); kept : Widens l.fn.reach l.wide }
