use Rattle.std.proofs.Common.{take}
use Rattle.std.specs.List.{All}
use Rattle.edit_check.specs.Reach.{ReachesAt, Widens}
use Rattle.edit_check.proofs.reach.reach_vertices.Given as goal

-- the box has those so far, and what it had at first
abbrev pub invariant-loop-v : goal.invariant-loop-v
invariant-loop-v g l = let m = g.S.Surface.mesh l.paths.mesh.now in record { reached : All (ReachesAt m l.paths.moves.now l.fresh_from l.wide) (take l.v-index l.vertices); kept : Widens l.fn.reach l.wide }
