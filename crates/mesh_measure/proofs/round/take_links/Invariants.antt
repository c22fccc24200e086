use Rattle.std.proofs.Common.{length}
use Rattle.mesh_measure.proofs.Linking.{IsTaking}
use Rattle.mesh_measure.proofs.round.take_links.Given as goal

-- links were taken away up to the vertex at which the walk stands
abbrev pub invariant-loop-next : goal.invariant-loop-next
invariant-loop-next l = IsTaking l.fn.first l.fn.links l.links l.at

-- each step takes one
abbrev pub decreases-loop-next : goal.decreases-loop-next
decreases-loop-next l = length l.links.entries
