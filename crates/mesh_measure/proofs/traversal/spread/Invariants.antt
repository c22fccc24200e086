use Rattle.std.proofs.Common.{◌+◌, ◌-◌, length}
use Rattle.std.specs.FinMap as map
use Rattle.mesh_measure.specs.Walk.{unmet}
use Rattle.mesh_measure.proofs.Spreading.{IsSpreading}
use Rattle.mesh_measure.proofs.traversal.spread.Given as goal

-- those met so far, of which those of the queue before i are gone through
abbrev pub invariant-loop-i : goal.invariant-loop-i
invariant-loop-i g l = IsSpreading (g.S.Surface.mesh l.mesh) l.fn.v l.fn.met l.met l.queue l.i

-- those that are left become fewer
abbrev pub decreases-loop-i : goal.decreases-loop-i
decreases-loop-i g l = length l.queue + unmet l.met (map.keys (g.S.Surface.mesh l.mesh).points) - l.i
