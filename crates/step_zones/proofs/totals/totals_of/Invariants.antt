use Rattle.std.proofs.Common.{◌≡◌, map, take}
use Rattle.step_zones.specs.Ranks.{label_by}
use Rattle.step_zones.specs.Totals.{total_of}
use Rattle.step_zones.proofs.totals.totals_of.Given as goal

-- the totals of the vertices so far
abbrev pub invariant-loop-i : goal.invariant-loop-i
invariant-loop-i g l = l.totals.items ≡ map (λ x. total_of (g.S.Surface.mesh l.mesh) (label_by l.asked l.labels) x.v (take l.i l.asked)) l.asked
