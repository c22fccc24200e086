use Rattle.std.proofs.Common.{◌≡◌, ◌++◌, map, drop}
use Rattle.step_zones.specs.Ranks.{label_by}
use Rattle.step_zones.specs.Totals.{labelled_shift, labelled_shifts}
use Rattle.step_zones.proofs.blocks.zone_shifts.Given as goal

-- the shifts so far and those to come are all
abbrev pub invariant-loop-i : goal.invariant-loop-i
invariant-loop-i g l =
    let m = g.S.Surface.mesh l.mesh in
    l.shifts ++ map (labelled_shift m l.asked (label_by l.asked l.labels)) (drop l.i l.asked) ≡ labelled_shifts m l.asked l.labels
