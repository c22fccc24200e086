use Rattle.std.proofs.Common.{sym, ◌∙◌}
use Rattle.pair_scan.proofs.AllEnd.{ends_later}
use Rattle.pair_scan.proofs.ends.end_in_box.Goals as goal

pub loop-s-preserved : goal.loop-s-preserved
loop-s-preserved g c =
    ends_later (g.S.Surface.mesh c.args.mesh.now) c.args.shifts.now c.loop-s.s-index c.s-item.result _ c.loop-s-test.true c.s-item.is (sym c.ends_in_box.ensures ∙ c.if-not-ends_in_box.false) c.loop-s.invariant
