use Rattle.std.proofs.Common.{◌∙◌}
use Rattle.grid_base.specs.Points.{no_shift}
use Rattle.mesh_field.specs.Stored.{MayAnswer}
use Rattle.pair_scan.proofs.Paths.{ids_sorted}
use Rattle.track_engine.proofs.DriveLemmas.{driving_none, driven_within, driven_beyond, driven_all, driven_over}
use Rattle.track_engine.proofs.field_shifts.drive_all.Goals as goal
use Rattle.track_engine.proofs.field_shifts.drive_all.Goals.{in-Some+in_ok-push-in-Some, in-None}

pub loop-s-init : goal.loop-s-init
loop-s-init g c = driving_none _ _ no_shift _ c.new-shifts.ensures

pub loop-s-preserved : goal.loop-s-preserved
loop-s-preserved g c =
    let may = MayAnswer g.F.Fn c.args.fields.now c.args.which in
    let m = g.S.Surface.mesh c.args.mesh.now in
    let asked = c.args.asked.now in
    let sorted = ids_sorted m asked c.requires.named in
    let now = c.match-summed_unless_solid in
    elim now.branch [
      | in-Some+in_ok-push-in-Some w ↦ driven_within may m asked c.loop-s.s-index c.s-item.result sorted c.loop-s-test.true c.s-item.is c.loop-s.shifts c.loop-s.beyond c.loop-s.invariant c.answer_at-by.result c.answer_at-by.ensures w.in-Some.summed now.shifts now.beyond w.in-Some.ensures (w.shifts-is ∙ w.in_ok-push-in-Some.ensures.ok) w.beyond-is
      | in-None w ↦ driven_beyond may m asked c.loop-s.s-index c.s-item.result sorted c.loop-s-test.true c.s-item.is c.loop-s.shifts c.loop-s.beyond c.loop-s.invariant c.answer_at-by.result c.answer_at-by.ensures now.shifts now.beyond w.in-None.ensures (w.beyond-is ∙ w.or-beyond.ensures)
    ]

pub returns-in-Some-beyond : goal.returns-in-Some-beyond
returns-in-Some-beyond g c =
    driven_over (MayAnswer g.F.Fn c.args.fields.now c.args.which) (g.S.Surface.mesh c.args.mesh.now) c.args.asked.now c.requires.named c.loop-s.s-index c.loop-s-test.false c.loop-s.shifts c.loop-s.beyond c.loop-s.invariant c.in-Some-beyond.v c.in-Some-beyond.is

pub returns-in-None-beyond : goal.returns-in-None-beyond
returns-in-None-beyond g c =
    driven_all (MayAnswer g.F.Fn c.args.fields.now c.args.which) (g.S.Surface.mesh c.args.mesh.now) c.args.asked.now c.requires.named c.loop-s.s-index c.loop-s-test.false c.loop-s.shifts c.loop-s.beyond c.loop-s.invariant c.in-None-beyond.is
