use Rattle.std.proofs.Common.{◌≡◌, map, ap, sym, ◌∙◌}
use Rattle.mesh_base.specs.Shifts.{Shifts, shift_at}
use Rattle.pair_scan.specs.Named.{pair_named}
use Rattle.step_impulse.proofs.Fives.{pair_impelled}
use Rattle.step_impulse.proofs.pass.impulse_on.Goals as goal

pub returns : goal.returns
returns g c =
    let m = g.S.Surface.mesh c.args.mesh.now in
    pair_impelled m (pair_named m c.args.name.now) c.args.shifts.now c.put_five.new.shifts c.five_of-ids.result c.five_points-start.result c.five_marks-fixed.result c.five_shifts-by.result c.axis_impulse.new.shifts
    c.five_of-ids.ensures c.five_points-start.ensures c.five_marks-fixed.ensures
    (c.five_shifts-by.ensures ∙ ap (λ (l : Shifts). map (shift_at l) c.five_of-ids.result) c.as_slice.ensures)
    c.axis_impulse.ensures c.put_five.ensures
