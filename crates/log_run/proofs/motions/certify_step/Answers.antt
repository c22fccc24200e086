use Rattle.std.proofs.Common.{◌≡◌, map, ap, ◌∙◌}
use Rattle.mesh_base.specs.Shifts.{Shifts, end_in_box}
use Rattle.log_run.specs.Motions.{way_of, step_ways}
use Rattle.log_run.proofs.ShiftsTold.{shifts_tell}
use Rattle.log_run.proofs.CertifiedLines.{step_certified}
use Rattle.log_run.proofs.motions.certify_step.Goals as goal

pub ways_of-requires : goal.ways_of-requires
ways_of-requires g c =
    let m = g.S.Surface.mesh c.args.mesh.now in
    let holds = c.requires.step c.if-not-at.false in
    ap (end_in_box m) (c.as_slice.ensures ∙ holds.shifts) ∙ (shifts_tell m c.args.at.now.step.moves holds.moves).inside

pub returns-in-Ok : goal.returns-in-Ok
returns-in-Ok g c how =
    let m = g.S.Surface.mesh c.args.mesh.now in
    let at = c.args.at.now in
    let holds = c.requires.step c.if-not-at.false in
    let these : c.as_slice-2.result.now ≡ step_ways m at.step.moves = c.as_slice-2.ensures ∙ c.in_ok-ways.ensures.ways ∙ ap (λ (l : Shifts). map (way_of m) l) (c.as_slice.ensures ∙ holds.shifts) in
    step_certified m (g.S.Surface.kept c.args.mesh.now) at c.if-not-at.false how c.as_slice-2.result.now these c.in-Ok.made c.in-Ok.ensures.made c.in-Ok.ensures.accepted
