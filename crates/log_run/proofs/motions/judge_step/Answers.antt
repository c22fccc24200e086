use Rattle.std.proofs.Common.{◌≡◌, map, ap, ◌∙◌, rules}
use Rattle.mesh_base.specs.Shifts.{Shifts, end_in_box}
use Rattle.motion_proof.specs.declared.Claim.TheVariants.{Along}
use Rattle.log_run.specs.Motions.{way_of, step_ways}
use Rattle.log_run.proofs.ShiftsTold.{shifts_tell}
use Rattle.log_run.proofs.CertifiedLines.{step_judged}
use Rattle.log_run.proofs.motions.judge_step.Goals as goal

pub ways_of-requires : goal.ways_of-requires
ways_of-requires g c =
    let m = g.S.Surface.mesh c.args.mesh.now in
    let holds = c.requires.step c.if-not-at.false in
    ap (end_in_box m) (c.as_slice.ensures ∙ holds.shifts) ∙ (shifts_tell m c.args.at.now.step.moves holds.moves).inside

pub returns-in-Ok : goal.returns-in-Ok
returns-in-Ok g c how =
    let m = g.S.Surface.mesh c.args.mesh.now in
    let at = c.args.at.now in
    let p = c.args.proof.now in
    let holds = c.requires.step c.if-not-at.false in
    let these : c.as_slice-2.result.now ≡ step_ways m at.step.moves = c.as_slice-2.ensures ∙ c.in_ok-ways.ensures.ways ∙ ap (λ (l : Shifts). map (way_of m) l) (c.as_slice.ensures ∙ holds.shifts) in
    let same : p.claim ≡ Along = search rules in
    step_judged m (g.S.Surface.kept c.args.mesh.now) at c.if-not-at.false how c.as_slice-2.result.now these p.claim p.entries c.in-Ok.verdict same c.in-Ok.ensures.exact
