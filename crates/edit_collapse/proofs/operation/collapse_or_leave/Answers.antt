use Rattle.std.proofs.Common.{refl, sym, ap, ◌∙◌}
use Rattle.grid_decided.specs.Decided.{meets_exactly}
use Rattle.edit_base.specs.declared.answers.Change.TheVariants.{Collapse}
use Rattle.edit_base.specs.declared.answers.Edit.TheVariants.{Done}
use Rattle.edit_base.specs.Scaffold.{first_failing}
use Rattle.mesh_base.proofs.MarksHold.{begins_itself}
use Rattle.edit_collapse.specs.Collapse.{collapse_scaffold}
use Rattle.edit_collapse.proofs.Answered.{hit_is_refused, no_hit_is_done}
use Rattle.edit_check.proofs.Left.{keeps}
use Rattle.edit_collapse.proofs.operation.collapse_or_leave.Goals as goal

pub returns-in-Some-clause-answer : goal.returns-in-Some-clause-answer
returns-in-Some-clause-answer g c =
    let m = g.S.Surface.mesh c.args.mesh.now in
    hit_is_refused meets_exactly m c.args.a c.args.b c.args.depth c.requires.tried c.in-Some.p (sym c.in-Some.is ∙ c.in_ok-p.ensures ∙ ap (λ at. first_failing meets_exactly (collapse_scaffold m c.args.a c.args.b at) c.args.depth) c.collapse_point-at.ensures)

pub returns-in_ok-apply_or_roll_back-in-None-clause-answer : goal.returns-in_ok-apply_or_roll_back-in-None-clause-answer
returns-in_ok-apply_or_roll_back-in-None-clause-answer g c =
    let m = g.S.Surface.mesh c.args.mesh.now in
    ap (λ at. Done (Collapse c.args.a c.args.b at)) c.collapse_point-at.ensures
    ∙ no_hit_is_done meets_exactly m c.args.a c.args.b c.args.depth c.requires.tried (sym c.in-None.is ∙ c.in_ok-p.ensures ∙ ap (λ at. first_failing meets_exactly (collapse_scaffold m c.args.a c.args.b at) c.args.depth) c.collapse_point-at.ensures)

pub returns-in_err-p-clause-marks : goal.returns-in_err-p-clause-marks
returns-in_err-p-clause-marks g c = begins_itself (g.S.Surface.kept c.args.mesh.now)

pub returns-in_err-apply_or_roll_back-in-None-clause-marks : goal.returns-in_err-apply_or_roll_back-in-None-clause-marks
returns-in_err-apply_or_roll_back-in-None-clause-marks g c = c.apply_or_roll_back.ensures.marks

pub returns-in_err-apply_or_roll_back-in-None-clause-kept : goal.returns-in_err-apply_or_roll_back-in-None-clause-kept
returns-in_err-apply_or_roll_back-in-None-clause-kept g c =
    let kept = g.S.Surface.kept in
    keeps c.from_residual-in_err-apply_or_roll_back-in-None.result (kept c.apply_or_roll_back.new.mesh) (kept c.args.mesh.now)
    c.in_err-apply_or_roll_back-in-None.ensures.kept

pub returns-in-Some-clause-mesh : goal.returns-in-Some-clause-mesh
returns-in-Some-clause-mesh g c = refl

pub returns-in-Some-clause-marks : goal.returns-in-Some-clause-marks
returns-in-Some-clause-marks g c = begins_itself (g.S.Surface.kept c.args.mesh.now)

pub returns-in_ok-apply_or_roll_back-in-None-clause-mesh : goal.returns-in_ok-apply_or_roll_back-in-None-clause-mesh
returns-in_ok-apply_or_roll_back-in-None-clause-mesh g c = c.in_ok-apply_or_roll_back-in-None.ensures.made

pub returns-in_ok-apply_or_roll_back-in-None-clause-marks : goal.returns-in_ok-apply_or_roll_back-in-None-clause-marks
returns-in_ok-apply_or_roll_back-in-None-clause-marks g c = c.apply_or_roll_back.ensures.marks
