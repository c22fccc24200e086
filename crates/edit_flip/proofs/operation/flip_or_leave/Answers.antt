use Rattle.std.proofs.Common.{sym, ap, subst, ◌∙◌}
use Rattle.grid_decided.specs.Decided.{meets_exactly}
use Rattle.edit_base.specs.declared.answers.Change.TheVariants.{Flip}
use Rattle.edit_base.specs.declared.answers.Edit.TheVariants.{Done}
use Rattle.edit_base.specs.Edges.{Edge, edge_of}
use Rattle.edit_flip.specs.Flip.{flip_mesh}
use Rattle.edit_flip.specs.Tried.{MayBeTried}
use Rattle.edit_flip.proofs.Answered.{hit_is_refused, no_hit_is_done}
use Rattle.mesh_base.specs.Sides.{IsClosed}
use Rattle.mesh_base.proofs.MarksHold.{begins_along}
use Rattle.edit_check.proofs.Left.{keeps}
use Rattle.edit_flip.proofs.operation.flip_or_leave.Goals as goal

pub apply_or_roll_back-requires-clause-tried : goal.apply_or_roll_back-requires-clause-tried
apply_or_roll_back-requires-clause-tried g c = subst (λ n. MayBeTried n c.args.e.now) (sym c.first_hit.ensures.mesh) c.requires.tried

pub returns-in-Some-clause-answer : goal.returns-in-Some-clause-answer
returns-in-Some-clause-answer g c =
    let m = g.S.Surface.mesh c.args.mesh.now in
    hit_is_refused meets_exactly m c.args.e.now c.args.depth (g.met.S.Surface.sound c.args.mesh.now) c.requires.closed c.requires.tried c.in-Some.p (sym c.in-Some.is ∙ c.in_ok-p.ensures.first)

pub returns-in_ok-apply_or_roll_back-in-None-clause-answer : goal.returns-in_ok-apply_or_roll_back-in-None-clause-answer
returns-in_ok-apply_or_roll_back-in-None-clause-answer g c =
    let m = g.S.Surface.mesh c.args.mesh.now in
    ap (λ (s : Edge). Done (Flip s.a s.b)) c.e.view_is
    ∙ no_hit_is_done meets_exactly m c.args.e.now c.args.depth (g.met.S.Surface.sound c.args.mesh.now) c.requires.closed c.requires.tried (sym c.in-None.is ∙ c.in_ok-p.ensures.first)

pub apply_or_roll_back-requires-clause-closed : goal.apply_or_roll_back-requires-clause-closed
apply_or_roll_back-requires-clause-closed g c = subst IsClosed (sym c.first_hit.ensures.mesh) c.requires.closed

pub returns-in_err-apply_or_roll_back-in-None-clause-marks : goal.returns-in_err-apply_or_roll_back-in-None-clause-marks
returns-in_err-apply_or_roll_back-in-None-clause-marks g c =
    let kept = g.S.Surface.kept in
    begins_along (kept c.apply_or_roll_back.new.mesh) (kept c.first_hit.new.mesh) (kept c.args.mesh.now) c.apply_or_roll_back.ensures.marks c.first_hit.ensures.marks

pub returns-in_err-apply_or_roll_back-in-None-clause-kept : goal.returns-in_err-apply_or_roll_back-in-None-clause-kept
returns-in_err-apply_or_roll_back-in-None-clause-kept g c =
    let kept = g.S.Surface.kept in
    keeps c.from_residual-in_err-apply_or_roll_back-in-None.result (kept c.apply_or_roll_back.new.mesh) (kept c.args.mesh.now)
    (c.in_err-apply_or_roll_back-in-None.ensures.kept ∙ c.first_hit.ensures.kept)

pub returns-in_ok-apply_or_roll_back-in-None-clause-mesh : goal.returns-in_ok-apply_or_roll_back-in-None-clause-mesh
returns-in_ok-apply_or_roll_back-in-None-clause-mesh g c =
    let m = g.S.Surface.mesh c.args.mesh.now in
    c.in_ok-apply_or_roll_back-in-None.ensures.made ∙ ap (λ n. flip_mesh n c.args.e.now) c.first_hit.ensures.mesh
    ∙ ap (flip_mesh m) (sym c.requires.tried.edge.beside) ∙ ap (λ (s : Edge). flip_mesh m (edge_of m s.a s.b)) (sym c.e.view_is)

pub returns-in_ok-apply_or_roll_back-in-None-clause-marks : goal.returns-in_ok-apply_or_roll_back-in-None-clause-marks
returns-in_ok-apply_or_roll_back-in-None-clause-marks g c =
    let kept = g.S.Surface.kept in
    begins_along (kept c.apply_or_roll_back.new.mesh) (kept c.first_hit.new.mesh) (kept c.args.mesh.now) c.apply_or_roll_back.ensures.marks c.first_hit.ensures.marks
