use Rattle.std.proofs.Common.{◌≡◌, sym, subst}
use Rattle.std.specs.Prelude.{IfOk}
use Rattle.grid_decided.specs.Decided.{meets_exactly, meets_exactly-is_exact}
use Rattle.mesh_base.specs.Sides.{IsClosed}
use Rattle.mesh_base.specs.Placements.{IsClearMesh}
use Rattle.edit_base.specs.declared.answers.Edit.{Edit}
use Rattle.edit_zip.specs.Answer.{zip_answer}
use Rattle.edit_base.specs.Laws.{Answer}
use Rattle.edit_zip.specs.Done.{zip_result}
use Rattle.edit_base.proofs.Left.{left_is_closed, left_is_clear}
use Rattle.edit_zip.proofs.ZipDone.{zip_stays_closed, zip_stays_clear}
use Rattle.edit_zip.proofs.Answered.{same_answer}
use Rattle.edit_zip.proofs.operation.zip.Goals as goal

pub returns-in-Ok-clause-answer : goal.returns-in-Ok-clause-answer
returns-in-Ok-clause-answer g c =
    let m = g.S.Surface.mesh c.args.mesh.now in
    subst (λ (answer : Edit). IfOk c.zip_or_leave.result (λ edit. edit ≡ answer))
    (same_answer m c.args.a c.args.b c.args.e c.args.f c.in-Ok.p.s c.in-Ok.p.t c.in-Ok.ensures.first c.in-Ok.ensures.second) c.zip_or_leave.ensures.answer

pub returns-in-Ok-clause-closed : goal.returns-in-Ok-clause-closed
returns-in-Ok-clause-closed g c =
    let m = g.S.Surface.mesh c.args.mesh.now in
    let answer : Answer = λ m. zip_answer meets_exactly m c.args.a c.args.b c.args.e c.args.f in
    subst IsClosed (sym c.zip_or_leave.ensures.mesh)
    (left_is_closed zip_result answer m (g.met.S.Surface.sound c.args.mesh.now) c.requires.closed (zip_stays_closed meets_exactly c.args.a c.args.b c.args.e c.args.f) c.zip_or_leave.result (returns-in-Ok-clause-answer g c))

pub returns-in-Ok-clause-clear : goal.returns-in-Ok-clause-clear
returns-in-Ok-clause-clear g c =
    let m = g.S.Surface.mesh c.args.mesh.now in
    let answer : Answer = λ m. zip_answer meets_exactly m c.args.a c.args.b c.args.e c.args.f in
    subst IsClearMesh (sym c.zip_or_leave.ensures.mesh)
    (left_is_clear zip_result answer m (g.met.S.Surface.sound c.args.mesh.now) c.requires.closed (zip_stays_clear meets_exactly meets_exactly-is_exact c.args.a c.args.b c.args.e c.args.f) c.requires.clear c.zip_or_leave.result (returns-in-Ok-clause-answer g c))
