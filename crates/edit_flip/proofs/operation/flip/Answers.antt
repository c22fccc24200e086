use Rattle.std.proofs.Common.{◌≡◌, sym, subst}
use Rattle.std.specs.Prelude.{IfOk}
use Rattle.grid_decided.specs.Decided.{meets_exactly, meets_exactly-is_exact}
use Rattle.mesh_base.specs.Sides.{IsClosed}
use Rattle.mesh_base.specs.Placements.{IsClearMesh}
use Rattle.edit_base.specs.declared.answers.Edit.{Edit}
use Rattle.edit_flip.specs.Answer.{flip_answer}
use Rattle.edit_base.specs.Laws.{Answer}
use Rattle.edit_flip.specs.Done.{flip_result, flip_tested_on}
use Rattle.edit_base.proofs.Left.{left_is_closed, left_is_clear, motion_was_clear}
use Rattle.edit_flip.proofs.FlipDone.{flip_stays_closed, flip_stays_clear, flip_motion_is_clear}
use Rattle.edit_flip.proofs.Answered.{same_of_ends}
use Rattle.edit_flip.proofs.operation.flip.Goals as goal

pub returns-in-Ok-clause-answer : goal.returns-in-Ok-clause-answer
returns-in-Ok-clause-answer g c =
    let m = g.S.Surface.mesh c.args.mesh.now in
    subst (λ (answer : Edit). IfOk c.flip_or_leave.result (λ edit. edit ≡ answer))
    (same_of_ends meets_exactly m c.in-Ok.e c.args.a c.args.b c.args.depth c.in-Ok.ensures.edge) c.flip_or_leave.ensures.answer

pub returns-in-Ok-clause-closed : goal.returns-in-Ok-clause-closed
returns-in-Ok-clause-closed g c =
    let m = g.S.Surface.mesh c.args.mesh.now in
    let answer : Answer = λ m. flip_answer meets_exactly m c.args.a c.args.b c.args.depth in
    subst IsClosed (sym c.flip_or_leave.ensures.mesh)
    (left_is_closed flip_result answer m (g.met.S.Surface.sound c.args.mesh.now) c.requires.closed (flip_stays_closed meets_exactly c.args.a c.args.b c.args.depth) c.flip_or_leave.result (returns-in-Ok-clause-answer g c))

pub returns-in-Ok-clause-clear : goal.returns-in-Ok-clause-clear
returns-in-Ok-clause-clear g c =
    let m = g.S.Surface.mesh c.args.mesh.now in
    let answer : Answer = λ m. flip_answer meets_exactly m c.args.a c.args.b c.args.depth in
    subst IsClearMesh (sym c.flip_or_leave.ensures.mesh)
    (left_is_clear flip_result answer m (g.met.S.Surface.sound c.args.mesh.now) c.requires.closed (flip_stays_clear meets_exactly meets_exactly-is_exact c.args.a c.args.b c.args.depth) c.requires.clear c.flip_or_leave.result (returns-in-Ok-clause-answer g c))

pub returns-in-Ok-clause-motion : goal.returns-in-Ok-clause-motion
returns-in-Ok-clause-motion g c =
    let m = g.S.Surface.mesh c.args.mesh.now in
    let answer : Answer = λ m. flip_answer meets_exactly m c.args.a c.args.b c.args.depth in
    motion_was_clear flip_tested_on answer m (g.met.S.Surface.sound c.args.mesh.now) c.requires.closed (flip_motion_is_clear meets_exactly meets_exactly-is_exact c.args.a c.args.b c.args.depth) c.flip_or_leave.result (returns-in-Ok-clause-answer g c)

pub returns-in-Err-clause-answer : goal.returns-in-Err-clause-answer
returns-in-Err-clause-answer g c = c.in-Err.ensures.refused c.args.depth
