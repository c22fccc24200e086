use Rattle.std.proofs.Common.{◌≡◌, sym, subst}
use Rattle.std.specs.Prelude.{IfOk}
use Rattle.grid_decided.specs.Decided.{meets_exactly, meets_exactly-is_exact}
use Rattle.mesh_base.specs.Sides.{IsClosed}
use Rattle.mesh_base.specs.Placements.{IsClearMesh}
use Rattle.edit_split.specs.Answer.{split_answer}
use Rattle.edit_base.specs.Laws.{Answer}
use Rattle.edit_split.specs.Done.{split_result, split_tested_on}
use Rattle.edit_base.proofs.Left.{left_is_closed, left_is_clear, motion_was_clear}
use Rattle.edit_split.proofs.SplitDone.{split_stays_closed, split_stays_clear, split_motion_is_clear}
use Rattle.edit_split.proofs.Answered.{same_answer}
use Rattle.edit_split.proofs.operation.split.Goals as goal

pub returns-in-Ok-clause-answer : goal.returns-in-Ok-clause-answer
returns-in-Ok-clause-answer g c =
    let m = g.S.Surface.mesh c.args.mesh.now in
    subst (λ answer. IfOk c.split_or_go_back.result (λ edit. edit ≡ answer)) (same_answer m c.args.a c.args.b c.args.depth c.in-Ok.e c.in-Ok.ensures.edge) c.split_or_go_back.ensures.answer

pub returns-in-Ok-clause-closed : goal.returns-in-Ok-clause-closed
returns-in-Ok-clause-closed g c =
    let m = g.S.Surface.mesh c.args.mesh.now in
    let answer : Answer = λ m. split_answer meets_exactly m c.args.a c.args.b c.args.depth in
    subst IsClosed (sym c.split_or_go_back.ensures.mesh)
    (left_is_closed split_result answer m (g.met.S.Surface.sound c.args.mesh.now) c.requires.closed (split_stays_closed meets_exactly c.args.a c.args.b c.args.depth) c.split_or_go_back.result (returns-in-Ok-clause-answer g c))

pub returns-in-Ok-clause-clear : goal.returns-in-Ok-clause-clear
returns-in-Ok-clause-clear g c =
    let m = g.S.Surface.mesh c.args.mesh.now in
    let answer : Answer = λ m. split_answer meets_exactly m c.args.a c.args.b c.args.depth in
    subst IsClearMesh (sym c.split_or_go_back.ensures.mesh)
    (left_is_clear split_result answer m (g.met.S.Surface.sound c.args.mesh.now) c.requires.closed (split_stays_clear meets_exactly meets_exactly-is_exact c.args.a c.args.b c.args.depth) c.requires.clear c.split_or_go_back.result (returns-in-Ok-clause-answer g c))

pub returns-in-Ok-clause-motion : goal.returns-in-Ok-clause-motion
returns-in-Ok-clause-motion g c =
    let m = g.S.Surface.mesh c.args.mesh.now in
    let answer : Answer = λ m. split_answer meets_exactly m c.args.a c.args.b c.args.depth in
    motion_was_clear split_tested_on answer m (g.met.S.Surface.sound c.args.mesh.now) c.requires.closed (split_motion_is_clear meets_exactly meets_exactly-is_exact c.args.a c.args.b c.args.depth) c.split_or_go_back.result (returns-in-Ok-clause-answer g c)

pub returns-in-Err-clause-answer : goal.returns-in-Err-clause-answer
returns-in-Err-clause-answer g c = c.in-Err.ensures.refused c.args.depth
