use Rattle.std.proofs.Common.{◌≡◌, List, true, Ok, sym, ap, subst, ◌∙◌}
use Rattle.std.specs.Prelude.{◌↔◌, IsTrue, IfOk}
use Rattle.mesh_base.specs.Mesh.{Mesh}
use Rattle.edit_any.specs.Dispatch.{edited}
use Rattle.edit_any.specs.Answered.{IsAnswered}
use Rattle.log_run.specs.Groups.{stack_of, MarksHold}
use Rattle.log_run.proofs.OpenMarks.{stack_along, marks_along}
use Rattle.log_run.proofs.Calls.{edit_taken}
use Rattle.log_run.proofs.edits.take_edit.Goals as goal

pub returns-clause-takes : goal.returns-clause-takes
returns-clause-takes g c =
    let beyond = g.S.Surface.beyond in
    let m = g.S.Surface.mesh c.args.mesh.now in
    let marks = c.args.at.now.marks in
    let change = c.args.change.now in
    let result = c.redo.result in
    let same : g.S.Surface.mesh c.index.new.self ≡ m = c.index.ensures.mesh ∙ c.settle_if_none.ensures.mesh in
    let settled = g.S.Surface.kept c.settle_if_none.new.mesh in
    let left = g.S.Surface.kept c.redo.new.mesh in
    let P : List Mesh → Type 0 = λ l. MarksHold beyond l marks in
    let held = subst P (sym c.index.ensures.kept) c.settle_if_none.ensures.marks in
    let stacked = stack_along beyond left (g.S.Surface.kept c.index.new.self) marks c.redo.ensures.marks held ∙ ap (λ (l : List Mesh). stack_of l marks) c.index.ensures.kept ∙ c.settle_if_none.ensures.stack in
    let Q : Mesh → Type 0 = λ x. IfOk result (λ told. IsTrue told ↔ IsAnswered x change) in
    edit_taken beyond m (g.S.Surface.kept c.args.mesh.now) c.args.at.now c.requires.holds c.if-at.false change (g.S.Surface.mesh c.redo.new.mesh) left result
    (subst Q same c.redo.ensures.told)
    (λ e. c.redo.ensures.mesh e ∙ ap (λ (x : Mesh). edited x change) same)
    (marks_along beyond left (g.S.Surface.kept c.index.new.self) marks c.redo.ensures.marks held) stacked
