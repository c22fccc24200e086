use Rattle.std.proofs.Common.{◌≡◌, sym, ap, subst, ◌∙◌}
use Rattle.mesh_base.specs.Mesh.{Mesh}
use Rattle.mesh_base.specs.Shifts.{Shifts, with_moves}
use Rattle.log_run.specs.Placing.{CanMoveAll}
use Rattle.log_run.proofs.OpenMarks.{stack_along, marks_along}
use Rattle.log_run.proofs.StepMoves.{can_move_all}
use Rattle.log_run.proofs.Calls.{ended}
use Rattle.log_run.proofs.step_lines.end_step.Goals as goal

pub place_all-requires : goal.place_all-requires
place_all-requires g c =
    let m = g.S.Surface.mesh c.args.mesh.now in
    let moves = c.args.at.now.step.moves in
    let P : Mesh → Type 0 = λ x. CanMoveAll x c.as_slice.result.now in
    let Q : Shifts → Type 0 = λ l. CanMoveAll m l in
    subst P (sym c.settle_if_none.ensures.mesh) (subst Q (sym c.as_slice.ensures) (can_move_all m moves (c.requires.step c.if-not-at.false).moves))

pub returns : goal.returns
returns g c how =
    let beyond = g.S.Surface.beyond in
    let m = g.S.Surface.mesh c.args.mesh.now in
    let marks = c.args.at.now.marks in
    let settled = g.S.Surface.kept c.settle_if_none.new.mesh in
    let left = g.S.Surface.kept c.place_all.new.mesh in
    ended beyond m (g.S.Surface.kept c.args.mesh.now) c.args.at.now c.requires c.if-not-at.false how (g.S.Surface.mesh c.place_all.new.mesh) left
    (c.in-Ok.ensures.moved ∙ (λ i. with_moves (c.settle_if_none.ensures.mesh i) (c.as_slice.ensures i)))
    (marks_along beyond left settled marks c.place_all.ensures.marks c.settle_if_none.ensures.marks)
    (stack_along beyond left settled marks c.place_all.ensures.marks c.settle_if_none.ensures.marks ∙ c.settle_if_none.ensures.stack)
    c.new.result c.new.ensures
