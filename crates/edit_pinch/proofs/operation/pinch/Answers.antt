use Rattle.std.proofs.Common.{drop, refl, sym, ap, subst, ◌∙◌}
use Rattle.grid_decided.specs.Decided.{meets_exactly, meets_exactly-is_exact}
use Rattle.mesh_base.specs.Sides.{IsClosed}
use Rattle.mesh_base.specs.Placements.{IsClearMesh}
use Rattle.mesh_base.proofs.MarksHold.{begins_itself}
use Rattle.edit_pinch.specs.Answer.{pinch_answer}
use Rattle.edit_base.specs.Laws.{Answer}
use Rattle.edit_pinch.specs.Done.{pinch_result, pinch_tested_on}
use Rattle.edit_base.proofs.Left.{left_is_closed, left_is_clear, motion_was_clear}
use Rattle.edit_pinch.proofs.PinchDone.{pinched_live, pinch_stays_closed, pinch_stays_clear, pinch_motion_is_clear}
use Rattle.edit_pinch.proofs.Answered.{two_or_more, solid_is_refused, full_is_refused, later_are}
use Rattle.edit_pinch.proofs.operation.pinch.Goals as goal

pub returns-then-solid-clause-answer : goal.returns-then-solid-clause-answer
returns-then-solid-clause-answer g c =
    let m = g.S.Surface.mesh c.args.mesh.now in
    let v = c.args.v in
    let two = two_or_more m v c.in_ok-parts.parts c.len.result c.in_ok-parts.ensures c.len.ensures c.if-len-lt2.false in
    solid_is_refused m v c.args.depth two (sym c.solid.ensures ∙ c.if-solid.true)

pub returns-then-is_over-clause-answer : goal.returns-then-is_over-clause-answer
returns-then-is_over-clause-answer g c =
    let m = g.S.Surface.mesh c.args.mesh.now in
    let v = c.args.v in
    let sound = g.met.S.Surface.sound c.args.mesh.now in
    let two = two_or_more m v c.in_ok-parts.parts c.len.result c.in_ok-parts.ensures c.len.ensures c.if-len-lt2.false in
    let later = later_are c.as_slice.result.now ∙ ap (drop 1) (c.as_slice.ensures ∙ c.in_ok-parts.ensures) in
    full_is_refused m v c.args.depth two (sym c.solid.ensures ∙ c.if-solid.false) (sym (c.is_over.ensures v c.requires.closed (pinched_live m v sound two) later) ∙ c.if-is_over.true)

pub returns-then-solid-clause-mesh : goal.returns-then-solid-clause-mesh
returns-then-solid-clause-mesh g c = refl

pub returns-then-solid-clause-marks : goal.returns-then-solid-clause-marks
returns-then-solid-clause-marks g c = begins_itself (g.S.Surface.kept c.args.mesh.now)

pub returns-then-is_over-clause-mesh : goal.returns-then-is_over-clause-mesh
returns-then-is_over-clause-mesh g c = refl

pub returns-then-is_over-clause-marks : goal.returns-then-is_over-clause-marks
returns-then-is_over-clause-marks g c = begins_itself (g.S.Surface.kept c.args.mesh.now)

pub pinch_or_leave-requires-clause-fans : goal.pinch_or_leave-requires-clause-fans
pinch_or_leave-requires-clause-fans g c = c.as_slice-else-is_over.ensures ∙ c.in_ok-parts.ensures

pub pinch_or_leave-requires-clause-tried : goal.pinch_or_leave-requires-clause-tried
pinch_or_leave-requires-clause-tried g c =
    let m = g.S.Surface.mesh c.args.mesh.now in
    let v = c.args.v in
    let sound = g.met.S.Surface.sound c.args.mesh.now in
    let two = two_or_more m v c.in_ok-parts.parts c.len.result c.in_ok-parts.ensures c.len.ensures c.if-len-lt2.false in
    let later = later_are c.as_slice.result.now ∙ ap (drop 1) (c.as_slice.ensures ∙ c.in_ok-parts.ensures) in
    record { two_fans = two; may_move = sym c.solid.ensures ∙ c.if-solid.false; fits = sym (c.is_over.ensures v c.requires.closed (pinched_live m v sound two) later) ∙ c.if-is_over.false }

pub returns-clause-closed : goal.returns-clause-closed
returns-clause-closed g c =
    let m = g.S.Surface.mesh c.args.mesh.now in
    let answer : Answer = λ m. pinch_answer meets_exactly m c.args.v c.args.depth in
    subst IsClosed (sym c.pinch_or_leave.ensures.mesh)
    (left_is_closed pinch_result answer m (g.met.S.Surface.sound c.args.mesh.now) c.requires.closed (pinch_stays_closed meets_exactly c.args.v c.args.depth) c.pinch_or_leave.result c.pinch_or_leave.ensures.answer)

pub returns-clause-clear : goal.returns-clause-clear
returns-clause-clear g c =
    let m = g.S.Surface.mesh c.args.mesh.now in
    let answer : Answer = λ m. pinch_answer meets_exactly m c.args.v c.args.depth in
    subst IsClearMesh (sym c.pinch_or_leave.ensures.mesh)
    (left_is_clear pinch_result answer m (g.met.S.Surface.sound c.args.mesh.now) c.requires.closed (pinch_stays_clear meets_exactly meets_exactly-is_exact c.args.v c.args.depth) c.requires.clear c.pinch_or_leave.result c.pinch_or_leave.ensures.answer)

pub returns-clause-motion : goal.returns-clause-motion
returns-clause-motion g c =
    let m = g.S.Surface.mesh c.args.mesh.now in
    let answer : Answer = λ m. pinch_answer meets_exactly m c.args.v c.args.depth in
    motion_was_clear pinch_tested_on answer m (g.met.S.Surface.sound c.args.mesh.now) c.requires.closed (pinch_motion_is_clear meets_exactly meets_exactly-is_exact c.args.v c.args.depth) c.pinch_or_leave.result c.pinch_or_leave.ensures.answer
