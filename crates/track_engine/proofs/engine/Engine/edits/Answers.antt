use Rattle.std.proofs.Common.{List, ◌++◌, refl, sym, subst, ap, ◌∙◌, inl}
use Rattle.std.proofs.lemmas.Result.{err_from_is_err_and}
use Rattle.mesh_base.proofs.MarksHold.{begins_itself}
use Rattle.outside_io.specs.Outside.{written_of}
use Rattle.outside_io.proofs.Outsides.{nothing_unremembered, nothing_stopped, nothing_whole}
use Rattle.track_engine.specs.declared.open_group.OpenGroup.{OpenGroup}
use Rattle.track_engine.specs.Invariant.{MarksHold, IsRunInvariant}
use Rattle.track_engine.specs.State.{State, groups_of, state_of, asked_in}
use Rattle.track_engine.proofs.OpenMarks.{is_open_of, groups_failed_along, marks_along, marks_failed_along}
use Rattle.track_engine.proofs.Keeping.{kept_edited}
use Rattle.track_engine.proofs.EditsTaken.{answers_are, edits_in_part, edits_rest, edits_left, edits_taken, edits_counted_is}
use Rattle.track_engine.proofs.engine.Engine.edits.Goals as goal

pub returns-in_err-keep_asked-clause-writes : goal.returns-in_err-keep_asked-clause-writes
returns-in_err-keep_asked-clause-writes g c =
    let p = err_from_is_err_and c.from_residual.result c.from_residual.ensures.1 in
    rw p.1 (inl refl)

pub returns-in_err-keep_asked-clause-nothing_stored : goal.returns-in_err-keep_asked-clause-nothing_stored
returns-in_err-keep_asked-clause-nothing_stored g c =
    let p = err_from_is_err_and c.from_residual.result c.from_residual.ensures.1 in
    rw (p.1, p.2) (nothing_unremembered (g.O.Outside.around c.args.outside.now))

pub returns-in_err-keep_asked-clause-marks : goal.returns-in_err-keep_asked-clause-marks
returns-in_err-keep_asked-clause-marks g c = c.requires.ready.marks

pub returns-in_err-keep_asked-clause-begins : goal.returns-in_err-keep_asked-clause-begins
returns-in_err-keep_asked-clause-begins g c = begins_itself (g.S.Surface.kept c.args.self.now.mesh)

pub returns-in_err-count-clause-writes : goal.returns-in_err-count-clause-writes
returns-in_err-count-clause-writes g c =
    let p = err_from_is_err_and c.from_residual-in_err-count.result c.from_residual-in_err-count.ensures.1 in
    let kept = g.S.Surface.kept c.args.self.now.mesh in
    let s = state_of (g.S.Surface.mesh c.args.self.now.mesh) kept c.args.self.now.run in
    rw p.1 (edits_in_part c.args.asked.now s c.is_open.result (c.is_open.ensures ∙ sym (is_open_of kept c.args.self.now.run.groups)) s p.0 (g.S.Surface.mesh c.edits_to.new.mesh) _ _ c.in_err-count.ensures.takes.said)

pub returns-in_err-count-clause-nothing_stored : goal.returns-in_err-count-clause-nothing_stored
returns-in_err-count-clause-nothing_stored g c =
    let p = err_from_is_err_and c.from_residual-in_err-count.result c.from_residual-in_err-count.ensures.1 in
    rw (p.1, p.2) (nothing_stopped _ _ _ c.in_err-count.ensures.takes.keeps.nothing_stored)

pub returns-in_err-count-clause-marks : goal.returns-in_err-count-clause-marks
returns-in_err-count-clause-marks g c = marks_along g.S.Surface.beyond (g.S.Surface.kept c.edits_to.new.mesh) (g.S.Surface.kept c.args.self.now.mesh) c.args.self.now.run.groups c.in_err-count.ensures.takes.keeps.marks c.requires.ready.marks

pub returns-in_err-count-clause-begins : goal.returns-in_err-count-clause-begins
returns-in_err-count-clause-begins g c = c.in_err-count.ensures.takes.keeps.marks

pub returns-clause-writes : goal.returns-clause-writes
returns-clause-writes g c =
    let m = g.S.Surface.mesh c.edits_to.new.mesh in
    let kept = g.S.Surface.kept c.args.self.now.mesh in
    let run = c.args.self.now.run in
    let is_one = c.is_open.ensures ∙ sym (is_open_of kept run.groups) in
    let s = state_of (g.S.Surface.mesh c.args.self.now.mesh) kept run in
    let fails = ap (groups_of (g.S.Surface.kept c.edits_to.new.mesh)) c.fail_if.ensures ∙ groups_failed_along g.S.Surface.beyond (g.S.Surface.kept c.edits_to.new.mesh) kept _ run.groups c.in_ok-count.ensures.takes.keeps.marks c.requires.ready.marks in
    edits_taken c.args.asked.now s c.is_open.result is_one _ (written_of (g.O.Outside.around c.args.outside.now)) (written_of (g.O.Outside.around c.edits_to.new.outside))
    (edits_left c.args.asked.now s c.is_open.result is_one m (asked_in m c.keep_asked.new.asked) (groups_of (g.S.Surface.kept c.edits_to.new.mesh) c.fail_if.new.self) c.in_ok-count.count.refused
    c.in_ok-count.ensures.mesh (edits_rest c.args.asked.now s c.is_open.result (c.is_open.ensures ∙ sym (is_open_of kept run.groups)) c.requires.ready.invariant.now.good m c.in_ok-count.ensures.mesh c.keep_asked.new.asked c.in_ok-keep_asked.ensures.same c.in_ok-keep_asked.ensures.given) c.in_ok-count.ensures.takes.refused fails)
    c.in_ok-count.ensures.takes.said.1

pub returns-clause-answers : goal.returns-clause-answers
returns-clause-answers g c =
    let kept = g.S.Surface.kept c.args.self.now.mesh in
    let run = c.args.self.now.run in
    c.in_ok-count.ensures.answers ∙ ap (λ l. c.args.answers.now ++ l) (answers_are c.args.asked.now (state_of (g.S.Surface.mesh c.args.self.now.mesh) kept run) c.is_open.result (c.is_open.ensures ∙ sym (is_open_of kept run.groups)))

pub returns-clause-nothing_stored : goal.returns-clause-nothing_stored
returns-clause-nothing_stored g c = nothing_whole _ _ _ _ c.in_ok-count.ensures.takes.keeps.nothing_stored

pub returns-clause-marks : goal.returns-clause-marks
returns-clause-marks g c =
    let new = g.S.Surface.kept c.edits_to.new.mesh in
    let P : List OpenGroup → Type 0 = λ groups. MarksHold g.S.Surface.beyond new groups in
    subst P (sym c.fail_if.ensures) (marks_failed_along g.S.Surface.beyond new (g.S.Surface.kept c.args.self.now.mesh) _ c.args.self.now.run.groups c.in_ok-count.ensures.takes.keeps.marks c.requires.ready.marks)

pub returns-clause-begins : goal.returns-clause-begins
returns-clause-begins g c = c.in_ok-count.ensures.takes.keeps.marks

pub returns-clause-told : goal.returns-clause-told
returns-clause-told g c =
    let kept = g.S.Surface.kept c.args.self.now.mesh in
    let run = c.args.self.now.run in
    edits_counted_is c.args.asked.now (state_of (g.S.Surface.mesh c.args.self.now.mesh) kept run) c.is_open.result (c.is_open.ensures ∙ sym (is_open_of kept run.groups)) c.in_ok-count.count c.in_ok-count.ensures.takes.done c.in_ok-count.ensures.takes.refused

pub returns-clause-ready : goal.returns-clause-ready
returns-clause-ready g c =
    let m = g.S.Surface.mesh c.edits_to.new.mesh in
    let kept = g.S.Surface.kept c.args.self.now.mesh in
    let run = c.args.self.now.run in
    let s = state_of (g.S.Surface.mesh c.args.self.now.mesh) kept run in
    let fails = ap (groups_of (g.S.Surface.kept c.edits_to.new.mesh)) c.fail_if.ensures ∙ groups_failed_along g.S.Surface.beyond (g.S.Surface.kept c.edits_to.new.mesh) kept _ run.groups c.in_ok-count.ensures.takes.keeps.marks c.requires.ready.marks in
    let left = edits_left c.args.asked.now s c.is_open.result (c.is_open.ensures ∙ sym (is_open_of kept run.groups)) m (asked_in m c.keep_asked.new.asked) (groups_of (g.S.Surface.kept c.edits_to.new.mesh) c.fail_if.new.self) c.in_ok-count.count.refused
    c.in_ok-count.ensures.mesh (edits_rest c.args.asked.now s c.is_open.result (c.is_open.ensures ∙ sym (is_open_of kept run.groups)) c.requires.ready.invariant.now.good m c.in_ok-count.ensures.mesh c.keep_asked.new.asked c.in_ok-keep_asked.ensures.same c.in_ok-keep_asked.ensures.given) c.in_ok-count.ensures.takes.refused fails in
    let P : State → Type 0 = λ t. IsRunInvariant t in
    record {
      invariant = subst P (sym left) (kept_edited c.args.asked.now s c.requires.ready.invariant);
      marks = returns-clause-marks g c;
      limits = c.requires.ready.limits;
    }
