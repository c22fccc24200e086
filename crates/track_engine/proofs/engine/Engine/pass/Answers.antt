use Rattle.std.proofs.Common.{List, refl, sym, subst, ap, ◌∙◌}
use Rattle.std.proofs.lemmas.Result.{err_from_is_err_and}
use Rattle.mesh_base.proofs.MarksHold.{begins_itself}
use Rattle.outside_io.specs.Outside.{written_of}
use Rattle.outside_io.proofs.Outsides.{nothing_unremembered, nothing_stopped, nothing_whole}
use Rattle.track_engine.specs.declared.open_group.OpenGroup.{OpenGroup}
use Rattle.step_text.specs.declared.Directive.TheVariants as directive
use Rattle.track_engine.specs.Answers.{Nothing}
use Rattle.track_engine.specs.Effects.{Proceeds, passed_lines}
use Rattle.track_engine.specs.Invariant.{MarksHold}
use Rattle.track_engine.specs.State.{groups_of, is_open, state_of, asked_in}
use Rattle.track_engine.proofs.OpenMarks.{is_open_of, groups_failed_along, marks_along, marks_failed_along}
use Rattle.track_engine.proofs.Keeping.{kept_next}
use Rattle.track_engine.proofs.PassTaken.{pass_not_begun, pass_in_part, pass_rest, pass_taken, pass_told_is}
use Rattle.track_engine.proofs.engine.Engine.pass.Goals as goal

pub returns-in_err-keep_asked-clause-passes : goal.returns-in_err-keep_asked-clause-passes
returns-in_err-keep_asked-clause-passes g c =
    let p = err_from_is_err_and c.from_residual.result c.from_residual.ensures.1 in
    let kept = g.S.Surface.kept c.args.self.now.mesh in
    let s = state_of (g.S.Surface.mesh c.args.self.now.mesh) kept c.args.self.now.run in
    rw p.1 (pass_not_begun c.args.kind s (is_open s.groups) refl s p.0 (written_of (g.O.Outside.around c.args.outside.now)))

pub returns-in_err-keep_asked-clause-nothing_stored : goal.returns-in_err-keep_asked-clause-nothing_stored
returns-in_err-keep_asked-clause-nothing_stored g c =
    let p = err_from_is_err_and c.from_residual.result c.from_residual.ensures.1 in
    rw (p.1, p.2) (nothing_unremembered (g.O.Outside.around c.args.outside.now))

pub returns-in_err-keep_asked-clause-marks : goal.returns-in_err-keep_asked-clause-marks
returns-in_err-keep_asked-clause-marks g c = c.requires.ready.marks

pub returns-in_err-keep_asked-clause-begins : goal.returns-in_err-keep_asked-clause-begins
returns-in_err-keep_asked-clause-begins g c = begins_itself (g.S.Surface.kept c.args.self.now.mesh)

pub returns-in_err-count-clause-passes : goal.returns-in_err-count-clause-passes
returns-in_err-count-clause-passes g c =
    let p = err_from_is_err_and c.from_residual-in_err-count.result c.from_residual-in_err-count.ensures.1 in
    let kept = g.S.Surface.kept c.args.self.now.mesh in
    let s = state_of (g.S.Surface.mesh c.args.self.now.mesh) kept c.args.self.now.run in
    rw p.1 (pass_in_part c.args.kind s c.is_open.result (c.is_open.ensures ∙ sym (is_open_of kept c.args.self.now.run.groups)) s p.0 (g.S.Surface.mesh c.pass_to.new.mesh) _ _ c.in_err-count.ensures.takes.said)

pub returns-in_err-count-clause-nothing_stored : goal.returns-in_err-count-clause-nothing_stored
returns-in_err-count-clause-nothing_stored g c =
    let p = err_from_is_err_and c.from_residual-in_err-count.result c.from_residual-in_err-count.ensures.1 in
    rw (p.1, p.2) (nothing_stopped _ _ _ c.in_err-count.ensures.takes.keeps.nothing_stored)

pub returns-in_err-count-clause-marks : goal.returns-in_err-count-clause-marks
returns-in_err-count-clause-marks g c = marks_along g.S.Surface.beyond (g.S.Surface.kept c.pass_to.new.mesh) (g.S.Surface.kept c.args.self.now.mesh) c.args.self.now.run.groups c.in_err-count.ensures.takes.keeps.marks c.requires.ready.marks

pub returns-in_err-count-clause-begins : goal.returns-in_err-count-clause-begins
returns-in_err-count-clause-begins g c = c.in_err-count.ensures.takes.keeps.marks

pub returns-clause-passes : goal.returns-clause-passes
returns-clause-passes g c =
    let m = g.S.Surface.mesh c.pass_to.new.mesh in
    let kept = g.S.Surface.kept c.args.self.now.mesh in
    let run = c.args.self.now.run in
    let fails = ap (groups_of (g.S.Surface.kept c.pass_to.new.mesh)) c.fail_if.ensures ∙ groups_failed_along g.S.Surface.beyond (g.S.Surface.kept c.pass_to.new.mesh) kept _ run.groups c.in_ok-count.ensures.takes.keeps.marks c.requires.ready.marks in
    let s = state_of (g.S.Surface.mesh c.args.self.now.mesh) kept run in
    let is_one = c.is_open.ensures ∙ sym (is_open_of kept run.groups) in
    let rest = pass_rest c.args.kind s c.is_open.result is_one c.requires.ready.invariant.now.good m c.in_ok-count.ensures.mesh c.keep_asked.new.asked c.in_ok-keep_asked.ensures.same c.in_ok-keep_asked.ensures.given in
    pass_taken c.args.kind s c.is_open.result is_one m (asked_in m c.keep_asked.new.asked)
    (groups_of (g.S.Surface.kept c.pass_to.new.mesh) c.fail_if.new.self) c.in_ok-count.count.refused (written_of (g.O.Outside.around c.args.outside.now)) (written_of (g.O.Outside.around c.pass_to.new.outside))
    c.in_ok-count.ensures.mesh rest c.in_ok-count.ensures.takes.refused fails c.in_ok-count.ensures.takes.said.1

pub returns-clause-nothing_stored : goal.returns-clause-nothing_stored
returns-clause-nothing_stored g c = nothing_whole _ _ _ _ c.in_ok-count.ensures.takes.keeps.nothing_stored

pub returns-clause-marks : goal.returns-clause-marks
returns-clause-marks g c =
    let new = g.S.Surface.kept c.pass_to.new.mesh in
    let P : List OpenGroup → Type 0 = λ groups. MarksHold g.S.Surface.beyond new groups in
    subst P (sym c.fail_if.ensures) (marks_failed_along g.S.Surface.beyond new (g.S.Surface.kept c.args.self.now.mesh) _ c.args.self.now.run.groups c.in_ok-count.ensures.takes.keeps.marks c.requires.ready.marks)

pub returns-clause-begins : goal.returns-clause-begins
returns-clause-begins g c = c.in_ok-count.ensures.takes.keeps.marks

pub returns-clause-told : goal.returns-clause-told
returns-clause-told g c =
    let kept = g.S.Surface.kept c.args.self.now.mesh in
    let run = c.args.self.now.run in
    pass_told_is c.args.kind (state_of (g.S.Surface.mesh c.args.self.now.mesh) kept run) c.is_open.result (c.is_open.ensures ∙ sym (is_open_of kept run.groups)) c.in_ok-count.count c.in_ok-count.ensures.takes.done c.in_ok-count.ensures.takes.refused

pub returns-clause-ready : goal.returns-clause-ready
returns-clause-ready g c =
    let s = state_of (g.S.Surface.mesh c.args.self.now.mesh) (g.S.Surface.kept c.args.self.now.mesh) c.args.self.now.run in
    let takes = returns-clause-passes g c in
    let lines = passed_lines c.args.kind s in
    record {
      invariant = kept_next Nothing (directive.Pass c.args.kind) s _ lines c.requires.ready.invariant (ap (Proceeds lines) (sym takes.0));
      marks = returns-clause-marks g c;
      limits = c.requires.ready.limits;
    }
