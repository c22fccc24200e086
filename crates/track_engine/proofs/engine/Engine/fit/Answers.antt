use Rattle.std.proofs.Common.{List, refl, sym, subst, ap, ◌∙◌}
use Rattle.std.proofs.lemmas.Result.{err_from_is_err_and}
use Rattle.mesh_base.proofs.MarksHold.{begins_itself}
use Rattle.outside_io.specs.Outside.{written_of}
use Rattle.outside_io.proofs.Outsides.{nothing_unremembered, nothing_stopped, nothing_whole}
use Rattle.mesh_sizing.specs.Sizes.{MayAnswer}
use Rattle.track_engine.specs.declared.open_group.OpenGroup.{OpenGroup}
use Rattle.step_text.specs.declared.Directive.TheVariants as directive
use Rattle.mesh_base.specs.Pairs.{edges}
use Rattle.track_engine.specs.Answers.{Wanted}
use Rattle.track_engine.specs.Effects.{Proceeds, fitted_lines}
use Rattle.track_engine.specs.Invariant.{MarksHold}
use Rattle.track_engine.specs.State.{groups_of, is_open, state_of, asked_in}
use Rattle.track_engine.proofs.OpenMarks.{is_open_of, groups_failed_along, marks_along, marks_failed_along}
use Rattle.track_engine.proofs.Keeping.{kept_next}
use Rattle.track_engine.proofs.FitTaken.{fit_not_begun, fit_in_part, fit_rest, fit_taken}
use Rattle.track_engine.proofs.engine.Engine.fit.Goals as goal

pub returns-in_err-keep_asked-clause-fits : goal.returns-in_err-keep_asked-clause-fits
returns-in_err-keep_asked-clause-fits g c =
    let p = err_from_is_err_and c.from_residual.result c.from_residual.ensures.1 in
    let kept = g.S.Surface.kept c.args.self.now.mesh in
    let s = state_of (g.S.Surface.mesh c.args.self.now.mesh) kept c.args.self.now.run in
    rw p.1 (fit_not_begun (MayAnswer g.G.Fn c.args.sizing.now) s (is_open s.groups) refl s p.0 (written_of (g.O.Outside.around c.args.outside.now)))

pub returns-in_err-keep_asked-clause-nothing_stored : goal.returns-in_err-keep_asked-clause-nothing_stored
returns-in_err-keep_asked-clause-nothing_stored g c =
    let p = err_from_is_err_and c.from_residual.result c.from_residual.ensures.1 in
    rw (p.1, p.2) (nothing_unremembered (g.O.Outside.around c.args.outside.now))

pub returns-in_err-keep_asked-clause-marks : goal.returns-in_err-keep_asked-clause-marks
returns-in_err-keep_asked-clause-marks g c = c.requires.ready.marks

pub returns-in_err-keep_asked-clause-begins : goal.returns-in_err-keep_asked-clause-begins
returns-in_err-keep_asked-clause-begins g c = begins_itself (g.S.Surface.kept c.args.self.now.mesh)

pub returns-in_err-count-clause-fits : goal.returns-in_err-count-clause-fits
returns-in_err-count-clause-fits g c =
    let p = err_from_is_err_and c.from_residual-in_err-count.result c.from_residual-in_err-count.ensures.1 in
    let kept = g.S.Surface.kept c.args.self.now.mesh in
    let s = state_of (g.S.Surface.mesh c.args.self.now.mesh) kept c.args.self.now.run in
    rw p.1 (fit_in_part (MayAnswer g.G.Fn c.args.sizing.now) s c.is_open.result (c.is_open.ensures ∙ sym (is_open_of kept c.args.self.now.run.groups)) s (g.S.Surface.mesh c.fit_to.new.mesh) _ p.0 _ _ c.in_err-count.ensures.fits)

pub returns-in_err-count-clause-nothing_stored : goal.returns-in_err-count-clause-nothing_stored
returns-in_err-count-clause-nothing_stored g c =
    let p = err_from_is_err_and c.from_residual-in_err-count.result c.from_residual-in_err-count.ensures.1 in
    rw (p.1, p.2) (nothing_stopped _ _ _ c.in_err-count.ensures.keeps.nothing_stored)

pub returns-in_err-count-clause-marks : goal.returns-in_err-count-clause-marks
returns-in_err-count-clause-marks g c = marks_along g.S.Surface.beyond (g.S.Surface.kept c.fit_to.new.mesh) (g.S.Surface.kept c.args.self.now.mesh) c.args.self.now.run.groups c.in_err-count.ensures.keeps.marks c.requires.ready.marks

pub returns-in_err-count-clause-begins : goal.returns-in_err-count-clause-begins
returns-in_err-count-clause-begins g c = c.in_err-count.ensures.keeps.marks

pub returns-clause-fits : goal.returns-clause-fits
returns-clause-fits g c =
    let m = g.S.Surface.mesh c.fit_to.new.mesh in
    let kept = g.S.Surface.kept c.args.self.now.mesh in
    let run = c.args.self.now.run in
    let fails = ap (groups_of (g.S.Surface.kept c.fit_to.new.mesh)) c.fail_if.ensures ∙ groups_failed_along g.S.Surface.beyond (g.S.Surface.kept c.fit_to.new.mesh) kept _ run.groups c.in_ok-count.ensures.keeps.marks c.requires.ready.marks in
    let s = state_of (g.S.Surface.mesh c.args.self.now.mesh) kept run in
    let is_one = c.is_open.ensures ∙ sym (is_open_of kept run.groups) in
    let old = written_of (g.O.Outside.around c.args.outside.now) in
    let new = written_of (g.O.Outside.around c.fit_to.new.outside) in
    let rest = fit_rest (MayAnswer g.G.Fn c.args.sizing.now) s c.is_open.result is_one c.requires.ready.invariant.now.good m c.in_ok-count.count old new c.in_ok-count.ensures.fits c.keep_asked.new.asked c.in_ok-keep_asked.ensures.same c.in_ok-keep_asked.ensures.given in
    fit_taken (MayAnswer g.G.Fn c.args.sizing.now) s c.is_open.result is_one m (asked_in m c.keep_asked.new.asked)
    (groups_of (g.S.Surface.kept c.fit_to.new.mesh) c.fail_if.new.self) c.in_ok-count.count old new c.in_ok-count.ensures.fits rest fails

pub returns-clause-nothing_stored : goal.returns-clause-nothing_stored
returns-clause-nothing_stored g c = nothing_whole _ _ _ _ c.in_ok-count.ensures.keeps.nothing_stored

pub returns-clause-marks : goal.returns-clause-marks
returns-clause-marks g c =
    let new = g.S.Surface.kept c.fit_to.new.mesh in
    let P : List OpenGroup → Type 0 = λ groups. MarksHold g.S.Surface.beyond new groups in
    subst P (sym c.fail_if.ensures) (marks_failed_along g.S.Surface.beyond new (g.S.Surface.kept c.args.self.now.mesh) _ c.args.self.now.run.groups c.in_ok-count.ensures.keeps.marks c.requires.ready.marks)

pub returns-clause-begins : goal.returns-clause-begins
returns-clause-begins g c = c.in_ok-count.ensures.keeps.marks

pub returns-clause-ready : goal.returns-clause-ready
returns-clause-ready g c =
    let s = state_of (g.S.Surface.mesh c.args.self.now.mesh) (g.S.Surface.kept c.args.self.now.mesh) c.args.self.now.run in
    let fits = returns-clause-fits g c in
    let lines = fitted_lines fits.0 (edges s.mesh) s in
    record {
      invariant = kept_next (Wanted fits.0) directive.Fit s _ lines c.requires.ready.invariant (ap (Proceeds lines) (sym fits.2));
      marks = returns-clause-marks g c;
      limits = c.requires.ready.limits;
    }
