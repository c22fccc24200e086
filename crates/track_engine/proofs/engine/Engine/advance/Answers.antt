use Rattle.std.proofs.Common.{ap, sym, subst, ◌∙◌}
use Rattle.outside_io.specs.Outside.{holds_of}
use Rattle.track_engine.specs.Answered.{known}
use Rattle.track_engine.specs.Engines.{state_in}
use Rattle.track_engine.specs.Invariant.{left_by}
use Rattle.track_engine.specs.Parts.{AdvancesAnswered}
use Rattle.track_engine.specs.State.{State, asked_in}
use Rattle.track_engine.specs.Targets.{target_of}
use Rattle.track_engine.proofs.Advanced.{leaves, has_advanced, left_by_state, counts_of_memory, MarksOf, BeginsAt}
use Rattle.track_engine.proofs.DriveTaken.{advances_drive, begins_named, advances_plain}
use Rattle.track_engine.proofs.FitTaken.{answered_fit, begins_fit, fit_left}
use Rattle.track_engine.proofs.engine.Engine.advance.Goals as goal

pub returns-in-Some-clause-does : goal.returns-in-Some-clause-does
returns-in-Some-clause-does g c =
    let fields = known g.F.Fn c.args.terms.now.fields.now g.G.Fn c.args.terms.now.sizing.now in
    let to = target_of c.args.terms.now.to in
    let around = g.O.Outside.around c.args.outside.now in
    let old = holds_of around in
    let state = state_in g.S.Surface.mesh g.S.Surface.kept in
    let s = state c.args.self.now in
    let P : State → Type 0 = λ t. AdvancesAnswered fields to c.args.what.now s t old old c.drive.result in
    let advances = subst P (sym (ap state c.drive.ensures.rest)) (advances_drive fields to c.args.what.now c.in-Some.which (sym c.in-Some.ensures.value) s (asked_in (g.S.Surface.mesh c.args.self.now.mesh) c.drive.new.self.run.asked) old c.drive.result c.drive.ensures.asks) in
    has_advanced fields to c.args.what.now s (state c.drive.new.self) around around c.drive.result advances c.requires.range c.requires.ready.invariant c.requires.ready.limits
    (left_by_state state c.args.self.now c.drive.new.self c.drive.result c.drive.ensures.left) (counts_of_memory around c.drive.result c.drive.ensures.stops)

pub returns-in-Some-clause-ready : goal.returns-in-Some-clause-ready
returns-in-Some-clause-ready g c = λ none.
    let fields = known g.F.Fn c.args.terms.now.fields.now g.G.Fn c.args.terms.now.sizing.now in
    let to = target_of c.args.terms.now.to in
    let around = g.O.Outside.around c.args.outside.now in
    let old = holds_of around in
    let state = state_in g.S.Surface.mesh g.S.Surface.kept in
    let s = state c.args.self.now in
    let P : State → Type 0 = λ t. AdvancesAnswered fields to c.args.what.now s t old old c.drive.result in
    let advances = subst P (sym (ap state c.drive.ensures.rest)) (advances_drive fields to c.args.what.now c.in-Some.which (sym c.in-Some.ensures.value) s (asked_in (g.S.Surface.mesh c.args.self.now.mesh) c.drive.new.self.run.asked) old c.drive.result c.drive.ensures.asks) in
    let left = leaves fields to c.args.what.now s (state c.drive.new.self) old old c.drive.result none advances c.requires.range c.requires.ready.invariant c.requires.ready.limits in
    record { invariant = left.invariant; marks = subst (MarksOf g.S.Surface.beyond g.S.Surface.kept) (sym c.drive.ensures.rest) c.requires.ready.marks; limits = left.limits }

pub returns-in-Some-clause-begins : goal.returns-in-Some-clause-begins
returns-in-Some-clause-begins g c =
    let left = left_by c.args.what.now c.args.self.now.run.groups (g.S.Surface.kept c.args.self.now.mesh) in
    subst (BeginsAt g.S.Surface.kept left) (sym c.drive.ensures.rest) (begins_named (known g.F.Fn c.args.terms.now.fields.now g.G.Fn c.args.terms.now.sizing.now).names c.args.what.now c.in-Some.which c.args.self.now.run.groups (g.S.Surface.kept c.args.self.now.mesh) (sym c.in-Some.ensures.value))

pub returns-in-Some-clause-marks : goal.returns-in-Some-clause-marks
returns-in-Some-clause-marks g c =
    subst (MarksOf g.S.Surface.beyond g.S.Surface.kept) (sym c.drive.ensures.rest) c.requires.ready.marks

pub returns-in-None-clause-does : goal.returns-in-None-clause-does
returns-in-None-clause-does g c =
    let fields = known g.F.Fn c.args.terms.now.fields.now g.G.Fn c.args.terms.now.sizing.now in
    let to = target_of c.args.terms.now.to in
    let around = g.O.Outside.around c.args.outside.now in
    let old = holds_of around in
    let state = state_in g.S.Surface.mesh g.S.Surface.kept in
    let s = state c.args.self.now in
    let after = g.O.Outside.around c.take_plain.new.outside in
    let t = state c.take_plain.new.self in
    let advances = advances_plain fields to c.args.what.now s t old (holds_of after) c.take_plain.result (sym c.is_fit.ensures ∙ c.if-is_fit.false) (sym c.in-None.ensures.value) c.take_plain.ensures.advances in
    has_advanced fields to c.args.what.now s t around after c.take_plain.result advances c.requires.range c.requires.ready.invariant c.requires.ready.limits c.take_plain.ensures.left c.take_plain.ensures.counts

pub returns-in-None-clause-ready : goal.returns-in-None-clause-ready
returns-in-None-clause-ready g c = λ none.
    let fields = known g.F.Fn c.args.terms.now.fields.now g.G.Fn c.args.terms.now.sizing.now in
    let to = target_of c.args.terms.now.to in
    let around = g.O.Outside.around c.args.outside.now in
    let old = holds_of around in
    let state = state_in g.S.Surface.mesh g.S.Surface.kept in
    let s = state c.args.self.now in
    let after = g.O.Outside.around c.take_plain.new.outside in
    let t = state c.take_plain.new.self in
    let advances = advances_plain fields to c.args.what.now s t old (holds_of after) c.take_plain.result (sym c.is_fit.ensures ∙ c.if-is_fit.false) (sym c.in-None.ensures.value) c.take_plain.ensures.advances in
    let left = leaves fields to c.args.what.now s t old (holds_of after) c.take_plain.result none advances c.requires.range c.requires.ready.invariant c.requires.ready.limits in
    record { invariant = left.invariant; marks = c.take_plain.ensures.marks; limits = left.limits }

pub returns-in-None-clause-marks : goal.returns-in-None-clause-marks
returns-in-None-clause-marks g c = c.take_plain.ensures.marks

pub returns-in-None-clause-begins : goal.returns-in-None-clause-begins
returns-in-None-clause-begins g c = c.take_plain.ensures.begins

pub returns-then-is_fit-clause-does : goal.returns-then-is_fit-clause-does
returns-then-is_fit-clause-does g c =
    let fields = known g.F.Fn c.args.terms.now.fields.now g.G.Fn c.args.terms.now.sizing.now in
    let to = target_of c.args.terms.now.to in
    let around = g.O.Outside.around c.args.outside.now in
    let state = state_in g.S.Surface.mesh g.S.Surface.kept in
    let s = state c.args.self.now in
    let after = g.O.Outside.around c.take_fit.new.outside in
    let t = state c.take_fit.new.self in
    let advances = answered_fit fields to c.args.what.now s t around after c.take_fit.result c.take_fit.ensures.nothing_stored (sym c.is_fit.ensures ∙ c.if-is_fit.true) c.take_fit.ensures.fits in
    has_advanced fields to c.args.what.now s t around after c.take_fit.result advances c.requires.range c.requires.ready.invariant c.requires.ready.limits
    (fit_left fields.may_size s t _ _ c.take_fit.result c.take_fit.ensures.fits) c.take_fit.ensures.nothing_stored.counts

pub returns-then-is_fit-clause-ready : goal.returns-then-is_fit-clause-ready
returns-then-is_fit-clause-ready g c = λ none.
    let fields = known g.F.Fn c.args.terms.now.fields.now g.G.Fn c.args.terms.now.sizing.now in
    let to = target_of c.args.terms.now.to in
    let around = g.O.Outside.around c.args.outside.now in
    let state = state_in g.S.Surface.mesh g.S.Surface.kept in
    let s = state c.args.self.now in
    let after = g.O.Outside.around c.take_fit.new.outside in
    let t = state c.take_fit.new.self in
    let advances = answered_fit fields to c.args.what.now s t around after c.take_fit.result c.take_fit.ensures.nothing_stored (sym c.is_fit.ensures ∙ c.if-is_fit.true) c.take_fit.ensures.fits in
    let left = leaves fields to c.args.what.now s t (holds_of around) (holds_of after) c.take_fit.result none advances c.requires.range c.requires.ready.invariant c.requires.ready.limits in
    record { invariant = left.invariant; marks = c.take_fit.ensures.marks; limits = left.limits }

pub returns-then-is_fit-clause-marks : goal.returns-then-is_fit-clause-marks
returns-then-is_fit-clause-marks g c = c.take_fit.ensures.marks

pub returns-then-is_fit-clause-begins : goal.returns-then-is_fit-clause-begins
returns-then-is_fit-clause-begins g c =
    begins_fit c.args.what.now c.args.self.now.run.groups (g.S.Surface.kept c.take_fit.new.self.mesh) (g.S.Surface.kept c.args.self.now.mesh) (sym c.is_fit.ensures ∙ c.if-is_fit.true) c.take_fit.ensures.begins
