use Rattle.std.proofs.Common.{◌≡◌, List, [], Option, Some, None, Ok, IfOk, inl, sym, ap, subst, ◌∙◌}
use Rattle.edit_base.specs.declared.Asked.{Asked}
use Rattle.edit_drop.specs.Drop.{drop_collapses, drop_why}
use Rattle.outside_io.proofs.Written.{appended-nil}
use Rattle.track_engine.specs.State.{State}
use Rattle.track_engine.specs.Effects.{Effect, Proceeds}
use Rattle.track_engine.specs.Engines.{state_in}
use Rattle.track_engine.specs.Parts.{Writes}
use Rattle.track_held.specs.declared.given_edits.ToldAnswer.{ToldAnswer}
use Rattle.track_held.specs.Dropping.{drop_effect}
use Rattle.track_held.specs.Folding.{untold}
use Rattle.track_held.specs.Held.{engine_in, log_in}
use Rattle.track_held.proofs.Grouped.{Text}
use Rattle.track_held.proofs.Dropped.{asked_is_drop, asked_tells_drop, no_drop_is_nothing, no_drop_tells_why, gone_by, left_by}
use Rattle.track_held.proofs.held.Held.drop_component.Goals as goal

pub returns-in-Ok-None-clause-tells : goal.returns-in-Ok-None-clause-tells
returns-in-Ok-None-clause-tells g c =
    let mesh = g.S.Surface.mesh in
    let kept = g.S.Surface.kept in
    let v = c.args.v in
    let s = state_in mesh kept (engine_in c.args.self.now) in
    let now = state_in mesh kept (engine_in c.plan_drop.new.self) in
    let t = state_in mesh kept (engine_in c.edits_as_one.new.self) in
    let new = log_in c.edits_as_one.new.self in
    let none : drop_why s.set.depth s.mesh v ≡ None = (let e = c.in-Ok-None.ensures.why in let f = c.in-Ok-None.field-0-is in cc) in
    let found = c.as_slice.ensures ∙ c.in-Ok-None.ensures.asked c.in-Ok-None.field-0-is in
    let P : Effect → Type 0 = λ effect. Writes effect t (log_in c.plan_drop.new.self) new (untold c.edits_as_one.result) in
    let Q : Text → Type 0 = λ old. Writes (drop_effect v s) t old new (untold c.edits_as_one.result) in
    subst Q c.plan_drop.ensures.log (subst P (asked_is_drop v s c.as_slice.result.now now c.plan_drop.ensures.state found none) c.edits_as_one.ensures.tells)

pub returns-in-Ok-None-clause-told : goal.returns-in-Ok-None-clause-told
returns-in-Ok-None-clause-told g c =
    let mesh = g.S.Surface.mesh in
    let kept = g.S.Surface.kept in
    let v = c.args.v in
    let s = state_in mesh kept (engine_in c.args.self.now) in
    let now = state_in mesh kept (engine_in c.plan_drop.new.self) in
    let none : drop_why s.set.depth s.mesh v ≡ None = (let e = c.in-Ok-None.ensures.why in let f = c.in-Ok-None.field-0-is in cc) in
    let found = c.as_slice.ensures ∙ c.in-Ok-None.ensures.asked c.in-Ok-None.field-0-is in
    let P : ToldAnswer → Type 0 = λ is. IfOk c.edits_as_one.result (λ told. told ≡ is) in
    subst P (asked_tells_drop v s c.as_slice.result.now now c.plan_drop.ensures.state found none) c.edits_as_one.ensures.told

pub returns-in-Ok-None-clause-gone : goal.returns-in-Ok-None-clause-gone
returns-in-Ok-None-clause-gone g c =
    let mesh = g.S.Surface.mesh in
    let kept = g.S.Surface.kept in
    gone_by c.args.v (state_in mesh kept (engine_in c.args.self.now)) (state_in mesh kept (engine_in c.edits_as_one.new.self)) (log_in c.args.self.now) (log_in c.edits_as_one.new.self)
    c.edits_as_one.result (returns-in-Ok-None-clause-tells g c) (returns-in-Ok-None-clause-told g c)

pub returns-in-Ok-None-clause-left : goal.returns-in-Ok-None-clause-left
returns-in-Ok-None-clause-left g c =
    let mesh = g.S.Surface.mesh in
    let kept = g.S.Surface.kept in
    left_by c.args.v (state_in mesh kept (engine_in c.args.self.now)) (state_in mesh kept (engine_in c.edits_as_one.new.self)) (log_in c.args.self.now) (log_in c.edits_as_one.new.self)
    c.edits_as_one.result (returns-in-Ok-None-clause-tells g c) (returns-in-Ok-None-clause-told g c)

pub returns-in-Ok-Some-clause-tells : goal.returns-in-Ok-Some-clause-tells
returns-in-Ok-Some-clause-tells g c =
    let mesh = g.S.Surface.mesh in
    let kept = g.S.Surface.kept in
    let v = c.args.v in
    let s = state_in mesh kept (engine_in c.args.self.now) in
    let some : drop_why s.set.depth s.mesh v ≡ Some c.in-Ok-Some.why = (let e = c.in-Ok-Some.ensures.why in let f = c.in-Ok-Some.field-0-is in let a = c.in-Ok-Some.why-is in cc) in (
      [],
      sym (no_drop_is_nothing v s c.in-Ok-Some.why some) ∙ ap (λ (u : State). Proceeds [] u) (sym c.plan_drop.ensures.state),
      c.plan_drop.ensures.log ∙ sym (appended-nil (log_in c.args.self.now)),
    )

pub returns-in-Ok-Some-clause-told : goal.returns-in-Ok-Some-clause-told
returns-in-Ok-Some-clause-told g c =
    let mesh = g.S.Surface.mesh in
    let kept = g.S.Surface.kept in
    let v = c.args.v in
    let s = state_in mesh kept (engine_in c.args.self.now) in
    let some : drop_why s.set.depth s.mesh v ≡ Some c.in-Ok-Some.why = (let e = c.in-Ok-Some.ensures.why in let f = c.in-Ok-Some.field-0-is in let a = c.in-Ok-Some.why-is in cc) in
    c.why_told.ensures ∙ no_drop_tells_why v s c.in-Ok-Some.why some

pub returns-in-Ok-Some-clause-gone : goal.returns-in-Ok-Some-clause-gone
returns-in-Ok-Some-clause-gone g c =
    let mesh = g.S.Surface.mesh in
    let kept = g.S.Surface.kept in
    gone_by c.args.v (state_in mesh kept (engine_in c.args.self.now)) (state_in mesh kept (engine_in c.plan_drop.new.self)) (log_in c.args.self.now) (log_in c.plan_drop.new.self)
    (Ok c.why_told.result) (returns-in-Ok-Some-clause-tells g c) (returns-in-Ok-Some-clause-told g c)

pub returns-in-Ok-Some-clause-left : goal.returns-in-Ok-Some-clause-left
returns-in-Ok-Some-clause-left g c =
    let mesh = g.S.Surface.mesh in
    let kept = g.S.Surface.kept in
    left_by c.args.v (state_in mesh kept (engine_in c.args.self.now)) (state_in mesh kept (engine_in c.plan_drop.new.self)) (log_in c.args.self.now) (log_in c.plan_drop.new.self)
    (Ok c.why_told.result) (returns-in-Ok-Some-clause-tells g c) (returns-in-Ok-Some-clause-told g c)
