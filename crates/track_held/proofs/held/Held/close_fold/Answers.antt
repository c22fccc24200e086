use Rattle.std.proofs.Common.{◌≡◌, [], IfOk, refl, sym, subst}
use Rattle.outside_io.proofs.Written.{appended-nil}
use Rattle.track_engine.specs.Effects.{Effect}
use Rattle.track_engine.specs.Engines.{state_in}
use Rattle.track_engine.specs.Parts.{Writes}
use Rattle.track_held.specs.declared.given_edits.ToldAnswer.{ToldAnswer}
use Rattle.track_held.specs.Folding.{untold}
use Rattle.track_held.specs.Held.{engine_in, log_in}
use Rattle.track_held.proofs.FoldChosen.{fold_is_group, fold_tells_group, no_fold_is_nothing}
use Rattle.track_held.proofs.held.Held.close_fold.Goals as goal

pub returns-in-Ok-clause-tells : goal.returns-in-Ok-clause-tells
returns-in-Ok-clause-tells g c =
    let mesh = g.S.Surface.mesh in
    let kept = g.S.Surface.kept in
    let s = state_in mesh kept (engine_in c.args.self.now) in
    let t = state_in mesh kept (engine_in c.draw_together.new.self) in
    let P : Effect → Type 0 = λ effect. Writes effect t (log_in c.args.self.now) (log_in c.draw_together.new.self) (untold c.draw_together.result) in
    subst P (fold_is_group c.args.a c.args.b s c.in-Ok.e c.in-Ok.ensures.edge (c.in-Ok.ensures.fold refl)) c.draw_together.ensures.tells

pub returns-in-Ok-clause-told : goal.returns-in-Ok-clause-told
returns-in-Ok-clause-told g c =
    let s = state_in g.S.Surface.mesh g.S.Surface.kept (engine_in c.args.self.now) in
    let P : ToldAnswer → Type 0 = λ is. IfOk c.draw_together.result (λ told. told ≡ is) in
    subst P (fold_tells_group c.args.a c.args.b s c.in-Ok.e c.in-Ok.ensures.edge (c.in-Ok.ensures.fold refl)) c.draw_together.ensures.told

pub returns-in-Err-clause-tells : goal.returns-in-Err-clause-tells
returns-in-Err-clause-tells g c =
    let s = state_in g.S.Surface.mesh g.S.Surface.kept (engine_in c.args.self.now) in
    ([], no_fold_is_nothing c.args.a c.args.b s c.in-Err.why c.in-Err.ensures.why, sym (appended-nil (log_in c.args.self.now)))
