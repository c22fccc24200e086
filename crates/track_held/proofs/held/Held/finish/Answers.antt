use Rattle.std.proofs.Common.{Bool, Err, sym, subst}
use Rattle.track_engine.specs.Engines.{state_in}
use Rattle.track_engine.specs.Parts.{Writes}
use Rattle.track_held.specs.Folding.{finish_effect}
use Rattle.track_held.specs.Held.{engine_in, log_in}
use Rattle.track_held.proofs.Grouped.{finish_kept, finish_undone}
use Rattle.track_held.proofs.held.Held.finish.Goals as goal

pub returns-in-Err-clause-tells : goal.returns-in-Err-clause-tells
returns-in-Err-clause-tells g c =
    let mesh = g.S.Surface.mesh in
    let kept = g.S.Surface.kept in
    let s = state_in mesh kept (engine_in c.args.self.now) in
    let t = state_in mesh kept (engine_in c.take.new.self) in
    let old = log_in c.args.self.now in
    let new = log_in c.take.new.self in
    let P : Bool → Type 0 = λ k. Writes (finish_effect k s.groups s) t old new (Err c.in-Err.stop) in
    subst P (sym c.if-keep.true) (finish_kept s.groups s t old new (Err c.in-Err.stop) (c.requires.kept c.if-keep.true) c.in-Err.ensures.tells)

pub returns-in-Err-undo-clause-tells : goal.returns-in-Err-undo-clause-tells
returns-in-Err-undo-clause-tells g c =
    let mesh = g.S.Surface.mesh in
    let kept = g.S.Surface.kept in
    let s = state_in mesh kept (engine_in c.args.self.now) in
    let t = state_in mesh kept (engine_in c.undo.new.self) in
    let old = log_in c.args.self.now in
    let new = log_in c.undo.new.self in
    let P : Bool → Type 0 = λ k. Writes (finish_effect k s.groups s) t old new (Err c.in-Err-undo.stop) in
    subst P (sym c.if-keep.false) (finish_undone s.groups s t old new (Err c.in-Err-undo.stop) c.in-Err-undo.ensures.tells)
