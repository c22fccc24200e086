use Rattle.std.proofs.Common.{[], ◌∷◌}
use Rattle.log_text.specs.declared.LogLine.TheVariants.{Group as GroupLine}
use Rattle.track_engine.specs.Effects.{opened}
use Rattle.track_engine.specs.Engines.{state_in}
use Rattle.track_held.specs.Held.{engine_in, log_in}
use Rattle.track_held.proofs.Grouped.{not_refused, stops_at_first, stops_in_edits, group_done, stops_at_end}
use Rattle.track_held.proofs.held.Held.edits_as_one.Goals as goal

pub returns-in-Err-clause-tells : goal.returns-in-Err-clause-tells
returns-in-Err-clause-tells g c =
    let mesh = g.S.Surface.mesh in
    let kept = g.S.Surface.kept in
    let s = state_in mesh kept (engine_in c.args.self.now) in
    let s1 = state_in mesh kept (engine_in c.take.new.self) in
    stops_at_first c.args.asked.now c.args.v s s1 s1 (log_in c.args.self.now) (log_in c.take.new.self) c.in-Err.stop c.in-Err.ensures.tells

pub returns-in-Err-try_edits-clause-tells : goal.returns-in-Err-try_edits-clause-tells
returns-in-Err-try_edits-clause-tells g c =
    let mesh = g.S.Surface.mesh in
    let kept = g.S.Surface.kept in
    let s = state_in mesh kept (engine_in c.args.self.now) in
    let s1 = state_in mesh kept (engine_in c.take.new.self) in
    let s2 = state_in mesh kept (engine_in c.try_edits.new.self) in
    let t0 = log_in c.args.self.now in
    let t1 = log_in c.take.new.self in
    let t2 = log_in c.try_edits.new.self in
    let opens = not_refused (GroupLine ∷ []) (opened s) s1 t0 t1 c.in_default.field-0 c.in_default.ensures.tells in
    stops_in_edits c.args.asked.now c.args.v s s1 s2 s2 t0 t1 t2 t2 opens s2 c.in-Err-try_edits.stop c.in-Err-try_edits.ensures.tells

pub returns-in-Ok-finish-clause-tells : goal.returns-in-Ok-finish-clause-tells
returns-in-Ok-finish-clause-tells g c =
    let mesh = g.S.Surface.mesh in
    let kept = g.S.Surface.kept in
    let s = state_in mesh kept (engine_in c.args.self.now) in
    let s1 = state_in mesh kept (engine_in c.take.new.self) in
    let s2 = state_in mesh kept (engine_in c.try_edits.new.self) in
    let s3 = state_in mesh kept (engine_in c.finish.new.self) in
    let t0 = log_in c.args.self.now in
    let t1 = log_in c.take.new.self in
    let t2 = log_in c.try_edits.new.self in
    let t3 = log_in c.finish.new.self in
    let opens = not_refused (GroupLine ∷ []) (opened s) s1 t0 t1 c.in_default.field-0 c.in_default.ensures.tells in
    group_done c.args.asked.now c.args.v s s1 s2 s3 t0 t1 t2 t3 opens c.in-Ok.ensures.tells c.in-Ok.tried.clean c.in-Ok.ensures.clean c.in-Ok-finish.ensures.tells

pub returns-in-Err-finish-clause-tells : goal.returns-in-Err-finish-clause-tells
returns-in-Err-finish-clause-tells g c =
    let mesh = g.S.Surface.mesh in
    let kept = g.S.Surface.kept in
    let s = state_in mesh kept (engine_in c.args.self.now) in
    let s1 = state_in mesh kept (engine_in c.take.new.self) in
    let s2 = state_in mesh kept (engine_in c.try_edits.new.self) in
    let s3 = state_in mesh kept (engine_in c.finish.new.self) in
    let t0 = log_in c.args.self.now in
    let t1 = log_in c.take.new.self in
    let t2 = log_in c.try_edits.new.self in
    let t3 = log_in c.finish.new.self in
    let opens = not_refused (GroupLine ∷ []) (opened s) s1 t0 t1 c.in_default.field-0 c.in_default.ensures.tells in
    stops_at_end c.args.asked.now c.args.v s s1 s2 s3 t0 t1 t2 t3 opens c.in-Ok.ensures.tells c.in-Ok.tried.clean c.in-Ok.ensures.clean s3 c.in-Err-finish.stop c.in-Err-finish.ensures.tells
