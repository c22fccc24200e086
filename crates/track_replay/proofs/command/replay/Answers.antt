use Rattle.std.proofs.Common.{subst}
use Rattle.std.proofs.lemmas.Result.{err_from_is_err_and}
use Rattle.track_input.specs.Named.{replay_names}
use Rattle.track_log.specs.Preparing.{IsPrepared}
use Rattle.track_replay.proofs.Whole.{replays_stopped, replays_refused, replays_taken}
use Rattle.track_replay.proofs.command.replay.Goals as goal

pub returns-in_err-why-clause-headline : goal.returns-in_err-why-clause-headline
returns-in_err-why-clause-headline g c =
    let p = err_from_is_err_and c.from_residual.result c.from_residual.ensures.1 in
    rw (p.1, p.2) (replays_stopped (replay_names c.args.given) (g.O.Outside.around c.args.outside.now) (g.O.Outside.around c.prepare_log.new.outside) _ c.in_err-why.ensures.looks)

pub returns-in-No-clause-headline : goal.returns-in-No-clause-headline
returns-in-No-clause-headline g c =
    replays_refused (replay_names c.args.given) (g.O.Outside.around c.args.outside.now) (g.O.Outside.around c.prepare_log.new.outside) (g.O.Outside.around c.refuse.new.outside) _ c.in_ok-why.ensures.looks c.in_ok-why.field-0 c.in_ok-why.ensures.prepares c.refuse.result
    c.in-No.why c.in-No.is c.refuse.ensures.tells c.refuse.ensures.ending

pub replay_lines-requires-clause-valid : goal.replay_lines-requires-clause-valid
replay_lines-requires-clause-valid g c = (subst IsPrepared c.in-Yes.is c.in_ok-why.ensures.prepares.ready).0

pub replay_lines-requires-clause-few_lines : goal.replay_lines-requires-clause-few_lines
replay_lines-requires-clause-few_lines g c = (subst IsPrepared c.in-Yes.is c.in_ok-why.ensures.prepares.ready).1

pub returns-in-Yes-clause-headline : goal.returns-in-Yes-clause-headline
returns-in-Yes-clause-headline g c =
    let names = replay_names c.args.given in
    replays_taken names (g.O.Outside.around c.args.outside.now) (g.O.Outside.around c.prepare_log.new.outside) (g.O.Outside.around c.replay_lines.new.outside) _ c.in_ok-why.ensures.looks c.in_ok-why.field-0 c.in_ok-why.ensures.prepares c.replay_lines.result
    c.in-Yes.mesh c.in-Yes.lines c.in-Yes.is c.replay_lines.ensures
