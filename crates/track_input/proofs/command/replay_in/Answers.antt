use Rattle.std.proofs.Common.{refl}
use Rattle.clap.specs.Words.{app_of}
use Rattle.track_input.specs.Commands.{replay_app, replay_read}
use Rattle.track_input.proofs.Readings.{finds, finds_none, replay_by_rows}
use Rattle.track_input.proofs.command.replay_in.Goals as goal

pub returns-in-Some-clause-read : goal.returns-in-Some-clause-read
returns-in-Some-clause-read c =
    finds replay_read (app_of c.in_ok-replay_command.field-0) replay_app _ c.in_ok-replay_command.ensures c.in_ok-found.field-0 c.in_ok-found.ensures c.in-Some.found c.in-Some.is refl (replay_by_rows c.in-Some.found) _ c.replay_read.ensures.command

pub returns-in-None-clause-read : goal.returns-in-None-clause-read
returns-in-None-clause-read c =
    finds_none replay_read (app_of c.in_ok-replay_command.field-0) replay_app _ c.in_ok-replay_command.ensures c.in_ok-found.field-0 c.in_ok-found.ensures c.in-None.is
