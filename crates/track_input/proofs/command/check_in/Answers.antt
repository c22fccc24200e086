use Rattle.std.proofs.Common.{refl}
use Rattle.clap.specs.Words.{app_of}
use Rattle.track_input.specs.Commands.{check_app, check_read}
use Rattle.track_input.proofs.Readings.{finds, finds_none, check_by_rows}
use Rattle.track_input.proofs.command.check_in.Goals as goal

pub returns-in-Some-clause-read : goal.returns-in-Some-clause-read
returns-in-Some-clause-read c =
    finds check_read (app_of c.in_ok-check_command.field-0) check_app _ c.in_ok-check_command.ensures c.in_ok-found.field-0 c.in_ok-found.ensures c.in-Some.found c.in-Some.is refl (check_by_rows c.in-Some.found) _ c.check_read.ensures.command

pub returns-in-None-clause-read : goal.returns-in-None-clause-read
returns-in-None-clause-read c =
    finds_none check_read (app_of c.in_ok-check_command.field-0) check_app _ c.in_ok-check_command.ensures c.in_ok-found.field-0 c.in_ok-found.ensures c.in-None.is
