use Rattle.std.proofs.Common.{refl}
use Rattle.clap.specs.Words.{app_of}
use Rattle.track_input.specs.Commands.{verify_app, verify_read}
use Rattle.track_input.proofs.Readings.{finds, finds_none, verify_by_rows}
use Rattle.track_input.proofs.command.verify_in.Goals as goal

pub returns-in-Some-clause-read : goal.returns-in-Some-clause-read
returns-in-Some-clause-read c =
    finds verify_read (app_of c.in_ok-verify_command.field-0) verify_app _ c.in_ok-verify_command.ensures c.in_ok-found.field-0 c.in_ok-found.ensures c.in-Some.found c.in-Some.is refl (verify_by_rows c.in-Some.found) _ c.verify_read.ensures.command

pub returns-in-None-clause-read : goal.returns-in-None-clause-read
returns-in-None-clause-read c =
    finds_none verify_read (app_of c.in_ok-verify_command.field-0) verify_app _ c.in_ok-verify_command.ensures c.in_ok-found.field-0 c.in_ok-found.ensures c.in-None.is
