use Rattle.mesh_journal.specs.Journal.{mesh_in}
use Rattle.track_input.specs.Named.{log_names}
use Rattle.track_prove.proofs.Whole.{files_refused, files_proved}
use Rattle.track_prove.proofs.prove_command.prove_files.Goals as goal

pub returns-in-No-clause-proves : goal.returns-in-No-clause-proves
returns-in-No-clause-proves g c = files_refused (g.O.Outside.around c.args.outside.now).world.holds.files (log_names c.args.files) c.in_ok-why.field-0 c.in-No.why c.in_ok-why.ensures.prepares c.in-No.is
