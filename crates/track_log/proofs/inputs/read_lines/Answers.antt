use Rattle.track_log.proofs.PrepareLemmas.{reads_lines}
use Rattle.track_log.proofs.inputs.read_lines.Goals as goal

pub returns-in-Ok : goal.returns-in-Ok
returns-in-Ok c = reads_lines c.args.scale c.args.lists c.args.log.items c.in-Ok.lines c.requires.good c.requires.log_length c.in-Ok.ensures
