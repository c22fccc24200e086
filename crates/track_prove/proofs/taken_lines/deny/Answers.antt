use Rattle.track_prove.proofs.Lines.{may_be_tried}
use Rattle.track_prove.proofs.taken_lines.deny.Goals as goal

pub take-requires-clause-tried : goal.take-requires-clause-tried
take-requires-clause-tried c = may_be_tried c.args.run.now c.args.line.now c.requires.valid
