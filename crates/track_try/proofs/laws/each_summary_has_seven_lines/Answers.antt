use Rattle.track_try.proofs.Seven.{seven_lines}
use Rattle.track_try.proofs.laws.each_summary_has_seven_lines.Goals as goal

pub returns : goal.returns
returns c = seven_lines
