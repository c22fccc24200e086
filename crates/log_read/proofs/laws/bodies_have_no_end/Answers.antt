use Rattle.log_read.proofs.LogLaws.{bodies_have_no_end_lem}
use Rattle.log_read.proofs.laws.bodies_have_no_end.Goals as goal

pub returns : goal.returns
returns c = bodies_have_no_end_lem
