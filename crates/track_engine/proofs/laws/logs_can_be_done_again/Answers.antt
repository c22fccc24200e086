use Rattle.track_engine.proofs.Again.{told_again}
use Rattle.track_engine.proofs.laws.logs_can_be_done_again.Goals as goal

pub returns : goal.returns
returns c = told_again
