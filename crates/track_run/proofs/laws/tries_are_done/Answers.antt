use Rattle.track_run.proofs.Completeness.{tries_are_done}
use Rattle.track_run.proofs.laws.tries_are_done.Goals as goal

pub returns : goal.returns
returns c = tries_are_done
