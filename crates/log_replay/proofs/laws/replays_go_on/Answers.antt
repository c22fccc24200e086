use Rattle.log_replay.proofs.Replaying.{after-append}
use Rattle.log_replay.proofs.laws.replays_go_on.Goals as goal

pub returns : goal.returns
returns c = after-append
