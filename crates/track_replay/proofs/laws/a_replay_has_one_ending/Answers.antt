use Rattle.track_log.specs.Taking.{FitsTested}
use Rattle.track_log.proofs.Endings.{one_ending}
use Rattle.track_replay.proofs.Ended.{an_ending}
use Rattle.track_replay.proofs.laws.a_replay_has_one_ending.Goals as goal

pub returns-clause-one : goal.returns-clause-one
returns-clause-one c = one_ending FitsTested

pub returns-clause-some : goal.returns-clause-some
returns-clause-some c = an_ending
