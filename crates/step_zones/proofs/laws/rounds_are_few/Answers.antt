use Rattle.step_zones.proofs.Rounds.{fewer_each_round, few_rounds}
use Rattle.step_zones.proofs.laws.rounds_are_few.Goals as goal

pub returns-clause-fewer_blocks : goal.returns-clause-fewer_blocks
returns-clause-fewer_blocks c meets m asked depth round given = fewer_each_round meets m asked depth round given.exact given.sound given.clear given.named

pub returns-clause-few : goal.returns-clause-few
returns-clause-few c meets m asked depth round given = few_rounds meets m asked depth round given.exact given.sound given.clear given.named
