use Rattle.std.proofs.Common.{refl}
use Rattle.step_zones.proofs.Moved.{in_two_blocks}
use Rattle.step_zones.proofs.laws.failing_pairs_lie_in_two_blocks.Goals as goal

pub returns-clause-names : goal.returns-clause-names
returns-clause-names c meets m by depth = refl

pub returns-clause-two : goal.returns-clause-two
returns-clause-two c meets m asked depth at given = in_two_blocks meets m asked depth at given.exact given.sound given.clear given.named
