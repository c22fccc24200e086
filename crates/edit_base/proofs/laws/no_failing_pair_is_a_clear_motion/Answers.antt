use Rattle.edit_base.proofs.Clear.{none_failing_is_clear}
use Rattle.edit_base.proofs.laws.no_failing_pair_is_a_clear_motion.Goals as goal

pub returns : goal.returns
returns c = none_failing_is_clear
