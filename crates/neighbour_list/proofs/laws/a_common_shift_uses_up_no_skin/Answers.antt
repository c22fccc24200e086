use Rattle.neighbour_list.proofs.Stays.{common_shift}
use Rattle.neighbour_list.proofs.laws.a_common_shift_uses_up_no_skin.Goals as goal

pub returns : goal.returns
returns c = common_shift
