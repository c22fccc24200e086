use Rattle.edit_collapse.proofs.Cancelled.{cancels_all}
use Rattle.edit_collapse.proofs.laws.third_acts_leave_no_opposite.Goals as goal

pub returns : goal.returns
returns c = cancels_all
