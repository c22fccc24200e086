use Rattle.edit_collapse.proofs.CollapseDone.{collapse_motion_is_clear}
use Rattle.edit_collapse.proofs.laws.collapses_move_clear.Goals as goal

pub returns : goal.returns
returns c = collapse_motion_is_clear
