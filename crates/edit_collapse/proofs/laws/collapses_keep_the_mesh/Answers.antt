use Rattle.edit_collapse.proofs.CollapseKeeps.{collapse_stays_sound, collapse_stays_closed, collapse_stays_clear}
use Rattle.edit_collapse.proofs.laws.collapses_keep_the_mesh.Goals as goal
use Rattle.edit_collapse.proofs.CollapseDone.{collapse_always_makes}

pub returns : goal.returns
returns c = record { kind = collapse_always_makes; sound = collapse_stays_sound; closed = collapse_stays_closed; clear = collapse_stays_clear }
