use Rattle.edit_split.proofs.SplitDone.{split_stays_sound, split_stays_closed, split_stays_clear, split_motion_is_clear, split_always_makes}
use Rattle.edit_split.proofs.laws.splits_keep_the_mesh.Goals as goal

pub returns : goal.returns
returns c = record { kind = split_always_makes; sound = split_stays_sound; closed = split_stays_closed; clear = split_stays_clear; motion = split_motion_is_clear }
