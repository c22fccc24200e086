use Rattle.edit_flip.proofs.FlipDone.{flip_stays_sound, flip_stays_closed, flip_stays_clear, flip_motion_is_clear, flip_always_makes}
use Rattle.edit_flip.proofs.laws.flips_keep_the_mesh.Goals as goal

pub returns : goal.returns
returns c = record { kind = flip_always_makes; sound = flip_stays_sound; closed = flip_stays_closed; clear = flip_stays_clear; motion = flip_motion_is_clear }
