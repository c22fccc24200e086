use Rattle.edit_pinch.proofs.FanPoint.{position_of-fan_point}
use Rattle.edit_pinch.proofs.PinchDone.{pinch_stays_sound, pinch_stays_closed, pinch_stays_clear, pinch_motion_is_clear, pinch_always_makes}
use Rattle.edit_pinch.proofs.laws.pinches_keep_the_mesh.Goals as goal

pub returns : goal.returns
returns c = record { kind = pinch_always_makes; sound = pinch_stays_sound; closed = pinch_stays_closed; clear = pinch_stays_clear; motion = pinch_motion_is_clear; shifted = position_of-fan_point }
