use Rattle.edit_pinch.proofs.PinchPremise.{pinch_changed}
use Rattle.edit_pinch.proofs.laws.pinched_meshes_agree.Goals as goal

pub returns : goal.returns
returns c = pinch_changed
