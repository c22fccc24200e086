use Rattle.mesh_shape.proofs.Lists.{sound-mesh_under}
use Rattle.mesh_shape.proofs.Faults.{no_fault, closed-mesh_under}
use Rattle.mesh_shape.proofs.laws.faultless_is_sound_and_closed.Goals as goal

pub returns : goal.returns
returns c = record { no_fault = no_fault; sound = sound-mesh_under; closed = closed-mesh_under }
