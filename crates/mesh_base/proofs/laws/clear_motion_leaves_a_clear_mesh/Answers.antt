use Rattle.mesh_base.proofs.Moves.{clear_after_moves}
use Rattle.mesh_base.proofs.laws.clear_motion_leaves_a_clear_mesh.Goals as goal

pub returns : goal.returns
returns c m moves names inside along = clear_after_moves m moves names.once inside along
