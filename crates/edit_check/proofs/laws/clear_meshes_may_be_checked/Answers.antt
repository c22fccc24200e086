use Rattle.edit_check.proofs.Premise.{clear_mesh_is, all_new_is, agreeing_is}
use Rattle.edit_check.proofs.laws.clear_meshes_may_be_checked.Goals as goal

pub returns : goal.returns
returns c = record { itself = clear_mesh_is; all_new = all_new_is; changed = agreeing_is }
