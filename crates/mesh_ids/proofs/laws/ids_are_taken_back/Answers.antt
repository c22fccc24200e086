use Rattle.mesh_ids.proofs.TakenBack.{ids_are_taken_back_lem}
use Rattle.mesh_ids.proofs.laws.ids_are_taken_back.Goals as goal

pub returns : goal.returns
returns c = ids_are_taken_back_lem
