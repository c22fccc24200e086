use Rattle.mesh_ids.proofs.Taken.{vertices_stay_valid, faces_stay_valid}
use Rattle.mesh_ids.proofs.laws.new_ids_stay_valid.Goals as goal

pub returns-clause-vertices : goal.returns-clause-vertices
returns-clause-vertices c = vertices_stay_valid

pub returns-clause-faces : goal.returns-clause-faces
returns-clause-faces c = faces_stay_valid
