use Rattle.track_measure.proofs.NewIds.{vertices_change_none, faces_change_none}
use Rattle.track_measure.proofs.laws.new_ids_change_no_measure.Goals as goal

pub returns-clause-vertices : goal.returns-clause-vertices
returns-clause-vertices c = vertices_change_none

pub returns-clause-faces : goal.returns-clause-faces
returns-clause-faces c = faces_change_none
