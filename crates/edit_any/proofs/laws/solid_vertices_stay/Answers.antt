use Rattle.edit_any.proofs.SolidVertices.{asked_stays}
use Rattle.edit_any.proofs.laws.solid_vertices_stay.Goals as goal

pub returns : goal.returns
returns c = asked_stays
