use Rattle.edit_base.proofs.Beside.{beside_of}
use Rattle.edit_base.proofs.laws.edges_have_two_faces.Goals as goal

pub returns : goal.returns
returns c = beside_of
