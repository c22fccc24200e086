use Rattle.edit_collapse.proofs.SolidEnds.{solid_ends_stay}
use Rattle.edit_collapse.proofs.laws.solid_ends_stay.Goals as goal

pub returns : goal.returns
returns c = solid_ends_stay
