use Rattle.shape_laws.proofs.CollapseDone.{collapses_stay}
use Rattle.shape_laws.proofs.Done.{shape_stays, flips_stay}
use Rattle.shape_laws.proofs.laws.shapes_stay.Goals as goal

pub returns : goal.returns
returns c = record { edits = shape_stays; flips = flips_stay; collapses = collapses_stay }
