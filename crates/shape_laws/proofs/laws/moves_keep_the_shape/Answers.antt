use Rattle.shape_laws.proofs.Moved.{moves_keep, mark_keeps}
use Rattle.shape_laws.proofs.laws.moves_keep_the_shape.Goals as goal

pub returns : goal.returns
returns c = record { moves = moves_keep; marks = mark_keeps }
