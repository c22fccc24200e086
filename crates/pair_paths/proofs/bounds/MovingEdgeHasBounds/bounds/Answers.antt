use Rattle.pair_paths.proofs.Widened.{widened}
use Rattle.pair_paths.proofs.bounds.MovingEdgeHasBounds.bounds.Goals as goal

pub returns : goal.returns
returns c = record { first = widened _ _ _ c.united.ensures.first c.bounds.ensures; second = widened _ _ _ c.united.ensures.second c.bounds-2.ensures }
