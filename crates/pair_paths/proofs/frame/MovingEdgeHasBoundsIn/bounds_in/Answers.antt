use Rattle.pair_paths.proofs.Widened.{widened}
use Rattle.pair_paths.proofs.frame.MovingEdgeHasBoundsIn.bounds_in.Goals as goal

pub returns : goal.returns
returns c = record { first = widened _ _ _ c.united.ensures.first c.bounds_in-first.ensures; second = widened _ _ _ c.united.ensures.second c.bounds_in.ensures }
