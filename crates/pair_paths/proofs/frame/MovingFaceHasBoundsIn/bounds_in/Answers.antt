use Rattle.pair_paths.proofs.Widened.{widened}
use Rattle.pair_paths.proofs.frame.MovingFaceHasBoundsIn.bounds_in.Goals as goal

pub returns : goal.returns
returns c = record {
  c = widened _ _ _ c.united.ensures.first (widened _ _ _ c.united-two.ensures.first c.bounds_in.ensures);
  d = widened _ _ _ c.united.ensures.first (widened _ _ _ c.united-two.ensures.second c.bounds_in-2.ensures);
  e = widened _ _ _ c.united.ensures.second c.bounds_in-3.ensures;
}
