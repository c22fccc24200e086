use Rattle.pair_paths.proofs.Widened.{widened}
use Rattle.pair_paths.proofs.bounds.MovingFaceHasBounds.bounds.Goals as goal

pub returns : goal.returns
returns c = record {
  c = widened _ _ _ c.united.ensures.first (widened _ _ _ c.united-two.ensures.first c.bounds.ensures);
  d = widened _ _ _ c.united.ensures.first (widened _ _ _ c.united-two.ensures.second c.bounds-2.ensures);
  e = widened _ _ _ c.united.ensures.second c.bounds-3.ensures;
}
