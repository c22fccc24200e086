use Rattle.track_held.proofs.FoldRanges.{folds_in_range}
use Rattle.track_held.proofs.folds.folds_ask_in_range.Goals as goal

pub returns : goal.returns
returns c = folds_in_range
