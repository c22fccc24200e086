use Rattle.run_laws.proofs.EdgeAnswers.{split_in_range, flip_in_range, collapse_in_range}
use Rattle.run_laws.proofs.ZipAnswers.{zip_in_range}
use Rattle.run_laws.proofs.PinchAnswers.{pinch_in_range}
use Rattle.run_laws.proofs.AskedAnswers.{answer_in_range}
use Rattle.run_laws.proofs.laws.answers_are_in_range.Goals as goal

pub returns : goal.returns
returns c = record { split = split_in_range; flip = flip_in_range; collapse = collapse_in_range; zip = zip_in_range; pinch = pinch_in_range; any = answer_in_range }
