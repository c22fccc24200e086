use Rattle.run_laws.proofs.PassLines.{candidates_in_range, pass_in_range, fit_in_range}
use Rattle.run_laws.proofs.laws.passes_are_in_range.Goals as goal

pub returns : goal.returns
returns c = record { candidates = candidates_in_range; lines = pass_in_range; fits = fit_in_range }
