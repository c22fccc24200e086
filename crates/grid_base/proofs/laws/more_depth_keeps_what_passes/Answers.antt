use Rattle.grid_base.proofs.Deeper.{separated_deeper, passes_deeper, opens_deeper, closes_deeper, passes_test_deeper, opens_test_deeper, closes_test_deeper}
use Rattle.grid_base.proofs.laws.more_depth_keeps_what_passes.Goals as goal

pub returns : goal.returns
returns c = record { separated = separated_deeper; passes = passes_deeper; opens = opens_deeper; closes = closes_deeper; passing_test = passes_test_deeper; opening_test = opens_test_deeper; closing_test = closes_test_deeper }
