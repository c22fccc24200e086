use Rattle.grid_decided.specs.Decided.{meets_exactly-is_exact}
use Rattle.grid_decided.proofs.exact_test_is_exact.Goals as goal

pub returns : goal.returns
returns c f = meets_exactly-is_exact f
