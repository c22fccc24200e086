use Rattle.std.proofs.Common.{rules}
use Rattle.step_zones.proofs.totals.sum.Goals as goal

pub component_sum-requires-clause-a_fits : goal.component_sum-requires-clause-a_fits
component_sum-requires-clause-a_fits c = search rules

pub component_sum-requires-clause-b_fits : goal.component_sum-requires-clause-b_fits
component_sum-requires-clause-b_fits c = search rules

pub component_sum-requires-2-clause-a_fits : goal.component_sum-requires-2-clause-a_fits
component_sum-requires-2-clause-a_fits c = search rules

pub component_sum-requires-2-clause-b_fits : goal.component_sum-requires-2-clause-b_fits
component_sum-requires-2-clause-b_fits c = search rules

pub component_sum-requires-3-clause-a_fits : goal.component_sum-requires-3-clause-a_fits
component_sum-requires-3-clause-a_fits c = search rules

pub component_sum-requires-3-clause-b_fits : goal.component_sum-requires-3-clause-b_fits
component_sum-requires-3-clause-b_fits c = search rules

pub returns : goal.returns
returns c = search rules
