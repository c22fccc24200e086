use Rattle.run_laws.proofs.Effects.{effects_in_range, logs_in_range}
use Rattle.run_laws.proofs.laws.directives_are_in_range.Goals as goal

pub returns : goal.returns
returns c = record { effects = effects_in_range; logs = logs_in_range }
