use Rattle.line_text.proofs.Fronts.{number_takes}
use Rattle.line_text.proofs.word_values.number_at.Goals as goal

pub returns-in-Some-clause-value : goal.returns-in-Some-clause-value
returns-in-Some-clause-value c = number_takes c.args.low c.args.high _ _ _ _ c.in-Some.ensures.taken c.number_in.ensures.value
