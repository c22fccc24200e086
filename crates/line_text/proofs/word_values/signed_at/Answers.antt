use Rattle.line_text.proofs.Fronts.{signed_takes}
use Rattle.line_text.proofs.word_values.signed_at.Goals as goal

pub returns-in-Some-clause-value : goal.returns-in-Some-clause-value
returns-in-Some-clause-value c = signed_takes c.args.most _ _ _ _ c.in-Some.ensures.taken c.signed_in.ensures.value
