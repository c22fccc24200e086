use Rattle.std.proofs.Common.{sym, ◌∙◌}
use Rattle.step_text.proofs.Taken.{shift_from_four}
use Rattle.step_text.proofs.parser.shift.Goals as goal

pub returns-in-Some-whole_shift : goal.returns-in-Some-whole_shift
returns-in-Some-whole_shift c = shift_from_four c.in-Some.who.now _ _ c.in-Some-whole_shift.one c.in-Some.ensures.steps (sym c.is_word.ensures ∙ c.if-is_word.false) c.in-Some-whole_shift.ensures.four c.in-Some-whole_shift.ensures.value
