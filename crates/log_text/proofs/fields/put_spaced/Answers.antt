use Rattle.line_text.specs.WrittenLines.{word_of}
use Rattle.log_text.proofs.Spaced.{Spacing-first, Spacing-word, map_drop}
use Rattle.log_text.proofs.fields.put_spaced.Goals as goal

pub loop-field-init : goal.loop-field-init
loop-field-init c = Spacing-first _ _

pub loop-field-preserved : goal.loop-field-preserved
loop-field-preserved c = Spacing-word _ _ _ _ _ _ _ c.loop-field.invariant (map_drop word_of c.args.fields.now c.loop-field.field-index _ c.loop-field-test.true) c.in_ok-put_next.ensures.ok
