use Rattle.std.specs.Prelude.{decimal}
use Rattle.log_text.proofs.Spaced.{Spacing-first, Spacing-word, map_drop}
use Rattle.log_text.proofs.fields.put_numbers.Goals as goal

pub loop-n-init : goal.loop-n-init
loop-n-init c = Spacing-first _ _

pub loop-n-preserved : goal.loop-n-preserved
loop-n-preserved c = Spacing-word _ _ _ _ _ _ _ c.loop-n.invariant (map_drop decimal c.args.numbers.now c.loop-n.n-index 0 c.loop-n-test.true) (cc (c.in_ok-put_next.ensures.ok, c.from.ensures))
