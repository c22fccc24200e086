use Rattle.std.specs.Prelude.{decimal}
use Rattle.log_text.proofs.Spaced.{Spacing-first, Spacing-word, map_drop}
use Rattle.log_text.proofs.fields.put_ids.Goals as goal

pub loop-v-init : goal.loop-v-init
loop-v-init c = Spacing-first _ _

pub loop-v-preserved : goal.loop-v-preserved
loop-v-preserved c = Spacing-word _ _ _ _ _ _ _ c.loop-v.invariant (map_drop decimal c.args.ids.now c.loop-v.v-index c.v-item.result c.loop-v-test.true) (cc (c.in_ok-put_next.ensures.ok, c.from.ensures, c.v.view_is, c.v-item.is))
