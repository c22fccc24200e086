use Rattle.std.proofs.Common.{drop, map}
use Rattle.std.specs.Prelude.{decimal}
use Rattle.log_text.proofs.Spaced.{Spacing}
use Rattle.log_text.proofs.fields.put_ids.Given as goal

abbrev pub invariant-loop-v : goal.invariant-loop-v
invariant-loop-v l = Spacing l.initial.into.items (map decimal l.ids) (map decimal (drop l.v-index l.ids)) l.into.items
