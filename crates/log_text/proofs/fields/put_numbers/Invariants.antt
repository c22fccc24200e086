use Rattle.std.proofs.Common.{drop, map}
use Rattle.std.specs.Prelude.{decimal}
use Rattle.log_text.proofs.Spaced.{Spacing}
use Rattle.log_text.proofs.fields.put_numbers.Given as goal

abbrev pub invariant-loop-n : goal.invariant-loop-n
invariant-loop-n l = Spacing l.initial.into.items (map decimal l.numbers) (map decimal (drop l.n-index l.numbers)) l.into.items
