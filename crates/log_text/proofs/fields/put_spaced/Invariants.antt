use Rattle.std.proofs.Common.{drop, map}
use Rattle.line_text.specs.WrittenLines.{word_of}
use Rattle.log_text.proofs.Spaced.{Spacing}
use Rattle.log_text.proofs.fields.put_spaced.Given as goal

abbrev pub invariant-loop-field : goal.invariant-loop-field
invariant-loop-field l = Spacing l.initial.into.items (map word_of l.fields) (map word_of (drop l.field-index l.fields)) l.into.items
