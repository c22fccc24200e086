use Rattle.std.proofs.Common.{drop}
use Rattle.proof_text.specs.Lines.{entries_lines}
use Rattle.proof_text.specs.Views.{entries_view}
use Rattle.proof_text.proofs.Putting.{LinesLeft}
use Rattle.proof_text.proofs.printer.put_entries.Given as goal

abbrev pub invariant-loop-entry : goal.invariant-loop-entry
invariant-loop-entry l = LinesLeft l.initial.into.items (entries_lines (entries_view l.entries)) (entries_lines (entries_view (drop l.entry-index l.entries))) l.into.items
