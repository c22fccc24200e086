use Rattle.proof_text.specs.Lines.{entry_lines}
use Rattle.proof_text.specs.Views.{entry_view}
use Rattle.proof_text.proofs.Putting.{LinesLeft-first, LinesLeft-more, LinesLeft-last, entries_drop}
use Rattle.proof_text.proofs.printer.put_entries.Goals as goal

pub loop-entry-init : goal.loop-entry-init
loop-entry-init c = LinesLeft-first _ _

pub loop-entry-preserved : goal.loop-entry-preserved
loop-entry-preserved c = LinesLeft-more _ _ (entry_lines (entry_view c.entry-item.result)) _ _ _ _ c.loop-entry.invariant (entries_drop c.args.entries.now c.loop-entry.entry-index c.entry-item.result c.entry-item.is c.loop-entry-test.true) c.in_ok-put_entry.ensures

pub returns : goal.returns
returns c = LinesLeft-last c.args.into.now.items c.args.entries.now c.loop-entry.entry-index c.loop-entry.into.items c.loop-entry-test.false c.loop-entry.invariant
