use Rattle.std.proofs.Common.{sym, ◌∙◌}
use Rattle.log_read.proofs.LinesAhead.{checked_none, checked_last}
use Rattle.log_read.proofs.first_fault.check_last.Goals as goal

pub returns-then-is_empty : goal.returns-then-is_empty
returns-then-is_empty c lines = checked_none c.args.scale c.args.version c.args.last.now c.args.number (sym c.is_empty.ensures ∙ c.if-is_empty.true) lines

pub returns : goal.returns
returns c lines = checked_last c.args.scale c.args.version c.args.last.now c.args.number (sym c.is_empty.ensures ∙ c.if-is_empty.false) lines c.in_ok-read_line.field-0 c.in_ok-read_line.ensures
