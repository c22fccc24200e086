use Rattle.std.proofs.Common.{◌++◌}
use Rattle.std.specs.Prelude.{codes}
use Rattle.log_text.specs.Lines.{asked_words, reason_words}
use Rattle.log_text.proofs.Spaced.{line_closed}
use Rattle.log_text.proofs.edit_printer.print_no.Goals as goal

pub returns-clause-ok : goal.returns-clause-ok
returns-clause-ok c = rw (c.in_ok-push.ensures.items, c.in_ok-put_refused.ensures.ok, c.in_ok-extend_from_slice.ensures.items) (line_closed c.args.into.now.items (codes "no") (asked_words c.args.what ++ reason_words c.args.why))
