use Rattle.std.proofs.Common.{◌∷◌}
use Rattle.std.specs.Prelude.{codes}
use Rattle.log_text.specs.Lines.{places_words}
use Rattle.log_text.proofs.Spaced.{line_closed}
use Rattle.log_text.proofs.edit_printer.print_pinch.Goals as goal

pub returns-clause-ok : goal.returns-clause-ok
returns-clause-ok c = rw (c.in_ok-push.ensures.items, c.in_ok-put_fans.ensures.ok, c.in_ok-extend_from_slice.ensures.items, c.as_slice.ensures) (line_closed c.args.into.now.items (codes "pinch") (places_words (record { w = c.args.v; at = c.args.at } ∷ c.args.copies.now)))
