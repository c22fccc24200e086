use Rattle.std.proofs.Common.{map}
use Rattle.std.specs.Prelude.{decimal, codes}
use Rattle.log_text.proofs.Spaced.{line_closed}
use Rattle.log_text.proofs.fields.print_block.Goals as goal

pub returns-clause-ok : goal.returns-clause-ok
returns-clause-ok c = rw (c.in_ok-push.ensures.items, c.in_ok-put_ids.ensures.ok, c.in_ok-extend_from_slice.ensures.items, c.as_slice.ensures) (line_closed c.args.into.now.items (codes "block") (map decimal c.args.ids.now))
