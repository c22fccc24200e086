use Rattle.std.proofs.Common.{map}
use Rattle.std.specs.Prelude.{decimal}
use Rattle.log_text.proofs.Spaced.{line_closed_after}
use Rattle.log_text.proofs.fields.print_new_ids.Goals as goal

pub returns-clause-ok : goal.returns-clause-ok
returns-clause-ok c =
    rw (c.in_ok-push.ensures.items, c.in_ok-put_numbers.ensures.ok, c.in_ok-put_next.ensures.ok, c.in_ok-extend_from_slice.ensures.items, c.as_slice.ensures, c.from.ensures)
    (line_closed_after c.args.into.now.items c.args.word.now (decimal c.args.new.now.next) (map decimal c.args.new.now.ids))
