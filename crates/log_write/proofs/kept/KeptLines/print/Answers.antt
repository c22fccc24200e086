use Rattle.std.proofs.Common.{rules}
use Rattle.log_write.proofs.Keeping.{printed_more}
use Rattle.log_write.proofs.kept.KeptLines.print.Goals as goal

pub invariant_of-self-in-loop-self-clause-first : goal.invariant_of-self-in-loop-self-clause-first
invariant_of-self-in-loop-self-clause-first c =
    let kept = c.loop-self.self in
    printed_more kept.lines.items kept.printed c.index.result.now kept.text.items c.print_line.new.into.items (search rules) c.index.ensures kept.first c.in_ok-print_line.ensures.ok
