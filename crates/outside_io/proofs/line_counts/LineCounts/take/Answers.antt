-- The line goes on, and its first bytes are kept.
use Rattle.std.proofs.Common.{◌≢◌}
use Rattle.outside_io.specs.ToldLines.{LF, open_line}
use Rattle.outside_io.proofs.ToldLines.{ended-other, open-other, kept-more, kept-full}
use Rattle.outside_io.proofs.line_counts.LineCounts.take.Goals as goal

pub returns-then-self-lt-KEPT : goal.returns-then-self-lt-KEPT
returns-then-self-lt-KEPT c text are =
    let other : c.args.byte ≢ LF = c.if-byte-eq10.false in
    rw (ended-other text c.args.byte other, open-other text c.args.byte other) (are.0, are.1, are.2, are.3, kept-more (open_line text) c.args.self.now.front c.args.self.now.len c.args.byte c.args.self.now.sized c.if-self-lt-KEPT.true are.4)

pub returns-else-self-lt-KEPT : goal.returns-else-self-lt-KEPT
returns-else-self-lt-KEPT c text are =
    let other : c.args.byte ≢ LF = c.if-byte-eq10.false in
    rw (ended-other text c.args.byte other, open-other text c.args.byte other) (are.0, are.1, are.2, are.3, kept-full (open_line text) c.args.self.now.front c.args.self.now.len c.args.byte c.args.self.now.sized c.args.self.now.fits c.if-self-lt-KEPT.false are.4)
