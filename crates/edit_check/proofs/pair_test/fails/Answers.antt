use Rattle.std.proofs.Common.{sym}
use Rattle.edit_check.proofs.Boxes.{does_apart}
use Rattle.edit_check.proofs.pair_test.fails.Goals as goal

pub returns-then-not-overlaps : goal.returns-then-not-overlaps
returns-then-not-overlaps c =
    let e = c.args.e.now in
    let f = c.args.f.now in
    sym (does_apart c.args.depth e.edge f.face e.bounds f.bounds e.held f.held (sym c.if-not-overlaps.ensures) c.args.touch c.args.together.now)
