use Rattle.std.proofs.Common.{◌≡◌}
use Rattle.track_log.proofs.output.print_pair.Goals as goal

pub returns : goal.returns
returns c =
    let view = c.pair.view_is in
    let first = c.from-2.ensures in
    let second = c.from-3.ensures in
    let third = c.from-4.ensures in
    let a : c.from-2.result ≡ c.args.pair.a = cc in
    let b : c.from-3.result ≡ c.args.pair.b = cc in
    let face : c.from-4.result ≡ c.args.pair.face = cc in
    record { ok = rw (c.from.ensures, a, b, face) at c.put_line.ensures.ok }
