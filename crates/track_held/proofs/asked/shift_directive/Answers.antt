use Rattle.std.proofs.Common.{arith}
use Rattle.track_held.proofs.Numbers.{is_asking}
use Rattle.track_held.proofs.asked.shift_directive.Goals as goal

pub returns : goal.returns
returns c = (record { shift = c.in_ok-by.ensures.0; vertex = (omega arith, omega arith) }, is_asking c.args.row.now c.in_ok-by.by c.in_ok-by.ensures.1)
