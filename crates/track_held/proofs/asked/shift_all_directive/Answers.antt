use Rattle.track_held.proofs.Numbers.{is_asking_all}
use Rattle.track_held.proofs.asked.shift_all_directive.Goals as goal

pub returns : goal.returns
returns c = (c.in_ok-by.ensures.0, is_asking_all c.args.row.now c.in_ok-by.by c.in_ok-by.ensures.1)
