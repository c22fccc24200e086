use Rattle.std.proofs.Common.{rules}
use Rattle.track_held.proofs.Numbers.{is_point_in}
use Rattle.track_held.proofs.new_tracker.point_of.Goals as goal

pub returns : goal.returns
returns c = is_point_in c.args.p _ (search rules) (search rules) (search rules)
