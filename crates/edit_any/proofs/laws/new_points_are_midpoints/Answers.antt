use Rattle.edit_any.proofs.Midpoints.{mid_is, collapse_mid_is}
use Rattle.edit_any.proofs.laws.new_points_are_midpoints.Goals as goal

pub returns : goal.returns
returns c = record { split = λ m s. mid_is m s.a s.b; collapse = collapse_mid_is }
