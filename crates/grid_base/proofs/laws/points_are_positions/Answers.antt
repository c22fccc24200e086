use Rattle.grid_base.proofs.PointLaws.{point_at-position_of, position_of-point_at}
use Rattle.grid_base.proofs.laws.points_are_positions.Goals as goal

pub returns : goal.returns
returns c = record { of_point = point_at-position_of; within = position_of-point_at }
