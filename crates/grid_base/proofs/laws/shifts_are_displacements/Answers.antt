use Rattle.grid_base.proofs.PointLaws.{shift_by-displacement_of, displacement_of-shift_by}
use Rattle.grid_base.proofs.laws.shifts_are_displacements.Goals as goal

pub returns : goal.returns
returns c = record { of_shift = shift_by-displacement_of; within = displacement_of-shift_by }
