use Rattle.cell_grid.proofs.Listed.{overlapping_rises, overlapping_has}
use Rattle.cell_grid.proofs.laws.overlapping_items_have_a_common_point.Goals as goal

pub returns : goal.returns
returns c = record { rising = overlapping_rises; items = overlapping_has }
