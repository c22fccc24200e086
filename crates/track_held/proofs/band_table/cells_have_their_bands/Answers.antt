use Rattle.track_held.proofs.Tables.{in_cells}
use Rattle.track_held.proofs.band_table.cells_have_their_bands.Goals as goal

pub returns : goal.returns
returns c = in_cells
