use Rattle.track_held.proofs.Tables.{at_ends}
use Rattle.track_held.proofs.band_table.ends_are_nearest.Goals as goal

pub returns : goal.returns
returns c = at_ends
