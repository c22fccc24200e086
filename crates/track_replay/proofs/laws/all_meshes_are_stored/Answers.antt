use Rattle.track_replay.proofs.WantedLines.{each_wanted}
use Rattle.track_replay.proofs.AllStored.{all_stored}
use Rattle.track_replay.proofs.laws.all_meshes_are_stored.Goals as goal

pub returns-clause-lines : goal.returns-clause-lines
returns-clause-lines c = each_wanted

pub returns-clause-desk : goal.returns-clause-desk
returns-clause-desk c = all_stored
