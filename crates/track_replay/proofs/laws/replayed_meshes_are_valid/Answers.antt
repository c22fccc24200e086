use Rattle.track_replay.proofs.ValidMeshes.{all_valid}
use Rattle.track_replay.proofs.laws.replayed_meshes_are_valid.Goals as goal

pub returns : goal.returns
returns c = all_valid
