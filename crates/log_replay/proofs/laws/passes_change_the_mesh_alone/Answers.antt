use Rattle.log_replay.proofs.Replaying.{lines_replay}
use Rattle.log_replay.proofs.laws.passes_change_the_mesh_alone.Goals as goal

pub returns : goal.returns
returns c = lines_replay
