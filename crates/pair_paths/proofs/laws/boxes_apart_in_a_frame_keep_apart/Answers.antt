use Rattle.pair_paths.proofs.Apart.{passes_apart_seen}
use Rattle.pair_paths.proofs.laws.boxes_apart_in_a_frame_keep_apart.Goals as goal

pub returns : goal.returns
returns c = passes_apart_seen
