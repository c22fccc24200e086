use Rattle.pair_paths.proofs.Apart.{never_meet, passes_apart}
use Rattle.pair_paths.proofs.laws.boxes_apart_keep_apart.Goals as goal

pub returns : goal.returns
returns c = record { apart = never_meet; passes = passes_apart }
