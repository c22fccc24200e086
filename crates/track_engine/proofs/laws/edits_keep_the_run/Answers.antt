use Rattle.track_engine.proofs.Again.{edits_again}
use Rattle.track_engine.proofs.Keeping.{edits_run}
use Rattle.track_engine.proofs.laws.edits_keep_the_run.Goals as goal

pub returns : goal.returns
returns c = record { keeps = edits_run; again = edits_again }
