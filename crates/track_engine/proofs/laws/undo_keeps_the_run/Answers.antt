use Rattle.track_engine.proofs.Again.{undo_again}
use Rattle.track_engine.proofs.Keeping.{undo_run}
use Rattle.track_engine.proofs.laws.undo_keeps_the_run.Goals as goal

pub returns : goal.returns
returns c = record { keeps = undo_run; again = undo_again }
