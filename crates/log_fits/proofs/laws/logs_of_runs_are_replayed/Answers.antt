use Rattle.track_engine.specs.Answered.{known}
use Rattle.log_fits.proofs.Replayed.{runs_are_replayed, meshes_are_stored_again}
use Rattle.log_fits.proofs.laws.logs_of_runs_are_replayed.Goals as goal

pub returns : goal.returns
returns g c = record {
  replayed = λ fields sizing. runs_are_replayed (known g.F.Fn fields g.G.Fn sizing);
  meshes = λ fields sizing. meshes_are_stored_again (known g.F.Fn fields g.G.Fn sizing);
}
