use Rattle.track_engine.specs.Answered.{known}
use Rattle.log_fits.proofs.Measured.{runs_are_measured}
use Rattle.log_fits.proofs.laws.logs_of_runs_are_measured.Goals as goal

pub returns : goal.returns
returns g c = λ fields sizing. runs_are_measured (known g.F.Fn fields g.G.Fn sizing)
