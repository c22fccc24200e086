use Rattle.track_engine.specs.Answered.{known}
use Rattle.log_fits.proofs.Logs.{runs_have_logs}
use Rattle.log_fits.proofs.laws.runs_have_logs.Goals as goal

pub returns : goal.returns
returns g c = λ fields sizing. runs_have_logs (known g.F.Fn fields g.G.Fn sizing)
