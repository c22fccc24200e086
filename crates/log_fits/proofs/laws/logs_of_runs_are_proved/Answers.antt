use Rattle.track_engine.specs.Answered.{known}
use Rattle.log_fits.proofs.Proved.{runs_are_proved}
use Rattle.log_fits.proofs.laws.logs_of_runs_are_proved.Goals as goal

pub returns : goal.returns
returns g c = λ fields sizing. runs_are_proved (known g.F.Fn fields g.G.Fn sizing)
