use Rattle.track_engine.specs.Answered.{known}
use Rattle.log_fits.proofs.Proved.{proofs_are_verified}
use Rattle.log_fits.proofs.laws.proofs_of_runs_are_verified.Goals as goal

pub returns : goal.returns
returns g c = λ fields sizing. proofs_are_verified (known g.F.Fn fields g.G.Fn sizing)
