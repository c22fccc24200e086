use Rattle.track_engine.specs.Answered.{known}
use Rattle.log_fits.proofs.SameFiles.{jobs_of_the_same_files_have_one_log}
use Rattle.log_fits.proofs.laws.jobs_of_the_same_files_have_one_log.Goals as goal

pub returns : goal.returns
returns g c = λ fields sizing. jobs_of_the_same_files_have_one_log (known g.F.Fn fields g.G.Fn sizing)
