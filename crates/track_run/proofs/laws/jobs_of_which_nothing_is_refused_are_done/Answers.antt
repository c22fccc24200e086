use Rattle.track_engine.specs.Answered.{known}
use Rattle.track_run.proofs.Completeness.{lawful_jobs_are_done}
use Rattle.track_run.proofs.laws.jobs_of_which_nothing_is_refused_are_done.Goals as goal

pub returns : goal.returns
returns g c = λ fields sizing. lawful_jobs_are_done (known g.F.Fn fields g.G.Fn sizing)
