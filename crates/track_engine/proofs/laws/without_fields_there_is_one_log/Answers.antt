use Rattle.track_engine.specs.Answered.{known}
use Rattle.track_engine.proofs.NoFields.{one_log, stopped_log}
use Rattle.track_engine.proofs.laws.without_fields_there_is_one_log.Goals as goal

pub returns : goal.returns
returns g c = record { whole = λ fields sizing. one_log (known g.F.Fn fields g.G.Fn sizing); stopped = λ fields sizing. stopped_log (known g.F.Fn fields g.G.Fn sizing) }
