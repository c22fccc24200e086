use Rattle.grid_base.proofs.MeetingLaws.{Meets-multiple, Meets-unmultiple}
use Rattle.grid_base.proofs.laws.multiples_meet_alike.Goals as goal

pub returns : goal.returns
returns c = λ n f some. (Meets-unmultiple n f some, Meets-multiple n f)
