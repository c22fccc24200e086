use Rattle.track_engine.proofs.NoFields.{fewer_answers}
use Rattle.track_engine.proofs.laws.fewer_answers_give_a_first_part.Goals as goal

pub returns : goal.returns
returns c = fewer_answers
