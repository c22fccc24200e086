use Rattle.track_held.proofs.Alone.{told_by}
use Rattle.track_held.proofs.held.tell.Goals as goal

pub returns-clause-tells : goal.returns-clause-tells
returns-clause-tells g c = λ asks. told_by asks c.advance.ensures.does
