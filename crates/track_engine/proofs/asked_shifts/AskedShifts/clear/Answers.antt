use Rattle.std.proofs.Common.{sym, subst}
use Rattle.track_engine.proofs.AskedLists.{Rises, none_rises}
use Rattle.track_engine.proofs.asked_shifts.AskedShifts.clear.Goals as goal

pub invariant_of-self : goal.invariant_of-self
invariant_of-self c = subst Rises (sym c.clear.ensures.items) none_rises
