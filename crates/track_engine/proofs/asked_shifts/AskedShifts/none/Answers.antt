use Rattle.std.proofs.Common.{sym, subst}
use Rattle.track_engine.proofs.AskedLists.{Rises, none_rises}
use Rattle.track_engine.proofs.asked_shifts.AskedShifts.none.Goals as goal

pub invariant_of-result : goal.invariant_of-result
invariant_of-result c = subst Rises (sym c.new.ensures.items) none_rises
