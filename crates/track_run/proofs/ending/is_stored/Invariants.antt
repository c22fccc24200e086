use Rattle.std.proofs.Common.{◌≡◌, drop}
use Rattle.track_run.specs.Ending.{stored_after_all, is_stored}
use Rattle.track_run.proofs.ending.is_stored.Given as goal

-- what comes of those to come is what comes of all
abbrev pub invariant-loop-placed : goal.invariant-loop-placed
invariant-loop-placed l = stored_after_all l.stored (drop l.placed-index l.steps) ≡ is_stored l.steps
