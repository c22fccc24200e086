use Rattle.std.proofs.Common.{◌≡◌, drop}
use Rattle.track_run.specs.Ending.{unsaved_after_all, is_unsaved}
use Rattle.track_run.proofs.ending.is_unsaved.Given as goal

-- what comes of those to come is what comes of all
abbrev pub invariant-loop-placed : goal.invariant-loop-placed
invariant-loop-placed l = unsaved_after_all l.unsaved (drop l.placed-index l.steps) ≡ is_unsaved l.steps
