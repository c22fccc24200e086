use Rattle.std.proofs.Common.{◌≡◌, ◌++◌, drop}
use Rattle.track_held.proofs.numbered_tracker.solids_of.Given as goal

-- the vertices so far and those to come are all
abbrev pub invariant-loop-v : goal.invariant-loop-v
invariant-loop-v l = l.solids ++ drop l.v-index l.given ≡ l.given
