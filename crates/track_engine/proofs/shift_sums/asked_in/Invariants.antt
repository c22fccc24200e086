use Rattle.std.proofs.Common.{◌≡◌, ◌++◌, map, drop}
use Rattle.track_engine.specs.State.{still_asked}
use Rattle.track_engine.proofs.shift_sums.asked_in.Given as goal

-- the shifts so far and those to come are all
abbrev pub invariant-loop-v : goal.invariant-loop-v
invariant-loop-v g l =
    let each = still_asked (g.S.Surface.mesh l.mesh) l.asked in
    l.shifts ++ map each (drop l.v-index l.v-items) ≡ map each l.v-items
