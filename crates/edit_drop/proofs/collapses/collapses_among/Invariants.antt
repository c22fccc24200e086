use Rattle.std.proofs.Common.{◌≡◌, ◌++◌, drop}
use Rattle.edit_drop.specs.Drop.{collapses_among}
use Rattle.edit_drop.proofs.collapses.collapses_among.Given as goal

-- those so far and those to come are all
abbrev pub invariant-loop-v : goal.invariant-loop-v
invariant-loop-v g l =
    let m = g.S.Surface.mesh l.mesh in
    l.all ++ collapses_among m (drop l.v-index l.vs) ≡ collapses_among m l.vs
