use Rattle.std.proofs.Common.{◌≡◌, drop}
use Rattle.std.specs.List.{list_any}
use Rattle.track_engine.specs.Shifting.{stirs}
use Rattle.track_engine.proofs.shift_sums.asks.Given as goal

-- what is sought is sought among those to come
abbrev pub invariant-loop-s : goal.invariant-loop-s
invariant-loop-s g l =
    let test = stirs (g.S.Surface.mesh l.mesh) in
    list_any test (drop l.s-index l.s-items) ≡ list_any test l.s-items
