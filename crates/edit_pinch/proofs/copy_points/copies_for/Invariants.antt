use Rattle.std.proofs.Common.{◌≡◌, ◌++◌, ◌+◌, drop, map}
use Rattle.std.specs.List.{enumerate_from}
use Rattle.edit_pinch.specs.Pinch.{fan_point}
use Rattle.edit_pinch.proofs.copy_points.copies_for.Given as goal

-- those so far, and those of the fans that are left, are all
abbrev pub invariant-loop-fan : goal.invariant-loop-fan
invariant-loop-fan g l =
    let m = g.S.Surface.mesh l.mesh in
    (l.w ≡ m.next_vertex + l.fan-index)
    × (l.made ++ map (λ e. record { w = e.0; at = fan_point m l.v e.1 }) (enumerate_from l.w (drop l.fan-index l.fans))
    ≡ map (λ e. record { w = e.0; at = fan_point m l.v e.1 }) (enumerate_from m.next_vertex l.fans))
