use Rattle.std.proofs.Common.{◌≡◌, drop}
use Rattle.std.specs.List.{fold}
use Rattle.edit_pinch.specs.Rims.{with_corners, found_rim}
use Rattle.edit_pinch.proofs.copy_points.rim.Given as goal

-- with the corners of the faces that are left, they are all
abbrev pub invariant-loop-f : goal.invariant-loop-f
invariant-loop-f g l =
    let m = g.S.Surface.mesh l.mesh in
    fold (with_corners m l.v) l.found (drop l.f-index l.fan) ≡ found_rim m l.v l.fan
