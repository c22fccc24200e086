use Rattle.std.proofs.Common.{◌≡◌, ◌++◌, map, drop}
use Rattle.edit_pinch.specs.Parting.{cornered}
use Rattle.edit_pinch.proofs.vertex_fans.with_corners.Given as goal

-- the faces so far and those to come are all
abbrev pub invariant-loop-f : goal.invariant-loop-f
invariant-loop-f g l = let make = cornered (g.S.Surface.mesh l.mesh) in l.all ++ map make (drop l.f-index l.faces) ≡ map make l.faces
