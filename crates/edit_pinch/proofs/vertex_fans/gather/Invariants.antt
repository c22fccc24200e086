use Rattle.std.proofs.Common.{◌≡◌, ◌+◌, ◌-◌, length, map}
use Rattle.edit_pinch.specs.Pinch.{share_second}
use Rattle.edit_pinch.specs.Parting.{cornered, face_ids}
use Rattle.edit_pinch.proofs.Growing.{IsGrown}
use Rattle.edit_pinch.proofs.vertex_fans.gather.Given as goal

-- the faces that are found so far, of which those before i are gone through, and those that are left, with their corners
abbrev pub invariant-loop-i : goal.invariant-loop-i
invariant-loop-i g l =
    let m = g.S.Surface.mesh l.mesh in
    IsGrown (share_second m l.v) l.faces l.fn.f l.fan (face_ids l.left) l.i × (l.left ≡ map (cornered m) (face_ids l.left))

abbrev pub decreases-loop-i : goal.decreases-loop-i
decreases-loop-i g l = length l.fan + length (face_ids l.left) - l.i
