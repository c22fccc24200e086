use Rattle.std.proofs.Common.{◌≡◌}
use Rattle.mesh_base.specs.Sides.{faces_at}
use Rattle.edit_pinch.specs.Pinch.{share_second}
use Rattle.edit_pinch.proofs.FanBalance.{share_both_ways, faces_differ}
use Rattle.edit_pinch.proofs.Leasts.{begun}
use Rattle.edit_pinch.proofs.vertex_fans.fans.Given as goal

-- the fans that begin with the faces so far
abbrev pub invariant-loop-f : goal.invariant-loop-f
invariant-loop-f g l =
    let m = g.S.Surface.mesh l.mesh in
    l.fans ≡ begun (share_second m l.v) (faces_at m l.v) (share_both_ways m l.v) (faces_differ m l.v) l.f-index
