use Rattle.std.proofs.Common.{◌≡◌, ◌++◌, length}
use Rattle.std.specs.FinMap as map
use Rattle.mesh_base.specs.Sides.{above}
use Rattle.mesh_base.proofs.walk.live_vertices.Given as goal

-- the points found and those above the last are all of them
abbrev pub invariant-loop-v : goal.invariant-loop-v
invariant-loop-v g l = l.ids ++ above l.last (map.keys (g.S.Surface.mesh l.mesh).points) ≡ map.keys (g.S.Surface.mesh l.mesh).points

-- those above the last become fewer
abbrev pub decreases-loop-v : goal.decreases-loop-v
decreases-loop-v g l = length (above l.last (map.keys (g.S.Surface.mesh l.mesh).points))
