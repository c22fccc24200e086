-- An edge and a face as a pair.
use Rattle.std.specs.Prelude.{Bool, ◌||◌}
use Rattle.grid_base.specs.declared.Positions.{Positions}
use Rattle.mesh_base.specs.declared.ids.PairName.{PairName}
use Rattle.mesh_base.specs.Sides.{has_corner}
use Rattle.mesh_base.specs.Pairs.{Pair}
use Rattle.pair_paths.specs.declared.moving_parts.MovingEdge.{MovingEdge}
use Rattle.pair_paths.specs.declared.moving_parts.MovingFace.{MovingFace}

-- an end of the edge is a corner of the face
abbrev pub have_a_vertex_in_common : MovingEdge → MovingFace → Bool
have_a_vertex_in_common e f = has_corner f.corners e.a || has_corner f.corners e.b

-- the name of the edge with the face
abbrev pub name_with : MovingEdge → MovingFace → PairName
name_with e f = record { a = e.a; b = e.b; face = f.face }

-- the edge with the face
abbrev pub pair_with : MovingEdge → MovingFace → Pair
pair_with e f = record { name = name_with e f; corners = f.corners }

-- where the edge and the face begin: of an edge and a face of a motion, the
-- positions of their pair at its start
abbrev pub starts : MovingEdge → MovingFace → Positions
starts e f =
    record { a = e.first.start; b = e.second.start; c = f.c.start; d = f.d.start; e = f.e.start }

-- where they end
abbrev pub ends : MovingEdge → MovingFace → Positions
ends e f = record { a = e.first.end; b = e.second.end; c = f.c.end; d = f.d.end; e = f.e.end }
