-- What moves, as a frame that moves sees it.
use Rattle.grid_base.specs.declared.Extent.{Extent}
use Rattle.grid_base.specs.declared.Positions.{Positions}
use Rattle.grid_base.specs.Triples.{Triple, minus}
use Rattle.pair_paths.specs.declared.frame.Frame.{Frame}
use Rattle.pair_paths.specs.declared.path.Path.{Path}
use Rattle.pair_paths.specs.declared.moving_parts.MovingEdge.{MovingEdge}
use Rattle.pair_paths.specs.declared.moving_parts.MovingFace.{MovingFace}
use Rattle.pair_paths.specs.Bounds.{HoldsPath, HoldsEdge, HoldsFace}

-- positions, seen from this one
abbrev pub seen_from : Triple → Positions → Positions
seen_from o f =
    record { a = minus f.a o; b = minus f.b o; c = minus f.c o; d = minus f.d o; e = minus f.e o }

-- a path in the frame: it begins where it does in the grid, and its end
-- is seen from where the frame ends
abbrev pub path_in : Frame → Path → Path
path_in frame w = record { start = w.start; end = minus w.end frame.end }

-- an edge in the frame
abbrev pub edge_in : Frame → MovingEdge → MovingEdge
edge_in frame e =
    record { a = e.a; b = e.b; first = path_in frame e.first; second = path_in frame e.second }

-- a face in the frame
abbrev pub face_in : Frame → MovingFace → MovingFace
face_in frame f = record {
  face = f.face;
  corners = f.corners;
  c = path_in frame f.c;
  d = path_in frame f.d;
  e = path_in frame f.e;
}

-- the box has the path in the frame
abbrev pub HoldsPathIn : Frame → Path → Extent → Type 0
HoldsPathIn frame w box = HoldsPath (path_in frame w) box

-- the box has the edge in the frame
abbrev pub HoldsEdgeIn : Frame → MovingEdge → Extent → Type 0
HoldsEdgeIn frame e box = HoldsEdge (edge_in frame e) box

-- the box has the face in the frame
abbrev pub HoldsFaceIn : Frame → MovingFace → Extent → Type 0
HoldsFaceIn frame f box = HoldsFace (face_in frame f) box
