-- The positions of a pair, as its lists give them.
use Rattle.std.specs.Prelude.{List, slice_index_or, pos}
use Rattle.grid_base.specs.Triples.{Triple}
use Rattle.grid_base.specs.declared.Positions.{Positions}
use Rattle.motion_test.specs.declared.Pair.{Pair}

-- the position where all coordinates are zero
abbrev pub origin : Triple
origin = record { x = pos 0; y = pos 0; z = pos 0 }

-- two edge ends, then three corners
abbrev pub positions_of : List Triple → Positions
positions_of ts = record {
  a = slice_index_or ts 0 origin;
  b = slice_index_or ts 1 origin;
  c = slice_index_or ts 2 origin;
  d = slice_index_or ts 3 origin;
  e = slice_index_or ts 4 origin;
}

-- the positions of a pair at the start
abbrev pub start_of : Pair → Positions
start_of p = positions_of p.start

-- and at the end
abbrev pub end_of : Pair → Positions
end_of p = positions_of p.end
