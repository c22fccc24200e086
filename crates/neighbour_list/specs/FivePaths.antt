-- Five paths as two times five positions.
use Rattle.grid_base.specs.declared.Positions.{Positions}
use Rattle.neighbour_list.specs.declared.five_paths.FivePaths.{FivePaths}

-- where they start
abbrev pub starts_of : FivePaths → Positions
starts_of p = record { a = p.a.now.start; b = p.b.now.start; c = p.c.now.start; d = p.d.now.start; e = p.e.now.start }

-- where they end
abbrev pub ends_of : FivePaths → Positions
ends_of p = record { a = p.a.now.end; b = p.b.now.end; c = p.c.now.end; d = p.d.now.end; e = p.e.now.end }
