-- Vertices where a motion ends.
use Rattle.mesh_base.specs.Placements.{Motion}

-- each vertex stays where the motion ends
abbrev pub at_end : Motion → Motion
at_end w = record { start = w.end; end = w.end }
