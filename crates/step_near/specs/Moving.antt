-- How the vertices move that a step asks to move.
use Rattle.std.specs.Prelude.{List, map}
use Rattle.std.specs.List.{filter}
use Rattle.grid_base.specs.Triples.{Triple, plus, times}
use Rattle.grid_base.specs.Points.{displacement_of}
use Rattle.mesh_base.specs.declared.ShiftOf.{ShiftOf}
use Rattle.mesh_base.specs.Mesh.{Mesh}
use Rattle.mesh_base.specs.Placements.{rest_positions}
use Rattle.mesh_base.specs.Shifts.{Shifts}
use Rattle.edit_base.specs.declared.Move.{Move}
use Rattle.edit_base.specs.Scaffold.{move_from_rest}
use Rattle.step_near.specs.Few.{is_shifted}

-- where the shift takes its vertex
abbrev pub end_of : Mesh → ShiftOf → Triple
end_of m s = plus (rest_positions m s.v) (displacement_of s.by)

-- from where the vertex stands to there, in half units
abbrev pub move_by : Mesh → ShiftOf → Move
move_by m s = move_from_rest m s.v (times 2 (end_of m s))

-- the moves by the shifts that are not zero, in order
abbrev pub moves_by : Mesh → Shifts → List Move
moves_by m asked = map (move_by m) (filter is_shifted asked)
