-- The moves of a step that is begun.
use Rattle.std.specs.Prelude.{ℕ, ◌==◌, Bool, List, map}
use Rattle.std.specs.Option.{unwrap_or}
use Rattle.std.specs.List.{find}
use Rattle.std.specs.FinMap as finite
use Rattle.grid_base.specs.Points.{no_shift}
use Rattle.mesh_base.specs.declared.ShiftOf.{ShiftOf}
use Rattle.mesh_base.specs.Mesh.{Mesh}
use Rattle.mesh_base.specs.Shifts.{Shifts}
use Rattle.log_replay.specs.Moves.{is_named, AreMoves}
use Rattle.log_run.specs.States.{LogState}

-- the vertex and no shift
abbrev pub still_at : ℕ → ShiftOf
still_at v = record { v = v; by = no_shift }

-- the move of a vertex, and no shift where none names it
abbrev pub shift_for : Shifts → ℕ → ShiftOf
shift_for moves v = unwrap_or (find (λ s. s.v == v) moves) (still_at v)

-- the shift of each live vertex, by rising id
abbrev pub shifts_of : Mesh → Shifts → Shifts
shifts_of m moves = map (shift_for moves) (finite.keys m.points)

-- for each live vertex, by rising id, whether one of the moves names it
abbrev pub names_of : Mesh → Shifts → List Bool
names_of m moves = map (is_named moves) (finite.keys m.points)

-- the shift of each live vertex in the step that is begun
abbrev pub step_shifts : LogState → Shifts
step_shifts s = shifts_of s.replay.mesh s.replay.moves

-- the moves of the step are moves of the mesh: they name live vertices, none twice, and end in the
-- box
abbrev pub HasMoves : LogState → Type 0
HasMoves s = AreMoves s.replay.mesh s.replay.moves
