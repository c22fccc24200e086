-- Shifts of the vertices of a mesh.
use Rattle.std.specs.Prelude.{◌≡◌, ℕ, ◌==◌, Bool, eqb, List, map}
use Rattle.std.specs.Option.{option_map, unwrap_or}
use Rattle.std.specs.List.{find, list_all, fold, All, IsDistinct}
use Rattle.std.specs.FinMap as finite
use Rattle.grid_base.specs.declared.TheConstants.{BOX}
use Rattle.grid_base.specs.Triples.{Triple, plus}
use Rattle.grid_base.specs.Points.{displacement_of}
use Rattle.mesh_base.specs.declared.steps.ShiftOf.{ShiftOf}
use Rattle.mesh_base.specs.Mesh.{Mesh, IsLiveVertex}
use Rattle.grid_base.specs.Points.{is_within, point_at, shift_by}
use Rattle.mesh_base.specs.Changes.{with_point}
use Rattle.mesh_base.specs.Placements.{Motion, origin, rest_positions}

-- displacements of vertices, in order
abbrev pub Shifts : Type 0
Shifts = List ShiftOf

-- they name exactly the live vertices, rising
abbrev pub NameLive : Mesh → Shifts → Type 0
NameLive m shifts = map (λ s. s.v) shifts ≡ finite.keys m.points

-- the same vertex with another shift
abbrev pub with_shift : ShiftOf → Triple → ShiftOf
with_shift s t = record s { by = shift_by t }

-- the shift of a vertex, zero where none is named
abbrev pub shift_at : Shifts → ℕ → Triple
shift_at shifts v =
    unwrap_or (option_map (λ s. displacement_of s.by) (find (λ s. s.v == v) shifts)) origin

-- each vertex goes from its point by its shift
abbrev pub moved_by : Mesh → Shifts → Motion
moved_by m shifts =
    record { start = rest_positions m; end = λ v. plus (rest_positions m v) (shift_at shifts v) }

-- no shift takes its vertex out of the box
abbrev pub end_in_box : Mesh → Shifts → Bool
end_in_box m shifts =
    list_all (λ s. is_within BOX (plus (rest_positions m s.v) (displacement_of s.by))) shifts

-- the vertex at its point and its shift together
abbrev pub with_move : Mesh → ShiftOf → Mesh
with_move m s = with_point m s.v (point_at (plus (rest_positions m s.v) (displacement_of s.by)))

-- the mesh after moves, one after the other
abbrev pub with_moves : Mesh → Shifts → Mesh
with_moves m moves = fold with_move m moves

-- they name live vertices, and none twice
pub record NameOnce (m : Mesh) (moves : Shifts) : Type 0 where
  pub live : All (λ s. IsLiveVertex m s.v) moves
  pub once : IsDistinct eqb (map (λ s. s.v) moves)
