-- The moves of a step.
use Rattle.std.specs.Prelude.{◌≡◌, ℕ, ◌==◌, Bool, true, false}
use Rattle.std.specs.List.{list_any}
use Rattle.grid_base.specs.declared.TheConstants.{BOX}
use Rattle.grid_base.specs.Triples.{Triple, plus}
use Rattle.grid_base.specs.Points.{displacement_of, is_within}
use Rattle.mesh_base.specs.declared.ShiftOf.{ShiftOf}
use Rattle.mesh_base.specs.Mesh.{Mesh, IsLiveVertex, is_solid}
use Rattle.mesh_base.specs.Placements.{rest_positions}
use Rattle.mesh_base.specs.Shifts.{Shifts, end_in_box, NameOnce}

-- whether one of the moves names the vertex
abbrev pub is_named : Shifts → ℕ → Bool
is_named moves v = list_any (λ s. s.v == v) moves

-- where the move ends
abbrev pub end_of : Mesh → ShiftOf → Triple
end_of m s = plus (rest_positions m s.v) (displacement_of s.by)

-- One more vertex may move in a step: it lives, is not solid, has no move in
-- the step yet, and ends in the box.
pub record MayMove (m : Mesh) (moves : Shifts) (s : ShiftOf) : Type 0 where
  pub live : IsLiveVertex m s.v
  pub free : is_solid m s.v ≡ false
  pub first : is_named moves s.v ≡ false
  pub inside : is_within BOX (end_of m s) ≡ true

-- the moves name live vertices, none twice, and each ends in the box
pub record AreMoves (m : Mesh) (moves : Shifts) : Type 0 where
  pub once : NameOnce m moves
  pub inside : end_in_box m moves ≡ true
