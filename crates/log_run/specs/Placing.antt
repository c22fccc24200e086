-- When vertices can be moved one after another.
use Rattle.std.specs.Prelude.{◌≡◌, true, [], ◌∷◌}
use Rattle.grid_base.specs.declared.TheConstants.{BOX}
use Rattle.grid_base.specs.Points.{is_within}
use Rattle.mesh_base.specs.declared.ShiftOf.{ShiftOf}
use Rattle.mesh_base.specs.Mesh.{Mesh, IsLiveVertex}
use Rattle.mesh_base.specs.Shifts.{Shifts, with_move}
use Rattle.log_replay.specs.Moves.{end_of}

-- a move of a live vertex that ends in the box
pub record CanMove (m : Mesh) (s : ShiftOf) : Type 0 where
  pub live : IsLiveVertex m s.v
  pub inside : is_within BOX (end_of m s) ≡ true

-- so is each, in the mesh in which those before it have been moved
abbrev pub CanMoveAll : Mesh → Shifts → Type 0
CanMoveAll m [] = Unit {0}
CanMoveAll m (s ∷ moves) = CanMove m s × CanMoveAll (with_move m s) moves
