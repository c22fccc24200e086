-- Which steps ask few vertices to move.
use Rattle.std.specs.Prelude.{◌≡◌, ◌&&◌, ◌||◌, ℕ, Bool, IsTrue, [], not, pos, nat_le, length}
use Rattle.std.specs.List.{filter}
use Rattle.std.specs.Ordering.{int_eq}
use Rattle.grid_decided.specs.Decided.{meets_exactly}
use Rattle.mesh_base.specs.declared.ShiftOf.{ShiftOf}
use Rattle.mesh_base.specs.Failing.{failing}
use Rattle.mesh_base.specs.Mesh.{Mesh}
use Rattle.mesh_base.specs.Shifts.{Shifts}
use Rattle.pair_scan.specs.Found.{has_none}
use Rattle.step_near.specs.declared.TheConstants.{FEW_MAX}

-- the shift is not zero
abbrev pub is_shifted : ShiftOf → Bool
is_shifted s =
    not (int_eq s.by.x (pos 0)) || not (int_eq s.by.y (pos 0)) || not (int_eq s.by.z (pos 0))

-- at most so many shifts are not zero
abbrev pub are_few : Shifts → Bool
are_few asked = nat_le (length (filter is_shifted asked)) FEW_MAX

-- the answer is whether few vertices are asked to move and all pairs pass: where many are, it is no
abbrev pub TellsWhetherFewPass : Mesh → Shifts → ℕ → Bool → Type 0
TellsWhetherFewPass m asked depth pass =
    pass ≡ (are_few asked && has_none (failing meets_exactly m asked depth))

-- where the answer is yes, no pair is among those that do not pass
abbrev pub NoneFailsIfFewPass : Mesh → Shifts → ℕ → Bool → Type 0
NoneFailsIfFewPass m asked depth pass = IsTrue pass → failing meets_exactly m asked depth ≡ []
