-- A binary search among shifts whose ids rise.
use Rattle.std.proofs.Common.{ℕ}
use Rattle.grid_base.specs.Points.{no_shift}
use Rattle.mesh_base.specs.declared.steps.ShiftOf.{ShiftOf}

abbrev pub id_of : ShiftOf → ℕ
id_of s = s.v

-- a shift that stands past the end
abbrev pub past : ℕ → ShiftOf
past v = record { v = v; by = no_shift }
