-- Where a vertex stands among shifts.
use Rattle.std.specs.Prelude.{◌≡◌, ℕ, ◌==◌, slice_get}
use Rattle.std.specs.List.{find}
use Rattle.std.proofs.Common.{Option, Some, None}
use Rattle.mesh_base.specs.declared.ShiftOf.{ShiftOf}
use Rattle.mesh_base.specs.Shifts.{Shifts}

-- the shift of the vertex stands at this place, or there is none
abbrev pub IsPlaceOf : Shifts → ℕ → Option ℕ → Type 0
IsPlaceOf by v None = find (λ s. s.v == v) by ≡ None
IsPlaceOf by v (Some i) =
    (s : ShiftOf) × (slice_get by i ≡ Some s) × (find (λ s. s.v == v) by ≡ Some s)
