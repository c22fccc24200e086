-- What adding a shift to what is asked answers.
use Rattle.std.specs.Prelude.{◌≡◌, ◌<◌, ◌≤◌, ◌==◌, ◌&&◌, ℕ, Bool, true, false, not, is_some, Option, Some, None, Result, Ok, Err, if◌then◌else◌}
use Rattle.std.specs.FinMap as finite
use Rattle.std.specs.List.{AllByRecursion, list_any}
use Rattle.grid_base.specs.declared.Shift.{Shift}
use Rattle.mesh_base.specs.declared.ShiftOf.{ShiftOf}
use Rattle.mesh_base.specs.Mesh.{Mesh, IsLiveVertex, is_solid}
use Rattle.mesh_base.specs.declared.UseWhy.{UseWhy}
use Rattle.mesh_base.specs.Shifts.{Shifts}
use Rattle.track_engine.specs.State.{asked_of, still_asked}
use Rattle.track_engine.specs.Effects.{moves, is_beyond, summed_unless_solid, first_beyond, all_summed}

-- the sum of one vertex, unless it is solid; none, where it is above the limit
abbrev pub SumsOne : Mesh → (ℕ → Shift) → ShiftOf → Option ShiftOf → Type 0
SumsOne m by s (Some sum) = (is_beyond m by s ≡ false) × (sum ≡ summed_unless_solid m by s)
SumsOne m by s None = is_beyond m by s ≡ true

-- the sums, or the first vertex whose sum is above the limit
abbrev pub Sums : Mesh → (ℕ → Shift) → Shifts → Result Shifts ℕ → Type 0
Sums m by asked (Ok sums) = (first_beyond m by asked ≡ None) × (sums ≡ all_summed m by asked)
Sums m by asked (Err v) = first_beyond m by asked ≡ Some v

-- what is asked from here on is the sum, or the reason is why there is none
abbrev pub AsksNow : Result Shifts UseWhy → Shifts → Option UseWhy → Type 0
AsksNow sum now None = sum ≡ Ok now
AsksNow sum now (Some why) = sum ≡ Err why

-- ---- in a list that names some vertices

-- each names a vertex of a lower id
abbrev pub AreBelow : ℕ → Shifts → Type 0
AreBelow v asked = AllByRecursion (λ s. s.v < v) asked

-- what is asked of one vertex is this from here on, and of each other one what it was
abbrev pub IsPut : ShiftOf → Shifts → Shifts → Type 0
IsPut s old new =
    (v : ℕ) → asked_of v new ≡ (if s.v == v then Some s else asked_of v old)

-- the same of the live vertices of a mesh
abbrev pub IsPutIn : Mesh → ShiftOf → Shifts → Shifts → Type 0
IsPutIn m s old new = (v : ℕ) → IsLiveVertex m v →
    still_asked m new v ≡ (if s.v == v then s else still_asked m old v)

-- nothing is asked of a vertex whose id the mesh has not given yet
abbrev pub AsksOfGiven : Mesh → Shifts → Type 0
AsksOfGiven m asked = (v : ℕ) → m.next_vertex ≤ v → asked_of v asked ≡ None

-- whether a vertex is asked to move
abbrev pub asks : Shifts → Bool
asks asked = list_any moves asked

-- whether the shift moves its vertex, which lives and is not solid
abbrev pub stirs : Mesh → ShiftOf → Bool
stirs m s = moves s && (is_some (finite.get m.points s.v) && not (is_solid m s.v))
