-- What is asked of a tracker by a caller.
use Rattle.std.specs.Prelude.{◌≡◌, Option, MatchOption}
use Rattle.grid_base.specs.declared.Shift.{Shift}
use Rattle.grid_base.specs.declared.TheConstants.{ID_MAX, SHIFT_MAX}
use Rattle.grid_base.specs.Components.{FitWithin}
use Rattle.grid_base.specs.Points.{shift_by}
use Rattle.step_text.specs.Ranges.{IsFrom}
use Rattle.step_text.specs.declared.Directive.{Directive}
use Rattle.step_text.specs.declared.Directive.TheVariants.{ShiftOne, ShiftAll, Drive, Fit}
use Rattle.track_held.specs.declared.given.NamedPoint.{NamedPoint}

-- it is this value exactly where something holds, and else none
abbrev pub IsExactlyWhere : {A : Type 0} → Type 0 → A → Option A → Type 0
IsExactlyWhere holds value found = MatchOption found (¬ holds) (λ is. holds × (is ≡ value))

-- the shift has these components
pub record IsGiven (row : NamedPoint) (by : Shift) : Type 0 where
  pub x : by.x ≡ row.x
  pub y : by.y ≡ row.y
  pub z : by.z ≡ row.z

-- no component is above the limit, and the id is one that a vertex may have
pub record CanBeAsked (row : NamedPoint) : Type 0 where
  pub shift : FitWithin SHIFT_MAX row.x row.y row.z
  pub vertex : IsFrom 1 ID_MAX row.id

-- the shift is added to what is asked of the vertex
abbrev pub shift_directive : NamedPoint → Directive
shift_directive row = ShiftOne row.id (shift_by (record { x = row.x; y = row.y; z = row.z }))

-- no component is above the limit
abbrev pub CanAllBeAsked : NamedPoint → Type 0
CanAllBeAsked row = FitWithin SHIFT_MAX row.x row.y row.z

-- the shift is added to what is asked of each vertex
abbrev pub shift_all_directive : NamedPoint → Directive
shift_all_directive row = ShiftAll (shift_by (record { x = row.x; y = row.y; z = row.z }))

-- a directive that asks neither a stored field nor a sizing
abbrev pub AsksNothing : Directive → Type 0
AsksNothing (Drive name) = ⊥
AsksNothing Fit = ⊥
AsksNothing _ = Unit {0}
