-- Stored fields: their names, what their closure may answer, and what is kept of them.
use Rattle.std.specs.Prelude.{◌≡◌, ◌≢◌, ℕ, ◌<◌, ◌≤◌, List, length, slice_get, Option, Some, position, refl}
use Rattle.std.specs.Str.{bytes_eq}
use Rattle.std.specs.Fn.{Shared}
use Rattle.std.specs.Coded.{Coded, code_by, coded×, coded_ℕ, coded_list}
use Rattle.grid_base.specs.declared.TheConstants.{SHIFT_MAX}
use Rattle.grid_base.specs.declared.grid.Point.{Point}
use Rattle.grid_base.specs.declared.grid.Shift.{Shift}
use Rattle.grid_base.specs.Components.{FitWithin}

-- the names of the fields, each as its bytes; the greatest size of a component
-- that is answered; and what answers
pub record StoredFields (F : Type 0) : Type 0 where
  pub names : List (List ℕ)
  pub reach : ℕ
  pub closure : F

-- the three together
abbrev pub stored : {F : Type 0} → List (List ℕ) → ℕ → F → StoredFields F
stored names reach closure = record { names = names; reach = reach; closure = closure }

-- they are stored as these three
abbrev pub stored_code : {F : Type 0} → Coded F → Coded (StoredFields F)
stored_code {F} code =
    code_by (List (List ℕ) × (ℕ × F))
    (coded× (coded_list (coded_list coded_ℕ)) (coded× coded_ℕ code))
    (λ s. (s.names, (s.reach, s.closure)))
    (λ p. record { names = p.0; reach = p.1.0; closure = p.1.1 })
    (λ _. refl)

-- no two of the names are the same
abbrev pub AreDistinct : List (List ℕ) → Type 0
AreDistinct names = (i j : ℕ) → i < j → j < length names → slice_get names i ≢ slice_get names j

-- the place of a name among these, from 0
abbrev pub place_of : List (List ℕ) → List ℕ → Option ℕ
place_of names name = position (λ other. bytes_eq other name) names

-- the name stands there and nowhere else
pub record IsOnlyPlace (names : List (List ℕ)) (name : List ℕ) (place : ℕ) : Type 0 where
  pub here : slice_get names place ≡ Some name
  pub only : (i : ℕ) → slice_get names i ≡ Some name → i ≡ place

module _ {F : Type 0} (closures : Shared F (ℕ × (Point × Unit {0})) Shift)
    (fields : StoredFields F) where
  -- the closure may be asked for the field of this number at this point
  abbrev pub MayBeAsked : ℕ → Point → Type 0
  MayBeAsked which p = closures.pre fields.closure (which, (p, tt))

  -- by is a shift that it may answer there
  abbrev pub MayAnswer : ℕ → Point → Shift → Type 0
  MayAnswer which p by = closures.post fields.closure (which, (p, tt)) by

  -- Of each field, at each point of the box, the closure may be asked, and answers within the
  -- reach, which no shift exceeds.
  pub record IsWellKept : Type 0 where
    pub asked : (which : ℕ) (p : Point) → which < length fields.names → MayBeAsked which p
    pub within : (which : ℕ) (p : Point) (by : Shift) → which < length fields.names →
        MayAnswer which p by → FitWithin fields.reach by.x by.y by.z
    pub most : fields.reach ≤ SHIFT_MAX
