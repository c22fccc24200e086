-- The values of directives are within their limits, their lines are in their
-- text, and their groups are nested.
use Rattle.std.specs.Prelude.{◌≡◌, ℕ, ◌+◌, ◌-◌, ◌<◌, ◌≤◌, List, [], ◌∷◌}
use Rattle.std.specs.List.{AllByRecursion}
use Rattle.grid_base.specs.declared.TheConstants.{DEPTH_MAX, HALVINGS_MAX, ID_MAX, LENGTH_MAX}
use Rattle.edit_base.specs.declared.PassKind.{PassKind}
use Rattle.edit_base.specs.declared.PassKind.TheVariants as pass
use Rattle.mesh_plain.specs.FieldNames.{IsFieldName}
use Rattle.step_text.specs.declared.TheConstants.{GROUPS_MAX, PASSES_MAX}
use Rattle.step_text.specs.declared.directive.Directive.{Directive}
use Rattle.step_text.specs.declared.directive.Directive.TheVariants.{SetDepth, SetPasses, SetZones, SetHalvings}
use Rattle.step_text.specs.declared.directive.Directive.TheVariants.{ShiftOne, ShiftAll, Drive, Solid, Step}
use Rattle.step_text.specs.declared.directive.Directive.TheVariants.{Pass, Fit, Save, Group, Close}
use Rattle.step_text.specs.declared.directive.Placed.{Placed}

-- from low to high
abbrev pub IsFrom : ℕ → ℕ → ℕ → Type 0
IsFrom low high n = (low ≤ n) × (n ≤ high)

-- the length that a pass goes by
abbrev pub IsPassInRange : PassKind → Type 0
IsPassInRange (pass.Split over) = over ≤ LENGTH_MAX
IsPassInRange (pass.Collapse under) = under ≤ LENGTH_MAX
IsPassInRange pass.Flip = Unit {0}
IsPassInRange (pass.Zip within) = within ≤ LENGTH_MAX
IsPassInRange pass.Pinch = Unit {0}

-- Settings are at most the greatest, ids and lengths are from the least to the greatest, and names
-- are names of fields. Shifts are within their limit by their type.
abbrev pub IsInRange : Directive → Type 0
IsInRange (SetDepth depth) = depth ≤ DEPTH_MAX
IsInRange (SetPasses passes) = passes ≤ PASSES_MAX
IsInRange (SetZones on) = Unit {0}
IsInRange (SetHalvings halvings) = halvings ≤ HALVINGS_MAX
IsInRange (ShiftOne v by) = IsFrom 1 ID_MAX v
IsInRange (ShiftAll by) = Unit {0}
IsInRange (Drive name) = IsFieldName name
IsInRange (Solid v) = IsFrom 1 ID_MAX v
IsInRange Step = Unit {0}
IsInRange (Pass kind) = IsPassInRange kind
IsInRange Fit = Unit {0}
IsInRange Save = Unit {0}
IsInRange Group = Unit {0}
IsInRange Close = Unit {0}

-- each of the directives is
abbrev pub AreInRange : List Placed → Type 0
AreInRange directives = AllByRecursion (λ placed. IsInRange placed.what) directives

-- each stands on one of so many lines
abbrev pub AreOnLines : ℕ → List Placed → Type 0
AreOnLines count directives = AllByRecursion (λ placed. IsFrom 1 count placed.line) directives

-- where so many groups are open, a further one doesn't lie too deep, and a close has its group
abbrev pub Nests : ℕ → Directive → Type 0
Nests open_groups Group = open_groups < GROUPS_MAX
Nests open_groups Close = 0 < open_groups
Nests open_groups _ = Unit {0}

-- how many groups are open after a directive
abbrev pub open_behind : ℕ → Directive → ℕ
open_behind open_groups Group = open_groups + 1
open_behind open_groups Close = open_groups - 1
open_behind open_groups _ = open_groups

-- Behind the first so many open groups each directive nests, and the second so
-- many groups are open at the end.
abbrev pub AreNested : ℕ → List Placed → ℕ → Type 0
AreNested first [] last = first ≡ last
AreNested first (placed ∷ directives) last =
    Nests first placed.what × AreNested (open_behind first placed.what) directives last
