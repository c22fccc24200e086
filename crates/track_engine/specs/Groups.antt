-- Open groups, as they lie in memory, the innermost first.
use Rattle.std.specs.Prelude.{◌||◌, Bool, true, false, List, [], ◌∷◌}
use Rattle.track_engine.specs.declared.open_group.OpenGroup.{OpenGroup}

-- whether a group is open
abbrev pub is_open_in : List OpenGroup → Bool
is_open_in [] = false
is_open_in (group ∷ outer) = true

-- the innermost open group has failed, where this holds or it had failed before
abbrev pub failed_if : Bool → List OpenGroup → List OpenGroup
failed_if failed [] = []
failed_if failed (group ∷ outer) = record group { failed = group.failed || failed } ∷ outer
