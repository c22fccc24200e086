-- What becomes of a group that is closed.
use Rattle.std.specs.Prelude.{Bool, true, false, List, [], ◌∷◌, Option, Some, None}
use Rattle.track_engine.specs.State.{Group}
use Rattle.track_held.specs.declared.group_end.Closing.{Closing}
use Rattle.track_held.specs.declared.group_end.Closing.TheVariants.{NoGroup, Kept, TakenBack}

-- by whether it has failed, if one is open
abbrev pub closing_by : Option Bool → Closing
closing_by None = NoGroup
closing_by (Some false) = Kept
closing_by (Some true) = TakenBack

-- of the innermost of these groups
abbrev pub closing : List Group → Closing
closing [] = NoGroup
closing (group ∷ outer) = closing_by (Some group.failed)
