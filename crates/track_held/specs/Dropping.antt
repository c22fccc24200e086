-- The component of a vertex is dropped.
use Rattle.std.specs.Prelude.{ℕ}
use Rattle.edit_drop.specs.Drop.{drop_collapses, drop_why}
use Rattle.track_engine.specs.State.{State}
use Rattle.track_engine.specs.Effects.{Effect, opened}
use Rattle.track_held.specs.declared.given_edits.ToldAnswer.{ToldAnswer}
use Rattle.track_held.specs.Folding.{group_effect, group_told, unless_why, told_unless_why}

-- The collapses that take the component of a vertex away are a group of their own. Where there is a
-- reason against it, nothing is done and nothing told.
abbrev pub drop_effect : ℕ → State → Effect
drop_effect v s =
    let depth = s.set.depth in
    unless_why (drop_why depth s.mesh v) (group_effect (drop_collapses depth s.mesh v) v s) s

-- what is told of it: the reason against it, or else what the last collapse did
abbrev pub drop_told : ℕ → State → ToldAnswer
drop_told v s =
    let depth = s.set.depth in
    told_unless_why (drop_why depth s.mesh v)
    (group_told (drop_collapses depth s.mesh v) v (opened s))
