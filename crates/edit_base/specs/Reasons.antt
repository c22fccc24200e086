-- Reasons against an edit, of which the first that holds is given.
use Rattle.std.specs.Prelude.{ℕ, ◌||◌, Bool, List, [], ◌∷◌, if◌then◌else◌}
use Rattle.std.specs.Option.{option_or, option_map, option_map_or}
use Rattle.std.proofs.Common.{Option, Some, None}
use Rattle.grid_base.specs.declared.Positions.{Positions}
use Rattle.mesh_base.specs.Mesh.{Mesh}
use Rattle.mesh_base.specs.Limits.{is_over_limits}
use Rattle.edit_base.specs.declared.answers.Why.{Why}
use Rattle.edit_base.specs.declared.answers.Why.TheVariants.{Hit}
use Rattle.edit_base.specs.declared.answers.Change.{Change}
use Rattle.edit_base.specs.declared.answers.Edit.{Edit}
use Rattle.edit_base.specs.declared.answers.Edit.TheVariants.{Done, No}
use Rattle.edit_base.specs.Scaffold.{Scaffold, first_failing}

-- the reason, where it holds
abbrev pub reason_if : Bool → Why → Option Why
reason_if holds why = if holds then Some why else None

-- the first reason that is there
abbrev pub first_reason : List (Option Why) → Option Why
first_reason [] = None
first_reason (reason ∷ reasons) = option_or reason (first_reason reasons)

-- the reason, or else the change is done
abbrev pub done_unless : Option Why → Change → Edit
done_unless reason change = option_map_or (λ why. No why) reason (Done change)

-- the scaffold or the result passes a limit
abbrev pub is_full : Mesh → Mesh → Bool
is_full scaffold result = is_over_limits scaffold || is_over_limits result

-- the first pair of the scaffold that is not as required
abbrev pub hit_in : (Positions → Bool) → Scaffold → ℕ → Option Why
hit_in meets scaffold depth = option_map (λ p. Hit p) (first_failing meets scaffold depth)
