-- What becomes of the innermost group, as it lies in memory.
use Rattle.std.proofs.Common.{◌≡◌, List, [], ◌∷◌, Option, refl, ap, ◌∙◌}
use Rattle.std.specs.Prelude.{Bool, slice_get}
use Rattle.std.specs.Option.{option_map}
use Rattle.mesh_base.specs.Mesh.{Mesh}
use Rattle.track_engine.specs.State.{groups_of}
use Rattle.track_engine.specs.declared.open_group.OpenGroup.{OpenGroup}
use Rattle.track_held.specs.Closings.{closing, closing_by}

first_closes : (kept : List Mesh) (groups : List OpenGroup) → closing_by (option_map (λ group. group.failed) (slice_get groups 0)) ≡ closing (groups_of kept groups)
first_closes kept [] = refl
first_closes kept (group ∷ outer) = refl

pub closes : (kept : List Mesh) (groups : List OpenGroup) (failed : Option Bool) → failed ≡ option_map (λ group. group.failed) (slice_get groups 0) → closing_by failed ≡ closing (groups_of kept groups)
closes kept groups failed is = ap closing_by is ∙ first_closes kept groups
