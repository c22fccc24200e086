use Rattle.std.proofs.Common.{◌≡◌, Some, sym, ◌∙◌, subst, rules}
use Rattle.mesh_field.specs.Stored.{place_of}
use Rattle.mesh_field.proofs.Places.{only_place}
use Rattle.mesh_field.proofs.fields.Fields.find.Goals as goal

pub returns-clause-only : goal.returns-clause-only
returns-clause-only g c = only_place _ _ _ (search rules) (search rules)
