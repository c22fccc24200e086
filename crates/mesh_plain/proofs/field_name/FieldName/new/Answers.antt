use Rattle.std.proofs.Common.{◌∙◌, rules}
use Rattle.mesh_plain.proofs.FieldNaming.{name_of_text, no_name}
use Rattle.mesh_plain.proofs.field_name.FieldName.new.Goals as goal

pub returns-in_default-clause-exact : goal.returns-in_default-clause-exact
returns-in_default-clause-exact c = no_name _ c.in_default.ensures.cases.0

pub returns-in-Ok-from-clause-exact : goal.returns-in-Ok-from-clause-exact
returns-in-Ok-from-clause-exact c =
    name_of_text _ _
    (record { some = search rules; few = search rules; text = c.in-Ok.ensures.cases.1 })
    (c.in-Ok-from.ensures.ok ∙ c.in-Ok.ensures.cases.0)
