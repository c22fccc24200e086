use Rattle.std.proofs.Common.{◌∙◌, ap, sym, subst, ◌++◌}
use Rattle.std.specs.Prelude.{codes}
use Rattle.mesh_plain.specs.FieldNames.{IsFieldName}
use Rattle.mesh_plain.proofs.FieldNaming.{underscore}
use Rattle.mesh_plain.proofs.field_name.FieldNameDefault.default.Goals as goal

pub invariant_of-result : goal.invariant_of-result
invariant_of-result c =
    subst IsFieldName (sym (c.push_str.ensures.bytes ∙ ap (λ bytes. bytes ++ codes "_") c.new-text.ensures)) underscore
