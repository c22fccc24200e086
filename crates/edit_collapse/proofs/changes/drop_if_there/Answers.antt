use Rattle.std.proofs.Common.{◌≡◌, false, Option, Some, None, is_some, refl, sym, ap, ◌∙◌}
use Rattle.std.specs.Option.{option_map}
use Rattle.std.specs.FinMap as finite
use Rattle.mesh_base.specs.declared.ids.Corners.{Corners}
use Rattle.mesh_base.specs.Changes.{corner_list}
use Rattle.edit_collapse.proofs.Joined.{absent_dropped}
use Rattle.edit_collapse.proofs.changes.drop_if_there.Goals as goal

none_there : (o : Option Corners) → is_some (option_map corner_list o) ≡ false → o ≡ None
none_there (Some c) e = absurd cc
none_there None e = refl

pub returns-else-is_some-clause-made : goal.returns-else-is_some-clause-made
returns-else-is_some-clause-made g c =
    let m = g.S.Surface.mesh c.args.mesh.now in
    sym (absent_dropped m c.args.f (none_there (finite.get m.faces c.args.f) (ap is_some (sym c.corners.ensures) ∙ sym c.is_some.ensures ∙ c.if-is_some.false)))
