use Rattle.std.proofs.Common.{◌≡◌, subst}
use Rattle.std.specs.Prelude.{OnOk}
use Rattle.std.specs.List.{fold}
use Rattle.mesh_base.specs.Mesh.{Mesh}
use Rattle.mesh_base.proofs.MarksHold.{begins_along}
use Rattle.edit_collapse.specs.Tried.{others_than, without_if_bare}
use Rattle.edit_collapse.proofs.changes.drop_bare_ends.Goals as goal

pub returns-clause-made : goal.returns-clause-made
returns-clause-made g c =
    subst (λ (n : Mesh). OnOk c.drop_bare-2.result (g.S.Surface.mesh c.drop_bare-2.new.mesh ≡ fold without_if_bare n (others_than c.args.b c.args.second.now))) c.in_ok-drop_bare.ensures.made c.drop_bare-2.ensures.made

pub returns-clause-marks : goal.returns-clause-marks
returns-clause-marks g c =
    let kept = g.S.Surface.kept in
    begins_along (kept c.drop_bare-2.new.mesh) (kept c.drop_bare.new.mesh) (kept c.args.mesh.now) c.drop_bare-2.ensures.marks c.drop_bare.ensures.marks

pub returns-in_err-drop_bare-clause-marks : goal.returns-in_err-drop_bare-clause-marks
returns-in_err-drop_bare-clause-marks g c = c.drop_bare.ensures.marks
