use Rattle.std.proofs.Common.{◌≡◌, subst, ◌∙◌}
use Rattle.std.specs.Prelude.{OnOk}
use Rattle.std.specs.List.{fold}
use Rattle.mesh_base.specs.Mesh.{Mesh}
use Rattle.mesh_base.proofs.MarksHold.{begins_along, begins_itself}
use Rattle.edit_collapse.specs.Tried.{others_than, without_if_bare}
use Rattle.edit_collapse.proofs.Bare.{bare_is}
use Rattle.edit_collapse.proofs.changes.apply_acts.Goals as goal

pub returns-clause-made : goal.returns-clause-made
returns-clause-made g c =
    let m = g.S.Surface.mesh c.args.mesh.now in
    let first = c.as_slice.ensures ∙ c.in_ok-first.ensures in
    let second = c.as_slice-2.ensures ∙ c.in_ok-second.ensures in
    subst (λ (n : Mesh). OnOk c.drop_bare_ends.result (g.S.Surface.mesh c.drop_bare_ends.new.mesh ≡ n))
    ((λ i. fold without_if_bare (fold without_if_bare (c.in_ok-put_joined.ensures.made i) (others_than c.args.a (first i))) (others_than c.args.b (second i)))
    ∙ bare_is m c.args.a c.args.b (g.met.S.Surface.sound c.args.mesh.now) c.requires.closed c.requires.apart c.requires.tried.edge)
    c.drop_bare_ends.ensures.made

pub returns-clause-marks : goal.returns-clause-marks
returns-clause-marks g c =
    let kept = g.S.Surface.kept in
    begins_along (kept c.drop_bare_ends.new.mesh) (kept c.put_joined.new.mesh) (kept c.args.mesh.now) c.drop_bare_ends.ensures.marks c.put_joined.ensures.marks

pub returns-in_err-put_joined-clause-marks : goal.returns-in_err-put_joined-clause-marks
returns-in_err-put_joined-clause-marks g c = c.put_joined.ensures.marks

pub returns-in_err-first-clause-marks : goal.returns-in_err-first-clause-marks
returns-in_err-first-clause-marks g c = begins_itself (g.S.Surface.kept c.args.mesh.now)

pub returns-in_err-second-clause-marks : goal.returns-in_err-second-clause-marks
returns-in_err-second-clause-marks g c = begins_itself (g.S.Surface.kept c.args.mesh.now)
