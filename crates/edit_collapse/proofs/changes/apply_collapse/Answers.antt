use Rattle.std.proofs.Common.{◌≡◌, Bool, subst}
use Rattle.std.specs.Prelude.{OnOk}
use Rattle.mesh_base.specs.Mesh.{Mesh}
use Rattle.mesh_base.proofs.MarksHold.{begins_along}
use Rattle.edit_collapse.specs.Collapse.{has_solid_end, placed_if_left}
use Rattle.edit_collapse.proofs.changes.apply_collapse.Goals as goal

pub returns-clause-made : goal.returns-clause-made
returns-clause-made g c =
    let m = g.S.Surface.mesh c.args.mesh.now in
    subst (λ (n : Mesh). OnOk c.place_if_left.result (g.S.Surface.mesh c.place_if_left.new.mesh ≡ placed_if_left (has_solid_end m c.args.a c.args.b) n c.args.a c.args.at)) c.in_ok-apply_acts.ensures.made
    (subst (λ (t : Bool). OnOk c.place_if_left.result (g.S.Surface.mesh c.place_if_left.new.mesh ≡ placed_if_left t (g.S.Surface.mesh c.apply_acts.new.mesh) c.args.a c.args.at)) c.has_solid_end-solid.ensures c.place_if_left.ensures.made)

pub returns-clause-marks : goal.returns-clause-marks
returns-clause-marks g c =
    let kept = g.S.Surface.kept in
    begins_along (kept c.place_if_left.new.mesh) (kept c.apply_acts.new.mesh) (kept c.args.mesh.now) c.place_if_left.ensures.marks c.apply_acts.ensures.marks

pub returns-in_err-apply_acts-clause-marks : goal.returns-in_err-apply_acts-clause-marks
returns-in_err-apply_acts-clause-marks g c = c.apply_acts.ensures.marks
