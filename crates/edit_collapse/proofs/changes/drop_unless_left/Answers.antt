use Rattle.std.proofs.Common.{◌≡◌, true, false, cond, sym, ap, subst, ◌∙◌}
use Rattle.std.specs.Prelude.{OnOk}
use Rattle.mesh_base.specs.Mesh.{Mesh}
use Rattle.mesh_base.specs.Changes.{without_face}
use Rattle.mesh_base.proofs.MarksHold.{begins_itself}
use Rattle.edit_collapse.specs.Tried.{has_id_in, AreRising}
use Rattle.edit_collapse.proofs.changes.drop_unless_left.Goals as goal

pub has_id-requires : goal.has_id-requires
has_id-requires g c = subst AreRising (sym c.as_slice.ensures) c.requires

pub returns-then-has_id-clause-made : goal.returns-then-has_id-clause-made
returns-then-has_id-clause-made g c =
    let m = g.S.Surface.mesh c.args.mesh.now in
    let is : has_id_in c.args.left.now c.args.f ≡ true = ap (λ l. has_id_in l c.args.f) (sym c.as_slice.ensures) ∙ sym c.has_id.ensures ∙ c.if-has_id.true in
    sym (ap (λ t. cond t m (without_face m c.args.f)) is)

pub returns-then-has_id-clause-marks : goal.returns-then-has_id-clause-marks
returns-then-has_id-clause-marks g c = begins_itself (g.S.Surface.kept c.args.mesh.now)

pub returns-else-has_id-clause-made : goal.returns-else-has_id-clause-made
returns-else-has_id-clause-made g c =
    let m = g.S.Surface.mesh c.args.mesh.now in
    let is : has_id_in c.args.left.now c.args.f ≡ false = ap (λ l. has_id_in l c.args.f) (sym c.as_slice.ensures) ∙ sym c.has_id.ensures ∙ c.if-has_id.false in
    subst (λ (n : Mesh). OnOk c.drop_if_there.result (g.S.Surface.mesh c.drop_if_there.new.mesh ≡ n)) (sym (ap (λ t. cond t m (without_face m c.args.f)) is)) c.drop_if_there.ensures.made

pub returns-else-has_id-clause-marks : goal.returns-else-has_id-clause-marks
returns-else-has_id-clause-marks g c = c.drop_if_there.ensures.marks
