use Rattle.std.proofs.Common.{◌≡◌, true, sym, ap, ◌∙◌}
use Rattle.std.proofs.lemmas.Result.{IfOk-weaker}
use Rattle.grid_base.specs.declared.TheConstants.{DEPTH_MAX}
use Rattle.grid_decided.specs.Decided.{meets_exactly}
use Rattle.mesh_base.specs.Sides.{IsClosed}
use Rattle.edit_any.specs.Dispatch.{edited}
use Rattle.edit_any.specs.Answered.{IsAnswered}
use Rattle.shape_laws.specs.Link.{has_plain_link}
use Rattle.shape_laws.specs.Kept.{HaveSameShape, collapse_keeps_shape}
use Rattle.shape_laws.proofs.CollapseDone.{collapse_kept}
use Rattle.shape_laws.proofs.kept_shape.collapse_keeps_shape.Goals as goal

pub returns-in-Collapse-clause-exact : goal.returns-in-Collapse-clause-exact
returns-in-Collapse-clause-exact g c =
    let m = g.S.Surface.mesh c.args.mesh.now in
    IfOk-weaker c.has_plain_link.result (λ plain. plain ≡ has_plain_link m c.in-Collapse.a c.in-Collapse.b) (λ kept. kept ≡ collapse_keeps_shape m c.args.change.now)
    (λ plain is. is ∙ sym (ap (collapse_keeps_shape m) c.in-Collapse.is)) c.has_plain_link.ensures

pub returns-in-Collapse-clause-kept : goal.returns-in-Collapse-clause-kept
returns-in-Collapse-clause-kept g c =
    let m = g.S.Surface.mesh c.args.mesh.now in
    IfOk-weaker c.has_plain_link.result (λ plain. plain ≡ has_plain_link m c.in-Collapse.a c.in-Collapse.b)
    (λ kept. kept ≡ true → IsClosed m → IsAnswered m c.args.change.now → HaveSameShape m (edited m c.args.change.now))
    (λ plain is told closed done. collapse_kept meets_exactly DEPTH_MAX m c.args.change.now (g.met.S.Surface.sound c.args.mesh.now) closed done
    (ap (collapse_keeps_shape m) c.in-Collapse.is ∙ sym is ∙ told))
    c.has_plain_link.ensures
