use Rattle.std.proofs.Common.{sym, ap, ◌∙◌}
use Rattle.grid_base.specs.declared.TheConstants.{DEPTH_MAX}
use Rattle.grid_decided.specs.Decided.{meets_exactly}
use Rattle.shape_laws.specs.Kept.{keeps_shape}
use Rattle.shape_laws.proofs.Done.{shape_kept}
use Rattle.shape_laws.proofs.kept_shape.keeps_shape.Goals as goal

pub returns-in-Split-clause-kept : goal.returns-in-Split-clause-kept
returns-in-Split-clause-kept g c told closed done =
    let m = g.S.Surface.mesh c.args.mesh.now in
    shape_kept meets_exactly DEPTH_MAX m c.args.change.now (g.met.S.Surface.sound c.args.mesh.now) closed done
    (ap (keeps_shape m) c.in-Split.is ∙ sym c.has_two_opposites.ensures ∙ told)

pub returns-in-Flip-clause-kept : goal.returns-in-Flip-clause-kept
returns-in-Flip-clause-kept g c told closed done =
    let m = g.S.Surface.mesh c.args.mesh.now in
    shape_kept meets_exactly DEPTH_MAX m c.args.change.now (g.met.S.Surface.sound c.args.mesh.now) closed done (ap (keeps_shape m) c.in-Flip.is)
