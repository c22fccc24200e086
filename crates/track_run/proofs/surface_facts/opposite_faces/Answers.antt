use Rattle.std.proofs.Common.{sym, ap, ◌∙◌, ◌&&◌}
use Rattle.std.specs.List.{list_any}
use Rattle.track_run.specs.Surface.{rises, has_opposite}
use Rattle.track_run.proofs.RisingFaces.{none_opposite}
use Rattle.track_run.proofs.surface_facts.opposite_faces.Goals as goal

pub returns-then-not-have_opposite : goal.returns-then-not-have_opposite
returns-then-not-have_opposite g c =
    let m = g.S.Surface.mesh c.args.mesh.now in
    sym (none_opposite m (g.met.S.Surface.sound c.args.mesh.now) (ap (λ fs. list_any (λ k. rises k && has_opposite m k) fs) (sym c.requires) ∙ sym c.if-not-have_opposite.ensures))
