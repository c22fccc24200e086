use Rattle.std.proofs.Common.{◌∙◌, sym}
use Rattle.mesh_journal.proofs.Boxed.{corners-kept}
use Rattle.mesh_journal.proofs.Walked.{not_gone}
use Rattle.mesh_journal.proofs.index.Index.drop_gone.Goals as goal

pub returns : goal.returns
returns g c = λ boxed f d has.
    let m = g.B.Surface.mesh c.args.mesh.now in
    corners-kept c.args.self.now.grid c.unset_box.new.boxes m f d
    (λ t h. c.unset_box.ensures f t (not_gone m c.args.f f d (sym c.corners.ensures ∙ c.in_default.is) has) h)
    (boxed f d has)
