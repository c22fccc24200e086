use Rattle.mesh_base.proofs.Ordered.{entries-made}
use Rattle.mesh_plain.proofs.tables.Tables.faces_at.Goals as goal

pub loop-id-init : goal.loop-id-init
loop-id-init c =
    let e = c.into_iter-id-iterator.ensures.into_iter_gives in
    rw (← c.self.view_is, entries-made c.self.inside.faces.entries e.5, c.clear.ensures.items, e.0)
