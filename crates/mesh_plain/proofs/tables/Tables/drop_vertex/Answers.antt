use Rattle.mesh_base.proofs.Ordered.{made_removed}
use Rattle.mesh_plain.proofs.tables.Tables.drop_vertex.Goals as goal

pub returns : goal.returns
returns c = rw (← c.self.view_is, ← c.v.view_is, made_removed c.self.inside.points.entries c.remove.new.self.entries c.v.inside.0 c.remove.ensures.updates.0, made_removed c.self.inside.solid.entries c.remove-2.new.self.entries c.v.inside.0 c.remove-2.ensures.updates.0)
