use Rattle.mesh_base.proofs.Ordered.{made_removed}
use Rattle.mesh_plain.proofs.tables.Tables.drop_face.Goals as goal

pub returns : goal.returns
returns c = rw (← c.self.view_is, ← c.f.view_is, made_removed c.self.inside.faces.entries c.remove.new.self.entries c.f.inside.0 c.remove.ensures.updates.0)
