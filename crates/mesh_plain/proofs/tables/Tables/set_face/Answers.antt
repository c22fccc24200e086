use Rattle.mesh_base.proofs.Ordered.{made_inserted}
use Rattle.mesh_plain.proofs.tables.Tables.set_face.Goals as goal

pub returns-clause-ok : goal.returns-clause-ok
returns-clause-ok c = rw (← c.self.view_is, ← c.f.view_is, made_inserted c.self.inside.faces.entries c.insert.new.self.entries c.f.inside.0 c.args.c c.in_ok-insert.ensures.updates.0)
