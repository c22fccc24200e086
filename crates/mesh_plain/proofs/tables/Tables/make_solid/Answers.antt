use Rattle.mesh_base.proofs.Ordered.{made_inserted}
use Rattle.mesh_plain.proofs.tables.Tables.make_solid.Goals as goal

pub returns-clause-ok : goal.returns-clause-ok
returns-clause-ok c = rw (← c.self.view_is, ← c.v.view_is, made_inserted c.self.inside.solid.entries c.insert.new.self.entries c.v.inside.0 tt c.in_ok-insert.ensures.updates.0)
