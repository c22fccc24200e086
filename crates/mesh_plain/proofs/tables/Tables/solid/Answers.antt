use Rattle.mesh_base.proofs.Ordered.{get_made}
use Rattle.mesh_plain.proofs.tables.Tables.solid.Goals as goal

pub returns : goal.returns
returns c = rw (← c.self.view_is, ← c.v.view_is, get_made) c.contains_key.ensures
