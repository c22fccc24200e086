use Rattle.std.proofs.Common.{◌∙◌}
use Rattle.mesh_base.proofs.Ordered.{get_made}
use Rattle.mesh_plain.proofs.tables.Tables.point.Goals as goal

pub returns : goal.returns
returns c = rw (← c.self.view_is, ← c.v.view_is, get_made) (c.copied.ensures ∙ c.get.ensures.value)
