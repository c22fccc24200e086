use Rattle.std.proofs.Common.{sym, ◌∙◌}
use Rattle.mesh_base.proofs.Ordered.{len-made}
use Rattle.mesh_plain.proofs.tables.Tables.faces.Goals as goal

pub returns : goal.returns
returns c = rw (← c.self.view_is) (c.len.ensures.len ∙ sym (len-made _ c.len.ensures.ordered))
