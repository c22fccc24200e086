use Rattle.std.proofs.Common.{ap, sym, ◌∙◌}
use Rattle.half_mesh.proofs.Vertices.{len-points}
use Rattle.half_mesh.specs.States.{Ledger}
use Rattle.half_mesh.proofs.tables.Tables.vertices.Goals as goal

pub returns : goal.returns
returns c = rw (← ap (λ (x : Ledger). x.state.mesh) c.self.view_is) (c.len.ensures ∙ sym (len-points c.self.inside.fans.woven.fans))
