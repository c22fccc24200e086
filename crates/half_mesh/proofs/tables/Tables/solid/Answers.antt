use Rattle.std.proofs.Common.{sym, ap, ◌∙◌}
use Rattle.half_mesh.specs.Vertices.{vertices_in, is_marked}
use Rattle.half_mesh.proofs.Vertices.{get-vertices, solid-at}
use Rattle.half_mesh.specs.States.{Ledger}
use Rattle.half_mesh.proofs.tables.Tables.solid.Goals as goal

pub returns-in-Some : goal.returns-in-Some
returns-in-Some c =
    rw (← ap (λ (x : Ledger). x.state.mesh) c.self.view_is, ← c.v.view_is) (ap is_marked (c.in-Some.ensures ∙ sym (get-vertices c.self.inside.fans.woven.fans c.v.inside.0)) ∙ sym (solid-at (vertices_in c.self.inside.fans.woven.fans) c.v.inside.0))

pub returns-in-None : goal.returns-in-None
returns-in-None c =
    rw (← ap (λ (x : Ledger). x.state.mesh) c.self.view_is, ← c.v.view_is) (ap is_marked (c.in-None.ensures ∙ sym (get-vertices c.self.inside.fans.woven.fans c.v.inside.0)) ∙ sym (solid-at (vertices_in c.self.inside.fans.woven.fans) c.v.inside.0))
