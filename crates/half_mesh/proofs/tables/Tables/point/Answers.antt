use Rattle.std.proofs.Common.{sym, ap, ◌∙◌}
use Rattle.std.specs.Option.{option_map}
use Rattle.half_mesh.specs.declared.row.Vertex.{Vertex}
use Rattle.half_mesh.proofs.Mapped.{get-map_values}
use Rattle.half_mesh.proofs.Vertices.{get-vertices}
use Rattle.half_mesh.specs.Vertices.{vertices_in}
use Rattle.half_mesh.specs.States.{Ledger}
use Rattle.half_mesh.proofs.tables.Tables.point.Goals as goal

pub returns-in-Some : goal.returns-in-Some
returns-in-Some c =
    rw (← ap (λ (x : Ledger). x.state.mesh) c.self.view_is, ← c.v.view_is) (ap (option_map (λ (x : Vertex). x.point)) (c.in-Some.ensures ∙ sym (get-vertices c.self.inside.fans.woven.fans c.v.inside.0)) ∙ sym (get-map_values (λ (x : Vertex). x.point) (vertices_in c.self.inside.fans.woven.fans) c.v.inside.0))

pub returns-in-None : goal.returns-in-None
returns-in-None c =
    rw (← ap (λ (x : Ledger). x.state.mesh) c.self.view_is, ← c.v.view_is) (ap (option_map (λ (x : Vertex). x.point)) (c.in-None.ensures ∙ sym (get-vertices c.self.inside.fans.woven.fans c.v.inside.0)) ∙ sym (get-map_values (λ (x : Vertex). x.point) (vertices_in c.self.inside.fans.woven.fans) c.v.inside.0))
