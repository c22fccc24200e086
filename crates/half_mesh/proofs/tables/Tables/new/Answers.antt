use Rattle.std.proofs.Common.{ap, ◌∙◌}
use Rattle.half_mesh.specs.Fans.{Fan}
use Rattle.half_mesh.specs.declared.row.Vertex.{Vertex}
use Rattle.half_mesh.specs.Mapped.{map_values}
use Rattle.half_mesh.specs.Vertices.{vertices_in, points_in, solid_in}
use Rattle.half_mesh.proofs.Vertices.{solid-empty}
use Rattle.half_mesh.specs.Tied.{corners_at}
use Rattle.half_mesh.proofs.Mapped.{map_values-empty}
use Rattle.half_mesh.proofs.TiedLaws.{tied-empty}
use Rattle.half_mesh.proofs.Ledgers.{no-rings}
use Rattle.half_mesh.proofs.tables.Tables.new.Goals as goal

pub invariant_of-result : goal.invariant_of-result
invariant_of-result c = record {
  live = tied-empty c.new.result.woven c.new-2.result.live c.new.ensures.fans c.new-2.ensures.live;
  buried = no-rings c.new.result.woven.sides c.new-2.result.buried c.new-2.ensures.buried;
}

pub returns : goal.returns
returns c =
    let vertices = ap vertices_in c.new.ensures.fans ∙ map_values-empty (λ (x : Fan). x.vertex) in
    let points = ap points_in vertices ∙ map_values-empty (λ (x : Vertex). x.point) in
    let solid = ap solid_in vertices ∙ solid-empty in
    let faces = ap (map_values (corners_at c.new.result.woven.sides)) c.new-2.ensures.live ∙ map_values-empty (corners_at c.new.result.woven.sides) in
    let below = ap points_in c.new.ensures.buried ∙ map_values-empty (λ (x : Vertex). x.point) in
    let rings = ap (map_values (corners_at c.new.result.woven.sides)) c.new-2.ensures.buried ∙ map_values-empty (corners_at c.new.result.woven.sides) in
    let marks = ap solid_in c.new.ensures.buried ∙ solid-empty in
    λ i. record {
      mesh = record { points = points i; faces = faces i; solid = solid i; next_vertex = 1; next_face = 1; limits = c.limits.ensures i };
      buried = record { points = below i; faces = rings i; solid = marks i };
    }
