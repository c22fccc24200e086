use Rattle.std.proofs.Common.{◌≡◌, ◌*◌, ◌≤◌, Some, length, ap, sym, ◌∙◌, arith}
use Rattle.std.specs.List.{flat_map}
use Rattle.std.specs.FinMap as map
use Rattle.grid_base.specs.declared.TheConstants.{VERTICES_MAX}
use Rattle.mesh_base.specs.Pairs.{edges}
use Rattle.mesh_base.specs.Sides.{above}
use Rattle.mesh_base.proofs.WalkSteps.{walk-start, above-step, above-end}
use Rattle.mesh_measure.specs.Above.{edges_from}
use Rattle.mesh_measure.proofs.ShapeSteps.{few_edges, from_none}
use Rattle.mesh_measure.proofs.EdgesFrom.{edges_by_vertex, counted_on, counted_all}
use Rattle.mesh_measure.proofs.edge_number.edge_count.Goals as goal

pub loop-v-init : goal.loop-v-init
loop-v-init g c =
    let m = g.S.Surface.mesh c.args.mesh.now in
    let start = walk-start m.points (λ q h. ((g.met.S.Surface.sound c.args.mesh.now).is_mesh.vertex_ids q h).0) in
    from_none (length (flat_map (edges_from m) (above 0 (map.keys m.points)))) (length (edges m)) (ap (λ ids. length (flat_map (edges_from m) ids)) start ∙ edges_by_vertex m)

pub overflow_add-count : goal.overflow_add-count
overflow_add-count g c =
    let m = g.S.Surface.mesh c.args.mesh.now in
    let v = c.in-Some.v in
    let few : length (edges m) ≤ VERTICES_MAX * VERTICES_MAX = few_edges m (g.met.S.Surface.sound c.args.mesh.now) in
    let rest = above-step m.points c.loop-v.last v (sym c.in-Some.ensures) in
    let next = counted_on m c.loop-v.count c.in_ok-more.more v (length (edges m)) (above c.loop-v.last (map.keys m.points)) (above v (map.keys m.points)) rest c.in_ok-more.ensures c.loop-v.invariant in
    omega (arith, few, next)

pub loop-v-smaller : goal.loop-v-smaller
loop-v-smaller g c =
    let points = (g.S.Surface.mesh c.args.mesh.now).points in
    let rest = above-step points c.loop-v.last c.v.inside.0 (sym c.in-Some.ensures ∙ ap Some (sym c.v.view_is)) in
    rw rest (omega arith)

pub loop-v-preserved : goal.loop-v-preserved
loop-v-preserved g c =
    let m = g.S.Surface.mesh c.args.mesh.now in
    let rest = above-step m.points c.loop-v.last c.v.inside.0 (sym c.in-Some.ensures ∙ ap Some (sym c.v.view_is)) in
    let more : c.in_ok-more.more ≡ length (edges_from m c.v.inside.0) = c.in_ok-more.ensures ∙ ap (λ v. length (edges_from m v)) (sym c.v.view_is) in
    counted_on m c.loop-v.count c.in_ok-more.more c.v.inside.0 (length (edges m)) (above c.loop-v.last (map.keys m.points)) (above c.v.inside.0 (map.keys m.points)) rest more c.loop-v.invariant

pub returns : goal.returns
returns g c =
    let m = g.S.Surface.mesh c.args.mesh.now in
    let none = above-end c.loop-v.last (map.keys m.points) (sym c.vertex_after.ensures ∙ c.in_default.is) in
    counted_all m c.loop-v.count (length (edges m)) (above c.loop-v.last (map.keys m.points)) none c.loop-v.invariant
