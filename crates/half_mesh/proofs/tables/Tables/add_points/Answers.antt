use Rattle.std.proofs.Common.{◌≡◌, ◌<◌, ◌≤◌, ℕ, length, take, get_or, [], ◌∷◌, ◌++◌, sym, ap, subst, ◌∙◌, arith}
use Rattle.std.proofs.lemmas.List.{take_more, length-take-le}
use Rattle.std.specs.FinMap as finite
use Rattle.mesh_base.specs.Given.{mesh_under}
use Rattle.mesh_base.specs.Mesh.{IsLiveVertex}
use Rattle.mesh_base.specs.Changes.{with_vertex}
use Rattle.mesh_shape.proofs.Lists.{mesh_under-point, sound-mesh_under, len_numbered}
use Rattle.half_mesh.proofs.GivenLists.{vertex_ids_of}
use Rattle.half_mesh.specs.States.{State, none_buried, with_mesh}
use Rattle.half_mesh.proofs.tables.Tables.add_points.Goals as goal

pub add_vertex-requires-clause-ids : goal.add_vertex-requires-clause-ids
add_vertex-requires-clause-ids c = subst (λ m. (v : ℕ) → IsLiveVertex m v → v < m.next_vertex) (sym (ap (λ (x : State). x.mesh) c.loop-p.invariant)) (vertex_ids_of c.args.scale (take c.loop-p.p-index c.args.lists.now.points) [])

pub add_vertex-requires-clause-next : goal.add_vertex-requires-clause-next
add_vertex-requires-clause-next c =
    let next = ap (λ (x : State). x.mesh.next_vertex) c.loop-p.invariant in
    let sound = sound-mesh_under c.args.scale c.args.lists.now.points c.args.lists.now.faces c.requires.fit in
    let few = sound.limits.vertex_ids in
    let inside : c.loop-p.p-index ≤ length c.args.lists.now.points = omega (arith, ap length c.as_slice-p-items.ensures) in
    let long = length-take-le c.loop-p.p-index c.args.lists.now.points in
    omega (arith, next, few, long)

pub add_vertex-requires-clause-few : goal.add_vertex-requires-clause-few
add_vertex-requires-clause-few c =
    let ps = c.args.lists.now.points in
    let inside : c.loop-p.p-index ≤ length ps = omega (arith, ap length c.as_slice-p-items.ensures) in
    let long = length-take-le c.loop-p.p-index ps in
    let now = len_numbered (take c.loop-p.p-index ps) in
    let count = ap (λ (x : State). finite.len x.mesh.points) c.loop-p.invariant in
    let all = len_numbered ps in
    let sound = sound-mesh_under c.args.scale ps c.args.lists.now.faces c.requires.fit in
    let limit = sound.limits.vertices in
    omega (arith, inside, long, now, count, all, limit)

pub loop-p-preserved : goal.loop-p-preserved
loop-p-preserved c =
    let ps = c.args.lists.now.points in
    let i = c.loop-p.p-index in
    let p = c.p-item.result in
    let inside : i < length ps = omega (arith, ap length c.as_slice-p-items.ensures) in
    let here : get_or ps i p ≡ p = sym (c.p-item.is ∙ ap (λ xs. get_or xs i p) c.as_slice-p-items.ensures) in
    c.in_ok-add_vertex.ensures.ok
    ∙ ap (λ (x : State). with_mesh x (with_vertex x.mesh p)) c.loop-p.invariant
    ∙ ap (λ m. record { mesh = m; buried = none_buried }) (mesh_under-point c.args.scale (take i ps) p ∙ ap (λ xs. mesh_under c.args.scale xs []) (ap (λ x. take i ps ++ x ∷ []) (sym here) ∙ sym (take_more ps i p inside)))
