use Rattle.std.proofs.Common.{◌≡◌, ℕ, List, [], length, ap, subst, ◌∙◌}
use Rattle.std.specs.List.{flat_map}
use Rattle.mesh_base.specs.Changes.{corner_list}
use Rattle.edit_base.specs.Edges.{corners_at}
use Rattle.mesh_measure.specs.Above.{AddsAbove}
use Rattle.mesh_measure.specs.Walk.{around}
use Rattle.mesh_measure.proofs.EdgesFrom.{near_is}
use Rattle.mesh_measure.proofs.edge_number.edges_from.Goals as goal

pub returns : goal.returns
returns g c =
    let m = g.S.Surface.mesh c.args.mesh.now in
    let v = c.args.v in
    let f : ℕ → List ℕ = λ f. corner_list (corners_at m f) in
    let put = c.put_around.new.near.items in
    let near = c.put_in_order.new.near.items in
    let all : flat_map f c.as_slice.result.now ≡ around m v = ap (flat_map f) (c.as_slice.ensures.value ∙ c.in_ok-faces_at.ensures.ok) in
    let adds : AddsAbove v (around m v) [] put = subst (λ us. AddsAbove v us [] put) all (subst (λ xs. AddsAbove v (flat_map f c.as_slice.result.now) xs put) c.clear.ensures.items c.in_ok-put_around.ensures) in
    c.len.ensures ∙ c.put_in_order.new.near.ok.0 ∙ ap length (near_is m (g.met.S.Surface.sound c.args.mesh.now) v near c.put_in_order.ensures.order (λ q. c.put_in_order.ensures.same q ∙ adds q))
