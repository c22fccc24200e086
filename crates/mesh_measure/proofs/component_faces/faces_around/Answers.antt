use Rattle.std.proofs.Common.{◌++◌, ◌≤◌, take, length, sym, ap, ◌∙◌, arith}
use Rattle.std.proofs.lemmas.List.{take_all}
use Rattle.std.specs.List.{flat_map}
use Rattle.mesh_base.specs.Sides.{faces_at}
use Rattle.mesh_measure.proofs.Meeting.{one_more_face}
use Rattle.mesh_measure.proofs.component_faces.faces_around.Goals as goal

pub loop-v-preserved : goal.loop-v-preserved
loop-v-preserved g c =
    let m = g.S.Surface.mesh c.args.mesh.now in
    let vs = c.args.vertices.now in
    let i = c.loop-v.v-index in
    c.in_ok-put_ids.ensures
    ∙ ap (λ l. l ++ c.as_slice.result.now) c.loop-v.invariant
    ∙ ap (λ l. flat_map (faces_at m) (take i vs) ++ l) (c.as_slice.ensures.value ∙ c.in_ok-faces_at.ensures.ok)
    ∙ sym (one_more_face (faces_at m) vs i c.v-item.result c.loop-v-test.true c.v-item.is)

pub returns : goal.returns
returns g c =
    let m = g.S.Surface.mesh c.args.mesh.now in
    let vs = c.args.vertices.now in
    let end : length vs ≤ c.loop-v.v-index = omega arith in
    c.loop-v.invariant ∙ ap (flat_map (faces_at m)) (take_all c.loop-v.v-index vs end)
