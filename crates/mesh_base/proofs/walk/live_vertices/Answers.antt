use Rattle.std.proofs.Common.{◌≡◌, ◌++◌, [], ◌∷◌, Some, append_assoc, append-nil, ap, sym, ◌∙◌, arith}
use Rattle.std.specs.FinMap as map
use Rattle.mesh_base.specs.Sides.{above}
use Rattle.mesh_base.proofs.WalkSteps.{walk-start, above-step, above-end}
use Rattle.mesh_base.proofs.walk.live_vertices.Goals as goal

pub loop-v-init : goal.loop-v-init
loop-v-init g c =
    let points = (g.S.Surface.mesh c.args.mesh.now).points in
    let start = walk-start points (λ q h. ((g.met.S.Surface.sound c.args.mesh.now).is_mesh.vertex_ids q h).0) in
    rw c.new-ids.ensures start

pub loop-v-smaller : goal.loop-v-smaller
loop-v-smaller g c =
    let points = (g.S.Surface.mesh c.args.mesh.now).points in
    let rest = above-step points c.loop-v.last c.v.inside.0 (sym c.in-Some.ensures ∙ ap Some (sym c.v.view_is)) in
    rw rest (omega arith)

pub loop-v-preserved : goal.loop-v-preserved
loop-v-preserved g c =
    let points = (g.S.Surface.mesh c.args.mesh.now).points in
    let rest = above-step points c.loop-v.last c.v.inside.0 (sym c.in-Some.ensures ∙ ap Some (sym c.v.view_is)) in
    let stored : c.push.new.self ≡ c.loop-v.ids ++ c.v.inside.0 ∷ [] = c.in_ok-push.ensures.ok ∙ ap (λ f. c.loop-v.ids ++ f ∷ []) (sym c.v.view_is) in
    ap (λ ids. ids ++ above c.v.inside.0 (map.keys points)) stored
    ∙ append_assoc c.loop-v.ids (c.v.inside.0 ∷ []) (above c.v.inside.0 (map.keys points))
    ∙ ap (λ ids. c.loop-v.ids ++ ids) (sym rest) ∙ c.loop-v.invariant

pub returns : goal.returns
returns g c =
    let points = (g.S.Surface.mesh c.args.mesh.now).points in
    let none = above-end c.loop-v.last (map.keys points) (sym c.vertex_after.ensures ∙ c.in_default.is) in
    sym (append-nil c.loop-v.ids) ∙ ap (λ ids. c.loop-v.ids ++ ids) (sym none) ∙ c.loop-v.invariant
