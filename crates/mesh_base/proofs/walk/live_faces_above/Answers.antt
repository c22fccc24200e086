use Rattle.std.proofs.Common.{◌≡◌, ◌++◌, [], ◌∷◌, Some, append_assoc, append-nil, ap, refl, sym, ◌∙◌, arith}
use Rattle.std.specs.FinMap as map
use Rattle.mesh_base.specs.Sides.{above}
use Rattle.mesh_base.proofs.WalkSteps.{above-step, above-end}
use Rattle.mesh_base.proofs.walk.live_faces_above.Goals as goal

pub loop-f-init : goal.loop-f-init
loop-f-init g c = rw c.new-ids.ensures refl

pub loop-f-smaller : goal.loop-f-smaller
loop-f-smaller g c =
    let faces = (g.S.Surface.mesh c.args.mesh.now).faces in
    let rest = above-step faces c.loop-f.last c.f.inside.0 (sym c.in-Some.ensures ∙ ap Some (sym c.f.view_is)) in
    rw rest (omega arith)

pub loop-f-preserved : goal.loop-f-preserved
loop-f-preserved g c =
    let faces = (g.S.Surface.mesh c.args.mesh.now).faces in
    let rest = above-step faces c.loop-f.last c.f.inside.0 (sym c.in-Some.ensures ∙ ap Some (sym c.f.view_is)) in
    let stored : c.push.new.self ≡ c.loop-f.ids ++ c.f.inside.0 ∷ [] = c.in_ok-push.ensures.ok ∙ ap (λ f. c.loop-f.ids ++ f ∷ []) (sym c.f.view_is) in
    ap (λ ids. ids ++ above c.f.inside.0 (map.keys faces)) stored
    ∙ append_assoc c.loop-f.ids (c.f.inside.0 ∷ []) (above c.f.inside.0 (map.keys faces))
    ∙ ap (λ ids. c.loop-f.ids ++ ids) (sym rest) ∙ c.loop-f.invariant

pub returns : goal.returns
returns g c =
    let faces = (g.S.Surface.mesh c.args.mesh.now).faces in
    let none = above-end c.loop-f.last (map.keys faces) (sym c.face_after.ensures ∙ c.in_default.is) in
    sym (append-nil c.loop-f.ids) ∙ ap (λ ids. c.loop-f.ids ++ ids) (sym none) ∙ c.loop-f.invariant
