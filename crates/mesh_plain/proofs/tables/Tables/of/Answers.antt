use Rattle.std.proofs.Common.{◌≡◌, ◌<◌, length, take, get_or, [], ◌∷◌, ◌++◌, sym, ap, ◌∙◌, arith}
use Rattle.std.proofs.lemmas.List.{take_more}
use Rattle.mesh_base.specs.Given.{mesh_under}
use Rattle.mesh_base.specs.Changes.{with_vertex, with_face, corners_of}
use Rattle.mesh_shape.proofs.Lists.{mesh_under-point, mesh_under-face}
use Rattle.mesh_plain.proofs.tables.Tables.of.Goals as goal

pub loop-p-preserved : goal.loop-p-preserved
loop-p-preserved c =
    let ps = c.args.lists.now.points in
    let i = c.loop-p.p-index in
    let p = c.p-item.result in
    let inside : i < length ps = omega (arith, ap length c.as_slice-p-items.ensures) in
    let here : get_or ps i p ≡ p = sym (c.p-item.is ∙ ap (λ xs. get_or xs i p) c.as_slice-p-items.ensures) in
    c.in_ok-add_vertex.ensures.ok
    ∙ ap (λ m. with_vertex m p) c.loop-p.invariant
    ∙ mesh_under-point c.args.scale (take i ps) p
    ∙ ap (λ xs. mesh_under c.args.scale xs []) (ap (λ x. take i ps ++ x ∷ []) (sym here) ∙ sym (take_more ps i p inside))

pub loop-f-preserved : goal.loop-f-preserved
loop-f-preserved c =
    let ps = c.args.lists.now.points in
    let fs = c.args.lists.now.faces in
    let i = c.loop-f.f-index in
    let inside : i < length fs = omega (arith, ap length c.as_slice-f-items.ensures) in
    let same = ap (λ xs. corners_of (get_or xs i [])) c.as_slice-f-items.ensures in
    c.in_ok-add_face.ensures.ok
    ∙ ap (λ x. with_face c.loop-f.tables x) (c.of.ensures ∙ same)
    ∙ ap (λ m. with_face m (corners_of (get_or fs i []))) c.loop-f.invariant
    ∙ mesh_under-face c.args.scale ps (take i fs) (get_or fs i [])
    ∙ ap (mesh_under c.args.scale ps) (sym (take_more fs i [] inside))
