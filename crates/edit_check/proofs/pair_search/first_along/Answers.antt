use Rattle.std.proofs.Common.{◌≡◌, ◌+◌, List, ◌∷◌, Option, drop, ap, sym, subst, ◌∙◌}
use Rattle.std.specs.List.{All, flat_map, fold}
use Rattle.std.proofs.lemmas.List.Elements.{All-get_or}
use Rattle.std.proofs.lemmas.List.Sums.{fold-append}
use Rattle.mesh_base.specs.declared.ids.PairName.{PairName}
use Rattle.pair_paths.specs.declared.MovingEdge.{MovingEdge}
use Rattle.pair_paths.proofs.Walks.{rest_at}
use Rattle.edit_check.specs.declared.boxed.BoxedFace.{BoxedFace}
use Rattle.edit_check.specs.Looking.{HasNoneThere}
use Rattle.edit_check.specs.Searching.{first_near, with_edge, edges_of}
use Rattle.edit_check.proofs.pair_search.first_along.Goals as goal

pub with_face-found-requires : goal.with_face-found-requires
with_face-found-requires c =
    let n = c.args.near.now in
    subst (λ f. All (HasNoneThere n) (edges_of n.faces.now f.face)) (sym c.f-item.is)
    (All-get_or (λ f. All (HasNoneThere n) (edges_of n.faces.now f.face)) n.faces.now c.loop-f.f-index c.f-item.result c.loop-f-test.true n.apart)

pub loop-f-preserved : goal.loop-f-preserved
loop-f-preserved c =
    let n = c.args.near.now in
    let faces = n.faces.now in
    let f = c.f-item.result in
    let behind : List BoxedFace = drop (c.loop-f.f-index + 1) faces in
    let look : Option PairName → MovingEdge → Option PairName = with_edge (first_near n.terms faces n.touched.now) in
    let edges : BoxedFace → List MovingEdge = λ g. edges_of faces g.face in
    let rest : drop c.loop-f.f-index faces ≡ f ∷ behind = rest_at faces c.loop-f.f-index f c.loop-f-test.true ∙ ap (λ g. g ∷ behind) (sym c.f-item.is) in
    ap (λ o. fold look o (flat_map edges behind)) c.with_face-found.ensures
    ∙ sym (fold-append look c.loop-f.found (edges f) (flat_map edges behind))
    ∙ sym (ap (λ gs. fold look c.loop-f.found (flat_map edges gs)) rest)
    ∙ c.loop-f.invariant
