use Rattle.std.proofs.Common.{◌≡◌, ◌++◌, [], List, Option, ap, sym, subst, ◌∙◌}
use Rattle.std.specs.List.{All, fold}
use Rattle.std.proofs.lemmas.List.Sums.{fold-append}
use Rattle.mesh_base.specs.declared.ids.PairName.{PairName}
use Rattle.pair_paths.specs.declared.MovingEdge.{MovingEdge}
use Rattle.edit_check.specs.Looking.{HasNoneThere, first_there}
use Rattle.edit_check.specs.Searching.{edges_at, with_edge}
use Rattle.edit_check.specs.Sides.{first_side, second_side, third_side}
use Rattle.edit_check.proofs.Edges.{of_sides}
use Rattle.edit_check.proofs.pair_search.with_face.Goals as goal

pub with_side-one-requires : goal.with_side-one-requires
with_side-one-requires c =
    let n = c.args.near.now in
    let P = HasNoneThere n in
    subst (λ e. All P (edges_at n.faces.now e)) (sym c.first_side.ensures) (of_sides P n.faces.now c.args.f.now c.requires).first

pub with_side-two-requires : goal.with_side-two-requires
with_side-two-requires c =
    let n = c.args.near.now in
    let P = HasNoneThere n in
    subst (λ e. All P (edges_at n.faces.now e)) (sym c.second_side.ensures) (of_sides P n.faces.now c.args.f.now c.requires).second

pub with_side-requires : goal.with_side-requires
with_side-requires c =
    let n = c.args.near.now in
    let P = HasNoneThere n in
    subst (λ e. All P (edges_at n.faces.now e)) (sym c.third_side.ensures) (of_sides P n.faces.now c.args.f.now c.requires).third

pub returns : goal.returns
returns c =
    let n = c.args.near.now in
    let f = c.args.f.now in
    let found = c.args.found in
    let look : Option PairName → MovingEdge → Option PairName = with_edge (first_there n) in
    let edges : MovingEdge → List MovingEdge = edges_at n.faces.now in
    let one = edges (first_side f) in
    let two = edges (second_side f) in
    let three = edges (third_side f) in
    let first : c.with_side-one.result ≡ fold look found one = c.with_side-one.ensures ∙ ap (λ e. fold look found (edges e)) c.first_side.ensures in
    let second : c.with_side-two.result ≡ fold look (fold look found one) two = c.with_side-two.ensures ∙ (λ i. fold look (first i) (edges (c.second_side.ensures i))) in
    c.with_side.ensures
    ∙ (λ i. fold look (second i) (edges (c.third_side.ensures i)))
    ∙ sym (fold-append look found one (two ++ (three ++ []))
    ∙ fold-append look (fold look found one) two (three ++ [])
    ∙ fold-append look (fold look (fold look found one) two) three [])
