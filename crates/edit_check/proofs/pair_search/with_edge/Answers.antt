use Rattle.std.proofs.Common.{ap, sym, subst, ◌∙◌}
use Rattle.pair_paths.specs.Bounds.{HoldsEdge}
use Rattle.edit_check.specs.Looking.{first_there, is_run_if_turned, with_edge_there}
use Rattle.edit_check.specs.Searching.{with_edge, is_settled}
use Rattle.edit_check.proofs.Settling.{passed_over, left_out, settled_already, none_there}
use Rattle.edit_check.proofs.pair_search.with_edge.Goals as goal

pub returns-then-is_settled : goal.returns-then-is_settled
returns-then-is_settled c =
    let n = c.args.near.now in
    let e = c.args.edge.now in
    let found = c.args.found in
    passed_over (is_run_if_turned n c.args.is_turned e) found (with_edge (first_there n) found e)
    (λ off. settled_already (first_there n) found e (sym c.is_settled.ensures ∙ c.if-is_settled.true))

pub returns-then-not-overlaps : goal.returns-then-not-overlaps
returns-then-not-overlaps c =
    let n = c.args.near.now in
    let e = c.args.edge.now in
    let found = c.args.found in
    let box = c.boxed_edge-e.result.bounds in
    passed_over (is_run_if_turned n c.args.is_turned e) found (with_edge (first_there n) found e)
    (λ off. none_there (first_there n) found e (c.requires off box (subst (λ k. HoldsEdge k box) c.boxed_edge-e.ensures c.boxed_edge-e.result.held) (sym c.if-not-overlaps.ensures)))

pub returns-then-is_left_out : goal.returns-then-is_left_out
returns-then-is_left_out c =
    let n = c.args.near.now in
    let e = c.args.edge.now in
    let found = c.args.found in
    left_out (is_run_if_turned n c.args.is_turned e) found (with_edge (first_there n) found e) (c.is_left_out.ensures c.if-is_left_out.true)

pub with_tested-requires : goal.with_tested-requires
with_tested-requires c = ap (λ k. is_settled c.args.found k.a k.b) c.boxed_edge-e.ensures ∙ sym c.is_settled.ensures ∙ c.if-is_settled.false

pub returns : goal.returns
returns c = c.with_tested.ensures ∙ ap (with_edge_there c.args.near.now c.args.is_turned c.args.found) c.boxed_edge-e.ensures
