use Rattle.std.proofs.Common.{true, ap, sym, subst, ◌∙◌}
use Rattle.edit_check.specs.Looking.{first_there, HasNoneThere, with_edge_there}
use Rattle.edit_check.specs.Sides.{is_run_by_some}
use Rattle.edit_check.specs.Searching.{with_edge}
use Rattle.edit_check.proofs.Edges.{from_below, of_up, of_turned, fold_down}
use Rattle.edit_check.proofs.pair_search.with_side.Goals as goal

pub with_edge-requires : goal.with_edge-requires
with_edge-requires c off =
    let n = c.args.near.now in
    let e = c.args.side.now in
    of_up (HasNoneThere n) n.faces.now e (from_below e.a e.b (sym c.is_below.ensures ∙ c.if-is_below.true)) c.requires

pub with_edge-requires-then-is_below-2 : goal.with_edge-requires-then-is_below-2
with_edge-requires-then-is_below-2 c off =
    let n = c.args.near.now in
    let e = c.args.side.now in
    let away = ap (λ k. is_run_by_some k.a k.b n.faces.now) (sym c.turned.ensures) ∙ off in
    subst (HasNoneThere n) (sym c.turned.ensures)
    (of_turned (HasNoneThere n) n.faces.now e (from_below e.b e.a (sym c.is_below-2.ensures ∙ c.if-is_below-2.true)) away c.requires)

pub returns-then-is_below-2 : goal.returns-then-is_below-2
returns-then-is_below-2 c =
    let n = c.args.near.now in
    let e = c.args.side.now in
    c.with_edge-then-is_below-2.ensures
    ∙ ap (with_edge_there n true c.args.found) c.turned.ensures
    ∙ fold_down (with_edge (first_there n)) c.args.found n.faces.now e (sym c.is_below-2.ensures ∙ c.if-is_below-2.true)
