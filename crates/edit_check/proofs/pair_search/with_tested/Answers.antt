use Rattle.std.proofs.Common.{sym, ◌∙◌}
use Rattle.edit_check.specs.Looking.{first_there, is_run_if_turned}
use Rattle.edit_check.specs.Searching.{with_edge}
use Rattle.edit_check.proofs.Settling.{passed_over, left_out, is_new, none_there}
use Rattle.edit_check.proofs.pair_search.with_tested.Goals as goal

pub returns-then-is_run_if_turned : goal.returns-then-is_run_if_turned
returns-then-is_run_if_turned c =
    let n = c.args.near.now in
    let e = c.args.e.now.edge in
    left_out (is_run_if_turned n c.args.is_turned e) c.args.found (with_edge (first_there n) c.args.found e)
    (sym c.is_run_if_turned.ensures ∙ c.if-is_run_if_turned.true)

pub returns-else-is_run_if_turned : goal.returns-else-is_run_if_turned
returns-else-is_run_if_turned c =
    let n = c.args.near.now in
    let e = c.args.e.now.edge in
    is_new (first_there n) (is_run_if_turned n c.args.is_turned e) c.args.found e c.in-Some.name (sym c.is_run_if_turned.ensures ∙ c.if-is_run_if_turned.false) c.requires
    (sym c.first_near.ensures ∙ c.in-Some.is)

pub returns-in-None : goal.returns-in-None
returns-in-None c =
    let n = c.args.near.now in
    let e = c.args.e.now.edge in
    passed_over (is_run_if_turned n c.args.is_turned e) c.args.found (with_edge (first_there n) c.args.found e)
    (λ off. none_there (first_there n) c.args.found e (sym c.first_near.ensures ∙ c.in-None.is))
