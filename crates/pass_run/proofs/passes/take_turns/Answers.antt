use Rattle.std.proofs.Common.{◌≤◌, [], length, sym, ◌∙◌, arith}
use Rattle.std.proofs.lemmas.Result.{err_from_is_err_and}
use Rattle.pass_run.specs.Results.{exact_answer}
use Rattle.pass_run.proofs.Turning.{taking_first, taking_on, taking_in_part, taking_wanting, taking_over, taking_all}
use Rattle.pass_run.proofs.passes.take_turns.Goals as goal

pub loop-what-init : goal.loop-what-init
loop-what-init g c = record {
  taking = taking_first (g.C.Chooses.may_choose c.args.turns.by.now) (exact_answer c.args.turns.depth) c.args.turns.grouped _ c.args.candidates.now _ c.requires.closed c.requires.clear c.no_edit-count.ensures.done c.no_edit-count.ensures.refused;
  sum = omega (arith, c.no_edit-count.ensures.done, c.no_edit-count.ensures.refused);
}

pub returns-then-is_over-clause-takes : goal.returns-then-is_over-clause-takes
returns-then-is_over-clause-takes g c =
    taking_over (g.C.Chooses.may_choose c.args.turns.by.now) (exact_answer c.args.turns.depth) c.args.turns.grouped _ _ c.args.candidates.now c.loop-what.what-index c.loop-what.count c.loop-what.invariant.taking (sym c.is_over.ensures ∙ c.if-is_over.true)

pub choice-requires-clause-closed : goal.choice-requires-clause-closed
choice-requires-clause-closed g c = (c.loop-what.invariant.taking.so_far []).keeps.closed

pub take_one-requires-clause-closed : goal.take_one-requires-clause-closed
take_one-requires-clause-closed g c = (c.loop-what.invariant.taking.so_far []).keeps.closed

pub take_one-requires-clause-clear : goal.take_one-requires-clause-clear
take_one-requires-clause-clear g c = (c.loop-what.invariant.taking.so_far []).keeps.clear

pub returns-in_err-call-clause-takes : goal.returns-in_err-call-clause-takes
returns-in_err-call-clause-takes g c =
    let p = err_from_is_err_and c.from_residual.result c.from_residual.ensures.1 in
    rw (p.1, p.2) (taking_wanting (g.C.Chooses.may_choose c.args.turns.by.now) (exact_answer c.args.turns.depth) c.args.turns.grouped _ _ c.args.candidates.now c.loop-what.what-index c.loop-what.count c.loop-what.invariant.taking)

pub returns-in_err-more-clause-takes : goal.returns-in_err-more-clause-takes
returns-in_err-more-clause-takes g c =
    let p = err_from_is_err_and c.from_residual-in_err-more.result c.from_residual-in_err-more.ensures.1 in
    rw (p.1, p.2) (taking_in_part (g.C.Chooses.may_choose c.args.turns.by.now) (exact_answer c.args.turns.depth) c.args.turns.grouped _ _ _ c.args.candidates.now c.loop-what.what-index c.loop-what.count c.loop-what.invariant.taking
    c.what-item.result c.loop-what-test.true c.what-item.is (sym c.is_over.ensures ∙ c.if-is_over.false) c.in_ok-call.call c.in_ok-call.ensures c.in_err-more.field-0.0 c.in_err-more.ensures.takes)

pub loop-what-preserved : goal.loop-what-preserved
loop-what-preserved g c = record {
  taking = taking_on (g.C.Chooses.may_choose c.args.turns.by.now) (exact_answer c.args.turns.depth) c.args.turns.grouped _ _ _ c.args.candidates.now c.loop-what.what-index c.loop-what.count c.loop-what.invariant.taking
      c.what-item.result c.loop-what-test.true c.what-item.is (sym c.is_over.ensures ∙ c.if-is_over.false) c.in_ok-call.call c.in_ok-call.ensures c.in_ok-more.more c.sum-count.result c.sum-count.ensures.done c.sum-count.ensures.refused c.in_ok-more.ensures.takes;
  sum = omega (arith, c.in_ok-more.ensures.sum, c.loop-what.invariant.sum, c.sum-count.ensures.done, c.sum-count.ensures.refused);
}

pub returns-clause-takes : goal.returns-clause-takes
returns-clause-takes g c =
    let end : length c.args.candidates.now ≤ c.loop-what.what-index = omega (arith, c.loop-what-test.false) in
    taking_all (g.C.Chooses.may_choose c.args.turns.by.now) (exact_answer c.args.turns.depth) c.args.turns.grouped _ _ c.args.candidates.now c.loop-what.what-index c.loop-what.count c.loop-what.invariant.taking end
