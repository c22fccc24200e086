use Rattle.std.proofs.lemmas.Result.{err_from_is_err_and}
use Rattle.pass_run.proofs.EdgeTurns.{turn_result, places_again}
use Rattle.pass_run.proofs.Stages.{nothing_yet}
use Rattle.pass_run.proofs.edge_pass.take_edge.Goals as goal

pub returns-in_err-call-clause-takes : goal.returns-in_err-call-clause-takes
returns-in_err-call-clause-takes g c =
    let p = err_from_is_err_and c.from_residual.result c.from_residual.ensures.1 in
    rw (p.1, p.2) (nothing_yet _ _ c.requires.closed c.requires.clear)

pub returns-in_err-count-clause-takes : goal.returns-in_err-count-clause-takes
returns-in_err-count-clause-takes g c =
    let p = err_from_is_err_and c.from_residual-in_err-count.result c.from_residual-in_err-count.ensures.1 in
    rw (p.1, p.2) (turn_result c.args.terms c.args.e _ _ _ c.ask_of-what.result c.in_ok-call.call c.ask_of-what.ensures c.in_ok-call.ensures c.in_err-count.ensures.takes)

pub returns-clause-takes : goal.returns-clause-takes
returns-clause-takes g c = turn_result c.args.terms c.args.e _ _ _ c.ask_of-what.result c.in_ok-call.call c.ask_of-what.ensures c.in_ok-call.ensures c.in_ok-count.ensures.takes

pub returns-clause-places : goal.returns-clause-places
returns-clause-places g c =
    places_again c.args.terms c.args.e _ _ c.in_ok-count.count (turn_result c.args.terms c.args.e _ _ _ c.ask_of-what.result c.in_ok-call.call c.ask_of-what.ensures c.in_ok-call.ensures c.in_ok-count.ensures.takes)
    c.args.places.now.items _ _ c.requires.places c.place_again.ensures.others c.place_again.ensures.length c.place_again-2.ensures.others c.place_again-2.ensures.length
