use Rattle.motion_test.specs.Pairs.{positions_of}
use Rattle.edit_check.proofs.Exact.{is_opens}
use Rattle.edit_check.proofs.pair_test.pair_opens.Goals as goal

pub returns : goal.returns
returns c = is_opens c.opens.result c.args.depth (positions_of c.args.p.now.start) (positions_of c.args.p.now.end) c.opens.ensures.exact
