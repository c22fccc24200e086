use Rattle.motion_test.specs.Pairs.{positions_of}
use Rattle.pair_scan.proofs.Fails.{is_passes}
use Rattle.edit_check.proofs.pair_test.pair_passes.Goals as goal

pub returns : goal.returns
returns c = is_passes c.passes.result c.args.depth (positions_of c.args.p.now.start) (positions_of c.args.p.now.end) c.passes.ensures.exact
