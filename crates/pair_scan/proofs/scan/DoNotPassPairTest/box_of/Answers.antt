use Rattle.pair_scan.proofs.Fails.{passed_apart}
use Rattle.pair_scan.proofs.scan.DoNotPassPairTest.box_of.Goals as goal

pub returns : goal.returns
returns c = passed_apart c.args.self.now.depth c.args.frame.now c.args.e.now c.bounds_in.result c.bounds_in.ensures
