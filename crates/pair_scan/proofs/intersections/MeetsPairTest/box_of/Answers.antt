use Rattle.pair_scan.proofs.Scans.{meets_none}
use Rattle.pair_scan.proofs.intersections.MeetsPairTest.box_of.Goals as goal

pub returns : goal.returns
returns c = meets_none c.args.frame.now c.args.e.now c.bounds_in.result c.bounds_in.ensures
