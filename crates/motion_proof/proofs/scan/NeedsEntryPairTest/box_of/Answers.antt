use Rattle.motion_proof.proofs.NeedsApart.{none_needed}
use Rattle.motion_proof.proofs.scan.NeedsEntryPairTest.box_of.Goals as goal

pub returns : goal.returns
returns c = none_needed c.args.frame.now c.args.e.now c.bounds_in.result c.bounds_in.ensures
