use Rattle.grid_base.proofs.ExtentReading.{overlaps-read, overlaps-not}
use Rattle.grid_base.proofs.extent.Extent.overlaps.Goals as goal

pub returns-then-not-meet_along-2 : goal.returns-then-not-meet_along-2
returns-then-not-meet_along-2 c = overlaps-not c.args.self.now c.args.other.now c.if-not-meet_along.ensures c.if-not-meet_along-2.ensures

pub returns : goal.returns
returns c = overlaps-read c.args.self.now c.args.other.now c.meet_along-3.result c.if-not-meet_along.ensures c.if-not-meet_along-2.ensures c.meet_along-3.ensures
