use Rattle.std.proofs.Common.{refl}
use Rattle.track_held.proofs.MeshLeft.{state_left, ready_left}
use Rattle.track_held.specs.Held.{engine_in}
use Rattle.track_held.proofs.held.Held.plan_drop.Goals as goal

pub drop_collapses-requires-clause-closed : goal.drop_collapses-requires-clause-closed
drop_collapses-requires-clause-closed g c = (c.args.self.now.ready c.requires.goes_on).invariant.now.good.closed

pub drop_collapses-requires-clause-clear : goal.drop_collapses-requires-clause-clear
drop_collapses-requires-clause-clear g c = (c.args.self.now.ready c.requires.goes_on).invariant.now.good.clear

pub drop_collapses-requires-clause-depth : goal.drop_collapses-requires-clause-depth
drop_collapses-requires-clause-depth g c = (c.args.self.now.ready c.requires.goes_on).limits.depth
