use Rattle.std.proofs.Common.{sym}
use Rattle.edit_collapse.specs.Alike.{met_none}
use Rattle.edit_collapse.proofs.Unlike.{none_equal}
use Rattle.edit_collapse.proofs.cancellation.repeats.Goals as goal

pub returns : goal.returns
returns c = sym (none_equal met_none c.args.faces.now (c.in_ok-may.ensures c.if-may.false))
