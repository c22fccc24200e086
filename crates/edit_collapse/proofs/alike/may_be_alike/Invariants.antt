use Rattle.std.proofs.Common.{drop}
use Rattle.edit_collapse.specs.Alike.{AreUnlike, has_met, met_none}
use Rattle.edit_collapse.proofs.alike.may_be_alike.Given as goal

-- if those that are left are unlike, and unlike those that were met, all are
abbrev pub invariant-loop-e : goal.invariant-loop-e
invariant-loop-e l = AreUnlike (has_met l.met) (drop l.e-index l.faces) → AreUnlike met_none l.faces
