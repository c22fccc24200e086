use Rattle.std.proofs.Common.{◌≡◌, drop, map}
use Rattle.edit_base.specs.Edges.{has_equal}
use Rattle.edit_collapse.proofs.cancellation.compares_equal.Given as goal

abbrev pub invariant-loop-i : goal.invariant-loop-i
invariant-loop-i l = has_equal (map (λ e. e.1) (drop l.i l.faces)) ≡ has_equal (map (λ e. e.1) l.faces)
