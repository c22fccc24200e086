use Rattle.std.proofs.Common.{◌≡◌, drop}
use Rattle.edit_collapse.specs.Tried.{opposite_in}
use Rattle.edit_collapse.proofs.cancellation.opposite_in.Given as goal

abbrev pub invariant-loop-i : goal.invariant-loop-i
invariant-loop-i l = opposite_in (drop l.i l.faces) l.c ≡ opposite_in l.faces l.c
