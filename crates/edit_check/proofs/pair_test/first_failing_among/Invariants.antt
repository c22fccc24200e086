use Rattle.std.proofs.Common.{◌≡◌, drop}
use Rattle.edit_check.specs.Boxed.{first_failing_boxed}
use Rattle.edit_check.proofs.pair_test.first_failing_among.Given as goal

-- the first that fails is among those that are left
abbrev pub invariant-loop-f : goal.invariant-loop-f
invariant-loop-f l = first_failing_boxed l.touch l.together l.depth l.e.edge (drop l.f-index l.faces) ≡ first_failing_boxed l.touch l.together l.depth l.e.edge l.faces
