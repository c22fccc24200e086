use Rattle.std.proofs.Common.{◌≡◌, drop}
use Rattle.edit_check.specs.Boxed.{is_side_of_boxed}
use Rattle.edit_check.proofs.pair_test.is_side_of_some.Given as goal

-- it is a side of one where it is of one of those that are left
abbrev pub invariant-loop-f : goal.invariant-loop-f
invariant-loop-f l = is_side_of_boxed l.a l.b (drop l.f-index l.faces) ≡ is_side_of_boxed l.a l.b l.faces
