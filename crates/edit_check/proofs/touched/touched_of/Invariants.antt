use Rattle.std.proofs.Common.{◌≡◌, ◌++◌, drop}
use Rattle.edit_check.specs.Boxed.{touched_boxed}
use Rattle.edit_check.proofs.touched.touched_of.Given as goal

-- those so far, and those of the faces that are left, are all
abbrev pub invariant-loop-f : goal.invariant-loop-f
invariant-loop-f l = l.touched.items ++ touched_boxed l.moves l.together l.fresh_from (drop l.f-index l.faces) ≡ touched_boxed l.moves l.together l.fresh_from l.faces
