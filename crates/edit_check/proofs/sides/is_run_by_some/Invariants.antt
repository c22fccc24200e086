use Rattle.std.proofs.Common.{◌≡◌, drop}
use Rattle.edit_check.specs.Sides.{is_run_by_some}
use Rattle.edit_check.proofs.sides.is_run_by_some.Given as goal

-- one runs so where one of those that are left does
abbrev pub invariant-loop-f : goal.invariant-loop-f
invariant-loop-f l = is_run_by_some l.u l.v (drop l.f-index l.faces) ≡ is_run_by_some l.u l.v l.faces
