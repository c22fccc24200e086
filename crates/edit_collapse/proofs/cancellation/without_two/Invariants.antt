use Rattle.std.proofs.Common.{◌≡◌, ◌++◌, drop}
use Rattle.edit_collapse.specs.Tried.{without_two}
use Rattle.edit_collapse.proofs.cancellation.without_two.Given as goal

abbrev pub invariant-loop-e : goal.invariant-loop-e
invariant-loop-e l = l.left ++ without_two l.f l.g (drop l.e-index l.faces) ≡ without_two l.f l.g l.faces
