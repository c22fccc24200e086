use Rattle.std.proofs.Common.{◌≡◌, ◌++◌, map}
use Rattle.std.specs.List.{range_with_len}
use Rattle.step_text.specs.declared.Directive.TheVariants.{ShiftOne}
use Rattle.mesh_make.specs.CubeSteps.{cube_shift, cube_with}
use Rattle.mesh_make.proofs.steps.push_step.Given as goal

abbrev pub invariant-loop-i : goal.invariant-loop-i
invariant-loop-i l = l.directives ≡ l.initial.directives ++ map (λ v. ShiftOne v (cube_shift l.key l.step (cube_with v))) (range_with_len 1 l.i)
