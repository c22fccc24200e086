use Rattle.std.proofs.Common.{◌≡◌, length}
use Rattle.mesh_make.specs.CubeSteps.{on_lines}
use Rattle.mesh_make.proofs.steps.on_lines.Given as goal

abbrev pub invariant-loop-what : goal.invariant-loop-what
invariant-loop-what l = record {
  line_is : l.line ≡ length l.yielded;
  placed : l.placed ≡ on_lines l.yielded;
}
