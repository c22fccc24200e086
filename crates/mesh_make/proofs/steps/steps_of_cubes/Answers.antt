use Rattle.std.proofs.Common.{◌<◌, ◌^◌, length, List, sym, subst}
use Rattle.step_text.specs.declared.Directive.{Directive}
use Rattle.mesh_make.proofs.Growing.{directives-few}
use Rattle.mesh_make.proofs.steps.steps_of_cubes.Goals as goal

pub on_lines-requires : goal.on_lines-requires
on_lines-requires c = subst (λ (ds : List Directive). length ds < 2 ^ 32) (sym c.in_ok-directives.ensures) (directives-few c.args.n c.args.key c.requires)
