use Rattle.std.proofs.Common.{◌≡◌, ℕ, ◌+◌, ◌-◌, ◌/◌, [], ◌∷◌, ◌++◌, sym, ap, ◌∙◌, arith}
use Rattle.grid_base.specs.declared.Shift.{Shift}
use Rattle.step_text.specs.declared.Directive.TheVariants.{ShiftOne}
use Rattle.mesh_make.specs.CubeSteps.{cube_shift, cube_with}
use Rattle.mesh_make.proofs.Growing.{items_more}
use Rattle.mesh_make.proofs.steps.push_step.Goals as goal

pub loop-i-preserved : goal.loop-i-preserved
loop-i-preserved c =
    let vertex : c.loop-i.i + 1 - 1 ≡ c.loop-i.i = omega arith in
    let by = c.cube_shift-by.ensures ∙ ap (λ (k : ℕ). cube_shift c.args.key c.args.step (k / 8 + 1)) (sym vertex) in
    items_more (λ v. ShiftOne v (cube_shift c.args.key c.args.step (cube_with v))) c.loop-i.i c.args.directives.now c.loop-i.directives c.push.new.self c.loop-i.invariant
    (c.in_ok-push.ensures.ok ∙ ap (λ (s : Shift). c.loop-i.directives ++ ShiftOne (c.loop-i.i + 1) s ∷ []) by)
