use Rattle.std.proofs.Common.{◌&&◌, sym, ap, ◌∙◌}
use Rattle.grid_decided.specs.Decided.{meets_exactly}
use Rattle.mesh_base.specs.Failing.{failing}
use Rattle.pair_scan.specs.Found.{has_none}
use Rattle.step_near.specs.Few.{are_few}
use Rattle.step_near.proofs.Passing.{none_fails}
use Rattle.step_near.proofs.near.all_pass_near.Goals as goal

pub returns-clause-exact : goal.returns-clause-exact
returns-clause-exact g c =
    let failed = failing meets_exactly (g.S.Surface.mesh c.args.mesh.now) c.args.asked.now c.args.depth in
    let few = ap are_few (sym c.as_slice.ensures) ∙ sym c.are_few.ensures ∙ c.if-not-are_few.false in
    c.in_ok-pass.ensures ∙ ap (λ b. b && has_none failed) (sym few)

pub returns-clause-none : goal.returns-clause-none
returns-clause-none g c pass =
    none_fails c.in_ok-pass.pass (are_few c.args.asked.now) (failing meets_exactly (g.S.Surface.mesh c.args.mesh.now) c.args.asked.now c.args.depth)
    (returns-clause-exact g c) pass
