use Rattle.std.proofs.Common.{[], sym, ap, subst, ◌∙◌}
use Rattle.std.specs.List.{All}
use Rattle.grid_decided.specs.Decided.{meets_exactly}
use Rattle.edit_base.specs.declared.Touch.TheVariants.{Never}
use Rattle.edit_base.specs.Scaffold.{first_failing}
use Rattle.edit_check.specs.Untouched.{MoveFits}
use Rattle.edit_check.specs.Checking.{scaffold_by}
use Rattle.edit_check.proofs.Premise.{clear_mesh_is}
use Rattle.step_near.specs.Moving.{moves_by}
use Rattle.step_near.proofs.Fitting.{moves_fit}
use Rattle.step_near.proofs.Passing.{answered}
use Rattle.step_near.proofs.near.none_fails.Goals as goal

pub check-requires-clause-fits : goal.check-requires-clause-fits
check-requires-clause-fits g c =
    let m = g.S.Surface.mesh c.args.mesh.now in
    let these = c.as_slice-3.ensures ∙ c.in_ok-moves.ensures ∙ ap (moves_by m) c.as_slice.ensures in
    subst (All MoveFits) (sym these) (moves_fit m c.args.asked.now c.requires.in_box)

pub check-requires-clause-clear : goal.check-requires-clause-clear
check-requires-clause-clear g c = clear_mesh_is (g.S.Surface.mesh c.args.mesh.now) c.as_slice-3.result.now c.next_face-fresh_from.result c.requires.clear

pub returns : goal.returns
returns g c =
    let m = g.S.Surface.mesh c.args.mesh.now in
    let depth = c.args.depth in
    let these = c.as_slice-3.ensures ∙ c.in_ok-moves.ensures ∙ ap (moves_by m) c.as_slice.ensures in
    let first = c.in_ok-found.ensures.first ∙ ap (λ moves. first_failing meets_exactly (scaffold_by m moves Never []) depth) these in
    answered m c.args.asked.now depth c.requires.named c.in_ok-found.found c.is_none.result c.is_none.ensures first
