use Rattle.std.proofs.Common.{[], refl, ◌∙◌}
use Rattle.edit_base.specs.Scaffold.{motion_by}
use Rattle.edit_base.proofs.Ends.{clear_after_along, clear_where_it_ends}
use Rattle.edit_check.proofs.Resting.{first_met}
use Rattle.edit_check.proofs.first_pair.check_still.Goals as goal

pub returns-clause-first : goal.returns-clause-first
returns-clause-first g c = c.in_ok-found.ensures.first ∙ first_met (g.S.Surface.mesh c.args.mesh.now) 0

pub returns-clause-clear : goal.returns-clause-clear
returns-clause-clear g c none =
    let m = g.S.Surface.mesh c.args.mesh.now in
    clear_where_it_ends m (motion_by m []) (λ v. refl) (clear_after_along m (motion_by m []) (c.in_ok-found.ensures.clear none))
