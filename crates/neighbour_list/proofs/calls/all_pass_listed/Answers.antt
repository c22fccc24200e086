use Rattle.std.proofs.Common.{◌≡◌, sym, subst, ◌∙◌}
use Rattle.std.specs.Prelude.{IfSome}
use Rattle.grid_decided.specs.Decided.{meets_exactly}
use Rattle.mesh_base.specs.Failing.{failing}
use Rattle.pair_scan.specs.Found.{has_none}
use Rattle.pair_scan.proofs.Fails.{clear_along}
use Rattle.pair_scan.proofs.NoneFail.{nothing}
use Rattle.neighbour_list.proofs.calls.all_pass_listed.Goals as goal

pub returns-in-Some-clause-exact : goal.returns-in-Some-clause-exact
returns-in-Some-clause-exact g c = subst (λ o. IfSome o (λ pass. pass ≡ has_none (failing meets_exactly (g.S.Surface.mesh c.args.mesh.now) c.args.by.now c.args.depth))) c.in-Some.is c.in_ok-pass.ensures

pub returns-in-Some-clause-clear : goal.returns-in-Some-clause-clear
returns-in-Some-clause-clear g c = λ pass.
    let m = g.S.Surface.mesh c.args.mesh.now in
    clear_along m c.args.by.now c.args.depth (g.met.S.Surface.sound c.args.mesh.now) (nothing (failing meets_exactly m c.args.by.now c.args.depth) (sym (returns-in-Some-clause-exact g c) ∙ pass))
