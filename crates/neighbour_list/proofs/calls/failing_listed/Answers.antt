use Rattle.std.proofs.Common.{◌≡◌, sym, subst, ◌∙◌}
use Rattle.std.specs.Prelude.{IfSome}
use Rattle.grid_decided.specs.Decided.{meets_exactly}
use Rattle.mesh_base.specs.Failing.{failing}
use Rattle.pair_scan.specs.Failed.{AreFailing}
use Rattle.pair_scan.proofs.Fails.{clear_along}
use Rattle.pair_scan.proofs.InOrder.{are_failing}
use Rattle.neighbour_list.proofs.calls.failing_listed.Goals as goal

pub returns-in-Some-clause-failing : goal.returns-in-Some-clause-failing
returns-in-Some-clause-failing g c = subst (λ o. IfSome o (λ pairs. pairs ≡ failing meets_exactly (g.S.Surface.mesh c.args.mesh.now) c.args.by.now c.args.depth)) c.in-Some.is c.in_ok-pairs.ensures

pub returns-in-Some-clause-all : goal.returns-in-Some-clause-all
returns-in-Some-clause-all g c =
    let m = g.S.Surface.mesh c.args.mesh.now in
    subst (AreFailing m c.args.by.now c.args.depth) (sym (returns-in-Some-clause-failing g c)) (are_failing m c.args.by.now c.args.depth (g.met.S.Surface.sound c.args.mesh.now))

pub returns-in-Some-clause-clear : goal.returns-in-Some-clause-clear
returns-in-Some-clause-clear g c = λ none. clear_along (g.S.Surface.mesh c.args.mesh.now) c.args.by.now c.args.depth (g.met.S.Surface.sound c.args.mesh.now) (sym (returns-in-Some-clause-failing g c) ∙ none)
