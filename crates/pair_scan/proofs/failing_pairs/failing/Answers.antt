use Rattle.std.proofs.Common.{refl, ap, sym, subst, ◌∙◌}
use Rattle.grid_decided.specs.Decided.{meets_exactly}
use Rattle.mesh_base.specs.Failing.{failing}
use Rattle.pair_scan.specs.Failed.{AreFailing}
use Rattle.pair_scan.proofs.Fails.{clear_along}
use Rattle.pair_scan.proofs.InOrder.{are_failing}
use Rattle.pair_scan.proofs.failing_pairs.failing.Goals as goal

pub returns-clause-failing : goal.returns-clause-failing
returns-clause-failing g c =
    let m = g.S.Surface.mesh c.args.mesh.now in
    c.in_ok-pairs.ensures.whole refl ∙ ap (λ by. failing meets_exactly m by c.args.depth) c.as_slice.ensures

pub returns-clause-all : goal.returns-clause-all
returns-clause-all g c =
    let m = g.S.Surface.mesh c.args.mesh.now in
    subst (AreFailing m c.args.by.now c.args.depth) (sym (returns-clause-failing g c)) (are_failing m c.args.by.now c.args.depth (g.met.S.Surface.sound c.args.mesh.now))

pub returns-clause-clear : goal.returns-clause-clear
returns-clause-clear g c = λ none. clear_along (g.S.Surface.mesh c.args.mesh.now) c.args.by.now c.args.depth (g.met.S.Surface.sound c.args.mesh.now) (sym (returns-clause-failing g c) ∙ none)
