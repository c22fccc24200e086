use Rattle.std.proofs.Common.{ap, sym, ◌∙◌}
use Rattle.grid_decided.specs.Decided.{meets_exactly}
use Rattle.mesh_base.specs.Failing.{failing}
use Rattle.pair_scan.specs.Found.{has_none}
use Rattle.pair_scan.proofs.Fails.{clear_along}
use Rattle.pair_scan.proofs.NoneFail.{nothing}
use Rattle.pair_scan.proofs.failing_pairs.all_pass.Goals as goal

pub returns-clause-exact : goal.returns-clause-exact
returns-clause-exact g c =
    let m = g.S.Surface.mesh c.args.mesh.now in
    c.has_none.ensures ∙ c.in_ok-found.ensures.none ∙ ap (λ by. has_none (failing meets_exactly m by c.args.depth)) c.as_slice.ensures

pub returns-clause-clear : goal.returns-clause-clear
returns-clause-clear g c = λ pass. clear_along (g.S.Surface.mesh c.args.mesh.now) c.args.by.now c.args.depth (g.met.S.Surface.sound c.args.mesh.now) (nothing (failing meets_exactly (g.S.Surface.mesh c.args.mesh.now) c.args.by.now c.args.depth) (sym (returns-clause-exact g c) ∙ pass))
