use Rattle.std.proofs.Common.{sym, subst, ◌∙◌}
use Rattle.grid_decided.specs.Decided.{meets_exactly, meets_exactly-is_exact}
use Rattle.edit_base.proofs.Clear.{none_failing_is_clear}
use Rattle.pair_paths.proofs.Boxed.{if_ok}
use Rattle.edit_check.specs.Checking.{scaffold_by}
use Rattle.edit_check.specs.Reach.{ReachesTouched}
use Rattle.edit_check.proofs.Scans.{none}
use Rattle.edit_check.proofs.Whole.{none_failing}
use Rattle.edit_check.proofs.first_pair.check.Goals as goal

pub first_in_reach-requires-clause-reached : goal.first_in_reach-requires-clause-reached
first_in_reach-requires-clause-reached g c = subst (ReachesTouched (g.S.Surface.mesh c.args.mesh.now) c.args.moves.now c.args.together.now c.args.fresh_from) c.in-Some.is c.in_ok-reach.ensures

pub returns-in-Some-clause-clear : goal.returns-in-Some-clause-clear
returns-in-Some-clause-clear g c =
    let m = g.S.Surface.mesh c.args.mesh.now in
    let s = scaffold_by m c.args.moves.now c.args.touch c.args.together.now in
    if_ok c.first_in_reach.result (λ found is h. none_failing_is_clear meets_exactly meets_exactly-is_exact s c.args.depth (g.met.S.Surface.sound c.args.mesh.now) (sym is ∙ none found h)) c.first_in_reach.ensures

pub returns-in-None-clause-first : goal.returns-in-None-clause-first
returns-in-None-clause-first g c =
    let m = g.S.Surface.mesh c.args.mesh.now in
    let moves = c.args.moves.now in
    sym (none_failing m moves c.args.touch c.args.together.now c.args.depth c.args.fresh_from (g.met.S.Surface.sound c.args.mesh.now) c.requires.clear
    (subst (ReachesTouched m moves c.args.together.now c.args.fresh_from) c.in-None.is c.in_ok-reach.ensures))

pub returns-in-None-clause-clear : goal.returns-in-None-clause-clear
returns-in-None-clause-clear g c none =
    let m = g.S.Surface.mesh c.args.mesh.now in
    none_failing_is_clear meets_exactly meets_exactly-is_exact (scaffold_by m c.args.moves.now c.args.touch c.args.together.now) c.args.depth (g.met.S.Surface.sound c.args.mesh.now) (sym (returns-in-None-clause-first g c))
