use Rattle.std.proofs.Common.{subst, arith, take}
use Rattle.std.specs.List.{All}
use Rattle.std.proofs.lemmas.List.{take_all}
use Rattle.std.proofs.lemmas.List.Elements.{All-more}
use Rattle.edit_check.specs.Reach.{ReachesAt}
use Rattle.edit_check.proofs.Reached.{as_wide, wider_still, all_moves_more}
use Rattle.edit_check.proofs.reach.reach_moves.Goals as goal

pub loop-m-init : goal.loop-m-init
loop-m-init g c = record { reached = λ k d lt. absurd (omega arith); kept = as_wide c.args.reach }

pub loop-m-preserved : goal.loop-m-preserved
loop-m-preserved g c =
    let m = g.S.Surface.mesh c.args.paths.now.mesh.now in
    let moves = c.args.paths.now.moves.now in
    let i = c.loop-m.m-index in
    let new = c.in_ok-wide.wide in
    record {
      reached = All-more (λ move. ReachesAt m moves c.args.fresh_from new move.v) moves i c.m-item.result c.loop-m-test.true (all_moves_more m moves c.args.fresh_from c.loop-m.wide new (take i moves) c.in_ok-wide.ensures.keeps c.loop-m.invariant.reached) (subst (λ move. ReachesAt m moves c.args.fresh_from new move.v) c.m-item.is c.in_ok-wide.ensures.reaches);
      kept = wider_still c.args.reach c.loop-m.wide new c.loop-m.invariant.kept c.in_ok-wide.ensures.keeps;
    }

pub returns-clause-reaches : goal.returns-clause-reaches
returns-clause-reaches g c =
    let m = g.S.Surface.mesh c.args.paths.now.mesh.now in
    subst (All (λ move. ReachesAt m c.args.paths.now.moves.now c.args.fresh_from c.loop-m.wide move.v)) (take_all c.loop-m.m-index c.args.paths.now.moves.now c.loop-m-test.false) c.loop-m.invariant.reached

pub returns-clause-keeps : goal.returns-clause-keeps
returns-clause-keeps g c = c.loop-m.invariant.kept
