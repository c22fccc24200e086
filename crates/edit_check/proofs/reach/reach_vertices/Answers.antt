use Rattle.std.proofs.Common.{subst, arith, take}
use Rattle.std.specs.List.{All}
use Rattle.std.proofs.lemmas.List.{take_all}
use Rattle.std.proofs.lemmas.List.Elements.{All-more}
use Rattle.edit_check.specs.Reach.{ReachesAt}
use Rattle.edit_check.proofs.Reached.{as_wide, wider_still, all_at_more, all_moves_more}
use Rattle.edit_check.proofs.reach.reach_vertices.Goals as goal

pub loop-v-init : goal.loop-v-init
loop-v-init g c = record { reached = λ k d lt. absurd (omega arith); kept = as_wide c.args.reach }

pub reach_vertex-requires : goal.reach_vertex-requires
reach_vertex-requires g c =
    let m = g.S.Surface.mesh c.args.paths.now.mesh.now in
    let moves = c.args.paths.now.moves.now in
    all_moves_more m moves c.args.fresh_from c.args.reach c.loop-v.wide moves c.loop-v.invariant.kept c.requires

pub loop-v-preserved : goal.loop-v-preserved
loop-v-preserved g c =
    let m = g.S.Surface.mesh c.args.paths.now.mesh.now in
    let moves = c.args.paths.now.moves.now in
    let vertices = c.args.vertices.now in
    let i = c.loop-v.v-index in
    let new = c.in_ok-wide.wide in
    record {
      reached = All-more (ReachesAt m moves c.args.fresh_from new) vertices i c.v-item.result c.loop-v-test.true (all_at_more m moves c.args.fresh_from c.loop-v.wide new (take i vertices) c.in_ok-wide.ensures.keeps c.loop-v.invariant.reached) (subst (ReachesAt m moves c.args.fresh_from new) c.v-item.is c.in_ok-wide.ensures.reaches);
      kept = wider_still c.args.reach c.loop-v.wide new c.loop-v.invariant.kept c.in_ok-wide.ensures.keeps;
    }

pub returns-clause-reaches : goal.returns-clause-reaches
returns-clause-reaches g c =
    let m = g.S.Surface.mesh c.args.paths.now.mesh.now in
    subst (All (ReachesAt m c.args.paths.now.moves.now c.args.fresh_from c.loop-v.wide)) (take_all c.loop-v.v-index c.args.vertices.now c.loop-v-test.false) c.loop-v.invariant.reached

pub returns-clause-keeps : goal.returns-clause-keeps
returns-clause-keeps g c = c.loop-v.invariant.kept
