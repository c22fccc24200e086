use Rattle.std.proofs.Common.{get_or}
use Rattle.std.proofs.lemmas.List.{get_or_default}
use Rattle.std.proofs.lemmas.Result.{err_from_is_err_and}
use Rattle.log_text.specs.declared.LogLine.TheVariants.{Solid}
use Rattle.log_write.proofs.SaidLines.{so_far_none}
use Rattle.track_held.specs.Heads.{solid_lines}
use Rattle.track_engine.proofs.Saying.{lines_more, lines_part, lines_all}
use Rattle.track_held.proofs.log_head.tell_solids.Goals as goal

pub loop-v-init : goal.loop-v-init
loop-v-init g c = so_far_none _ (solid_lines c.args.vertices.now)

pub returns-in_err-tell : goal.returns-in_err-tell
returns-in_err-tell g c =
    let p = err_from_is_err_and c.from_residual.result c.from_residual.ensures.1 in
    rw (p.1, p.2) (lines_part (λ v. Solid v) _ _ _ c.args.vertices.now c.loop-v.v-index (get_or c.args.vertices.now c.loop-v.v-index 0) _ c.loop-v-test.true (get_or_default c.args.vertices.now c.loop-v.v-index 0 _ c.loop-v-test.true) _ c.loop-v.invariant c.in_err-tell.ensures.says)

pub loop-v-preserved : goal.loop-v-preserved
loop-v-preserved g c = lines_more (λ v. Solid v) _ _ _ c.args.vertices.now c.loop-v.v-index (get_or c.args.vertices.now c.loop-v.v-index 0) _ c.loop-v-test.true (get_or_default c.args.vertices.now c.loop-v.v-index 0 _ c.loop-v-test.true) _ c.loop-v.invariant c.in_ok-tell.ensures.says

pub returns : goal.returns
returns g c = lines_all (λ v. Solid v) _ _ c.args.vertices.now c.loop-v.v-index _ c.loop-v-test.false c.loop-v.invariant
