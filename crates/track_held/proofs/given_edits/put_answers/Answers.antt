use Rattle.std.proofs.Common.{ap, arith}
use Rattle.std.specs.Prelude.{slice_set}
use Rattle.track_held.specs.Editing.{answer_told}
use Rattle.track_held.proofs.PutAnswers.{put_more}
use Rattle.track_held.proofs.given_edits.put_answers.Goals as goal

pub loop-i-preserved : goal.loop-i-preserved
loop-i-preserved c = record {
  put = put_more answer_told c.args.answers.now c.args.into.now c.loop-i.into _ c.loop-i.i c.index-answers-i.result c.loop-i-test.true c.requires c.index-answers-i.is c.loop-i.invariant.put
      (ap (slice_set c.loop-i.into c.loop-i.i) c.answer_told.ensures);
  low = omega (arith, c.loop-i-test.true);
}
