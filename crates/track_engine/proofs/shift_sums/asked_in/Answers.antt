use Rattle.track_engine.specs.State.{still_asked}
use Rattle.mesh_base.proofs.ListLaws.{mapped_more}
use Rattle.track_engine.proofs.shift_sums.asked_in.Goals as goal

pub loop-v-preserved : goal.loop-v-preserved
loop-v-preserved g c = mapped_more (still_asked (g.S.Surface.mesh c.args.mesh.now) c.args.asked.now) c.as_slice-v-items.result.now c.loop-v.v-index c.v-item.result c.loop-v.shifts c.push.new.self _ _ c.loop-v-test.true c.v-item.is c.in_ok-push.ensures.ok c.still_asked.ensures c.loop-v.invariant
