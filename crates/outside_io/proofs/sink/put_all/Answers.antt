use Rattle.std.proofs.Common.{arith}
use Rattle.outside_io.proofs.Written.{appended-next}
use Rattle.outside_io.proofs.sink.put_all.Goals as goal

pub loop-done-preserved : goal.loop-done-preserved
loop-done-preserved g c = record {
  within = omega (arith, c.in_ok-done.ensures.within);
  put = appended-next _ _ _ _ _ _ c.loop-done.invariant.put c.in_ok-done.ensures.taken;
  later = omega (arith, c.in_ok-done.ensures.cause.later);
}
