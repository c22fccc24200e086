use Rattle.std.proofs.Common.{◌≡◌}
use Rattle.grid_decided.specs.Decided.{meets_exactly}
use Rattle.mesh_base.specs.Failing.{failing}
use Rattle.step_choose.specs.Impulses.{after_passes, fewest_passes}
use Rattle.step_choose.proofs.Ways.{to_come, EndsUpTo}
use Rattle.step_choose.proofs.impulses.by_impulses.Given as goal

-- the shifts after so many passes, and their failing pairs; what is sought is among the passes to come
abbrev pub invariant-loop-k : goal.invariant-loop-k
invariant-loop-k g l =
    let m = g.S.Surface.mesh l.mesh in
    record {
      taken : l.taken ≡ after_passes meets_exactly m l.asked l.set.depth l.k;
      failed : l.failed ≡ failing meets_exactly m l.taken l.set.depth;
      ends : EndsUpTo m l.asked l.set.depth l.k;
      left : to_come m l.asked l.set.depth l.k l.set.passes ≡ fewest_passes meets_exactly m l.asked l.set.depth l.set.passes;
    }
