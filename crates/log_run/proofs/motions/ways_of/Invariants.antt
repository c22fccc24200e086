use Rattle.std.proofs.Common.{◌≡◌, ◌++◌, true, map, drop}
use Rattle.mesh_base.specs.Shifts.{end_in_box}
use Rattle.motion_proof.specs.Acceptance.{AreWays}
use Rattle.log_run.specs.Motions.{way_of}
use Rattle.log_run.proofs.motions.ways_of.Given as goal

-- the ways so far and those of the shifts to come are all, those so far fit, and the shifts to come end in the box
abbrev pub invariant-loop-s : goal.invariant-loop-s
invariant-loop-s g l =
    let m = g.S.Surface.mesh l.mesh in
    record {
      all : l.ways ++ map (way_of m) (drop l.s-index l.shifts) ≡ map (way_of m) l.shifts;
      fit : AreWays l.ways;
      inside : end_in_box m (drop l.s-index l.shifts) ≡ true;
    }
