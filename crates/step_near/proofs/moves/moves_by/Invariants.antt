use Rattle.std.proofs.Common.{◌≡◌, ◌++◌, true, drop}
use Rattle.mesh_base.specs.Shifts.{end_in_box}
use Rattle.step_near.specs.Moving.{moves_by}
use Rattle.step_near.proofs.moves.moves_by.Given as goal

-- the moves so far and those by the shifts to come are all, and the shifts to come end in the box
abbrev pub invariant-loop-s : goal.invariant-loop-s
invariant-loop-s g l =
    let m = g.S.Surface.mesh l.mesh in
    record {
      all : l.moves ++ moves_by m (drop l.s-index l.asked) ≡ moves_by m l.asked;
      inside : end_in_box m (drop l.s-index l.asked) ≡ true;
    }
