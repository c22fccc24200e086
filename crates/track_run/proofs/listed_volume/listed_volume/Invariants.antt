use Rattle.std.proofs.Common.{◌≡◌, ◌+◌, ◌*◌, ◌≤◌, ◌+ℤ◌, unsigned_abs, length, drop}
use Rattle.mesh_base.specs.Placements.{rest_positions}
use Rattle.mesh_measure.specs.declared.TheConstants.{DETERMINANT_MAX}
use Rattle.mesh_measure.specs.Volume.{volume6}
use Rattle.track_run.proofs.FaceSums.{corners_sum}
use Rattle.track_run.proofs.listed_volume.listed_volume.Given as goal

-- the sum so far and that over the faces that are left are the whole; it is as large as the faces so far allow
abbrev pub invariant-loop-c : goal.invariant-loop-c
invariant-loop-c g l =
    let m = g.S.Surface.mesh l.mesh in
    record {
      told : l.sum +ℤ corners_sum (rest_positions m) (drop l.c-index l.faces) ≡ volume6 m;
      within : unsigned_abs l.sum + length (drop l.c-index l.faces) * DETERMINANT_MAX ≤ length l.faces * DETERMINANT_MAX;
    }
