use Rattle.std.proofs.Common.{◌≡◌, drop}
use Rattle.mesh_base.specs.Shifts.{end_in_box}
use Rattle.pair_scan.proofs.ends.end_in_box.Given as goal

-- whether all end in the box depends on those to come
abbrev pub invariant-loop-s : goal.invariant-loop-s
invariant-loop-s g l = end_in_box (g.S.Surface.mesh l.mesh) (drop l.s-index l.shifts) ≡ end_in_box (g.S.Surface.mesh l.mesh) l.shifts
