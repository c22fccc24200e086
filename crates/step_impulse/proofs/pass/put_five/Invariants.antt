use Rattle.std.proofs.Common.{◌≡◌, map, drop}
use Rattle.grid_base.specs.Points.{displacement_of}
use Rattle.step_impulse.specs.Passes.{with_shifts_of}
use Rattle.step_impulse.proofs.pass.put_five.Given as goal

-- the shifts that are left to be put make all of them, and the names stay
abbrev pub invariant-loop-k : goal.invariant-loop-k
invariant-loop-k l = record {
  whole : with_shifts_of (drop l.k l.ids) (map displacement_of (drop l.k l.by)) l.shifts ≡ with_shifts_of l.ids (map displacement_of l.by) l.fn.shifts;
  names : map (λ s. s.v) l.shifts ≡ map (λ s. s.v) l.fn.shifts;
}
