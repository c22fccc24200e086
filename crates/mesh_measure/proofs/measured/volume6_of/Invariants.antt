use Rattle.std.proofs.Common.{◌≡◌, ◌≤◌, ◌*◌, unsigned_abs, take}
use Rattle.mesh_measure.specs.declared.TheConstants.{DETERMINANT_MAX}
use Rattle.mesh_measure.specs.Components.{volume6_of}
use Rattle.mesh_measure.proofs.measured.volume6_of.Given as goal

-- the sum is that over the faces so far, and as large as so many allow
abbrev pub invariant-loop-f : goal.invariant-loop-f
invariant-loop-f g l = record {
  told : l.sum ≡ volume6_of (g.S.Surface.mesh l.mesh) (take l.f-index l.faces);
  within : unsigned_abs l.sum ≤ l.f-index * DETERMINANT_MAX;
}
