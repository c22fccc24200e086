-- Shifts that are the same.
use Rattle.std.proofs.Common.{◌≡◌, ap, sym, ◌∙◌}
use Rattle.grid_base.specs.declared.Shift.{Shift}
use Rattle.grid_base.specs.Points.{displacement_of, shift_by}
use Rattle.grid_base.proofs.PointLaws.{shift_by-displacement_of}
use Rattle.grid_base.proofs.MeetingLaws.{same_triple}
use Rattle.mesh_base.specs.declared.steps.ShiftOf.{ShiftOf}

-- shifts with the same components
pub same_by : (s t : Shift) → s.x ≡ t.x → s.y ≡ t.y → s.z ≡ t.z → s ≡ t
same_by s t x y z = sym (shift_by-displacement_of s) ∙ ap shift_by (same_triple (displacement_of s) (displacement_of t) x y z) ∙ shift_by-displacement_of t

-- of the same vertex
pub same_shift_of : (s t : ShiftOf) → s.v ≡ t.v → s.by ≡ t.by → s ≡ t
same_shift_of s t v by = λ i. record { v = v i; by = by i }
