-- The shifts that halving and resting leave.
use Rattle.std.proofs.Common.{◌≡◌, ℕ, ap, sym, ◌∙◌, pos}
use Rattle.grid_base.specs.declared.TheConstants.{SHIFT_MAX}
use Rattle.grid_base.specs.declared.Shift.{Shift}
use Rattle.grid_base.specs.Components.{FitWithin}
use Rattle.grid_base.specs.Triples.{halved_of}
use Rattle.grid_base.specs.Points.{displacement_of, shift_by, no_shift}
use Rattle.grid_base.proofs.PointLaws.{shift_by-displacement_of, same_shift}
use Rattle.mesh_base.specs.declared.ShiftOf.{ShiftOf}
use Rattle.step_choose.specs.Choice.{halved_shift, at_rest}

-- the halved shift of a vertex
pub halved_as : (m : ℕ) (r : Shift) (s : ShiftOf) → displacement_of r ≡ halved_of m (displacement_of s.by) → ◌≡◌ {A = ShiftOf} (record { v = s.v; by = r }) (halved_shift m s)
halved_as m r s e = ap (λ (b : Shift). record { v = s.v; by = b }) (sym (shift_by-displacement_of r) ∙ ap shift_by e)

-- a vertex with no shift
pub still : (s : ShiftOf) (h : FitWithin SHIFT_MAX (pos 0) (pos 0) (pos 0)) → ◌≡◌ {A = ShiftOf} (record { v = s.v; by = record { x = pos 0; y = pos 0; z = pos 0; in_range = h } }) (at_rest s)
still s h = ap (λ (b : Shift). record { v = s.v; by = b }) (same_shift no_shift h)
