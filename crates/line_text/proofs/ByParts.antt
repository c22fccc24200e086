-- A point is by its three coordinates, and a shift by its three components.
use Rattle.std.proofs.Common.{◌≡◌, ℤ, sym, ap, ◌∙◌}
use Rattle.grid_base.specs.declared.grid.Point.{Point}
use Rattle.grid_base.specs.declared.grid.Shift.{Shift}
use Rattle.grid_base.specs.Triples.{Triple}
use Rattle.grid_base.specs.Points.{point_at, shift_by}
use Rattle.grid_base.proofs.PointLaws.{point_at-position_of, shift_by-displacement_of}

same_triple : (a b c x y z : ℤ) → a ≡ x → b ≡ y → c ≡ z → ◌≡◌ {A = Triple} (record { x = a; y = b; z = c }) (record { x = x; y = y; z = z })
same_triple a b c x y z d e f = cc

pub point_of_parts : (p : Point) (x y z : ℤ) → p.x ≡ x → p.y ≡ y → p.z ≡ z → p ≡ point_at (record { x = x; y = y; z = z })
point_of_parts p x y z d e f = sym (point_at-position_of p) ∙ ap point_at (same_triple p.x p.y p.z x y z d e f)

pub shift_of_parts : (s : Shift) (x y z : ℤ) → s.x ≡ x → s.y ≡ y → s.z ≡ z → s ≡ shift_by (record { x = x; y = y; z = z })
shift_of_parts s x y z d e f = sym (shift_by-displacement_of s) ∙ ap shift_by (same_triple s.x s.y s.z x y z d e f)
