-- Where points stand and what shifts move by, as triples; and the
-- point and the shift that a triple is.
use Rattle.std.specs.Prelude.{◌≡◌, ℕ, ◌&&◌, Bool, true, false, pos, unsigned_abs, nat_le, refl}
use Rattle.std.proofs.lemmas.Bool.{leb-true}
use Rattle.std.proofs.Common.{lit≤}
use Rattle.grid_base.specs.declared.TheConstants.{BOX, SHIFT_MAX}
use Rattle.grid_base.specs.declared.grid.Point.{Point}
use Rattle.grid_base.specs.declared.grid.Shift.{Shift}
use Rattle.grid_base.specs.Triples.{Triple, plus}

-- where a point stands
abbrev pub position_of : Point → Triple
position_of p = record { x = p.x; y = p.y; z = p.z }

-- what a shift moves by
abbrev pub displacement_of : Shift → Triple
displacement_of s = record { x = s.x; y = s.y; z = s.z }

-- where a point stands after a shift
abbrev pub position_after : Point → Shift → Triple
position_after p s = plus (position_of p) (displacement_of s)

-- whether each component has at most this size
abbrev pub is_within : ℕ → Triple → Bool
is_within most t =
    nat_le (unsigned_abs t.x) most
    && nat_le (unsigned_abs t.y) most
    && nat_le (unsigned_abs t.z) most

-- the point with three coordinates of size 0
abbrev pub point_at_origin : Point
point_at_origin = record {
  x = pos 0;
  y = pos 0;
  z = pos 0;
  in_box = record { x_fits = lit≤ tt; y_fits = lit≤ tt; z_fits = lit≤ tt };
}

-- the shift that moves nothing
abbrev pub no_shift : Shift
no_shift = record {
  x = pos 0;
  y = pos 0;
  z = pos 0;
  in_range = record { x_fits = lit≤ tt; y_fits = lit≤ tt; z_fits = lit≤ tt };
}

-- the point at a triple whose components pass their tests, else the origin
abbrev pub point_by_tests : (t : Triple) (a b c : Bool) → nat_le (unsigned_abs t.x) BOX ≡ a →
    nat_le (unsigned_abs t.y) BOX ≡ b → nat_le (unsigned_abs t.z) BOX ≡ c → Point
point_by_tests t true true true x y z = record {
  x = t.x;
  y = t.y;
  z = t.z;
  in_box = record { x_fits = leb-true _ _ x; y_fits = leb-true _ _ y; z_fits = leb-true _ _ z };
}
point_by_tests t true true false x y z = point_at_origin
point_by_tests t true false c x y z = point_at_origin
point_by_tests t false b c x y z = point_at_origin

-- the point that stands there; the origin, where that is outside the box
abbrev pub point_at : Triple → Point
point_at t = point_by_tests t _ _ _ refl refl refl

-- the displacement of a triple whose components pass their tests, else none
abbrev pub shift_by_tests : (t : Triple) (a b c : Bool) → nat_le (unsigned_abs t.x) SHIFT_MAX ≡ a →
    nat_le (unsigned_abs t.y) SHIFT_MAX ≡ b → nat_le (unsigned_abs t.z) SHIFT_MAX ≡ c → Shift
shift_by_tests t true true true x y z = record {
  x = t.x;
  y = t.y;
  z = t.z;
  in_range = record { x_fits = leb-true _ _ x; y_fits = leb-true _ _ y; z_fits = leb-true _ _ z };
}
shift_by_tests t true true false x y z = no_shift
shift_by_tests t true false c x y z = no_shift
shift_by_tests t false b c x y z = no_shift

-- the shift that the triple is; no shift, where that is above the limit
abbrev pub shift_by : Triple → Shift
shift_by t = shift_by_tests t _ _ _ refl refl refl
