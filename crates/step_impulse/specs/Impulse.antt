-- Impulses: what the five vertices of a pair get on one axis.
use Rattle.std.specs.Prelude.{◌≡◌, ℕ, ◌||◌, Bool, map, false, List, [], ◌∷◌, nat_lt, ℤ, pos, ◌+ℤ◌, ◌-ℤ◌, ◌*ℤ◌, int_lt, if◌then◌else◌, slice_index_or}
use Rattle.std.specs.Int.{int_min, int_max, int_div_euclid}
use Rattle.std.specs.List.{fold, count_by}
use Rattle.grid_base.specs.declared.Point.{Point}
use Rattle.grid_base.specs.declared.Positions.{Positions}
use Rattle.grid_base.specs.declared.Shift.{Shift}
use Rattle.grid_base.specs.Triples.{Triple}
use Rattle.grid_base.specs.Points.{position_of, displacement_of, point_at_origin}
use Rattle.step_impulse.specs.declared.axis.Axis.{Axis}
use Rattle.step_impulse.specs.declared.axis.Axis.TheVariants.{X, Y, Z}
use Rattle.step_impulse.specs.Axes.{component, with_component}

-- where the two ends of the edge and the three corners of the face stand
abbrev pub places_of : List Point → Positions
places_of ps = record {
  a = position_of (slice_index_or ps 0 point_at_origin);
  b = position_of (slice_index_or ps 1 point_at_origin);
  c = position_of (slice_index_or ps 2 point_at_origin);
  d = position_of (slice_index_or ps 3 point_at_origin);
  e = position_of (slice_index_or ps 4 point_at_origin);
}

-- how far five numbers are apart, two from three: the least of the three less the greater of the
-- two, or the lesser of the two less the greatest of the three
abbrev pub apart : ℤ → ℤ → ℤ → ℤ → ℤ → ℤ
apart a b c d e =
    int_max (int_min (int_min c d) e -ℤ int_max a b) (int_min a b -ℤ int_max (int_max c d) e)

-- how far the edge and the face are apart on an axis
abbrev pub gap : Axis → Positions → ℤ
gap axis f =
    apart (component axis f.a) (component axis f.b) (component axis f.c)
    (component axis f.d) (component axis f.e)

-- the later axis where its gap is greater
abbrev pub wider : Axis → Axis → Positions → Axis
wider first later f = if int_lt (gap first f) (gap later f) then later else first

-- the axis of the greatest gap, the first among equals
abbrev pub widest_axis : Positions → Axis
widest_axis f = wider (wider X Y f) Z f

-- the sum of five shifts on an axis
abbrev pub sum_on : Axis → List Triple → ℤ
sum_on axis shifts = fold (λ sum t. sum +ℤ component axis t) (pos 0) shifts

-- how many of the ids are below v
abbrev pub below : List ℕ → ℕ → ℕ
below ids v = count_by (λ u. nat_lt u v) ids

-- a fifth of a sum, rounded down
abbrev pub fifth : ℤ → ℤ
fifth sum = int_div_euclid sum (pos 5)

-- what five fifths leave of a sum
abbrev pub rest : ℤ → ℤ
rest sum = sum -ℤ (pos 5 *ℤ fifth sum)

-- a fifth of the sum, and one more where fewer ids are below than the rest of the sum says
abbrev pub share : ℤ → ℕ → ℤ
share sum smaller = if int_lt (pos smaller) (rest sum) then fifth sum +ℤ pos 1 else fifth sum

-- what the vertex v gets
abbrev pub given : Bool → ℤ → List ℕ → ℕ → ℤ
given is_fixed sum ids v = if is_fixed then pos 0 else share sum (below ids v)

-- whether one of the five is fixed
abbrev pub some_fixed : List Bool → Bool
some_fixed fixed =
    slice_index_or fixed 0 false || slice_index_or fixed 1 false || slice_index_or fixed 2 false
    || slice_index_or fixed 3 false || slice_index_or fixed 4 false

-- each vertex with what it gets, on one axis
abbrev pub each_given : Axis → (ℕ → ℤ) → List ℕ → List Triple → List Triple
each_given axis gets (v ∷ ids) (t ∷ shifts) =
    with_component axis (gets v) t ∷ each_given axis gets ids shifts
each_given axis gets (v ∷ ids) [] = []
each_given axis gets [] shifts = []

-- the five shifts after the impulse: on the axis of the greatest gap each gets its share of the
-- sum, and where one is fixed, nothing
abbrev pub after_impulse : Positions → List ℕ → List Bool → List Triple → List Triple
after_impulse f ids fixed shifts =
    let axis = widest_axis f in
    each_given axis (given (some_fixed fixed) (sum_on axis shifts) ids) ids shifts

-- the new shifts are the old ones after the impulse on vertices at these points
abbrev pub IsAfterImpulse : List Point → List ℕ → List Bool → List Shift → List Shift → Type 0
IsAfterImpulse ps ids fixed old new =
    map displacement_of new ≡ after_impulse (places_of ps) ids fixed (map displacement_of old)
