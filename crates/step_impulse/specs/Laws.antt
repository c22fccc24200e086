-- Laws of impulses.
use Rattle.std.specs.Prelude.{◌≡◌, ℕ, ◌≤◌, nat_lt, eqb, Bool, false, List, length}
use Rattle.std.specs.List.{count_by, IsDistinct}
use Rattle.grid_base.specs.declared.Positions.{Positions}
use Rattle.grid_base.specs.Triples.{Triple}
use Rattle.step_impulse.specs.Impulse.{below, some_fixed, sum_on, widest_axis, after_impulse}

-- of ids that differ, exactly k have fewer than k below them
abbrev pub SoManyAreSmallest : Type 0
SoManyAreSmallest =
    (ids : List ℕ) (k : ℕ) → IsDistinct eqb ids → k ≤ length ids
    → count_by (λ v. nat_lt (below ids v) k) ids ≡ k

-- five vertices with ids that differ, none of them fixed
pub record AreFiveFree (ids : List ℕ) (fixed : List Bool) (shifts : List Triple) : Type 0 where
  pub differ : IsDistinct eqb ids
  pub five_ids : length ids ≡ 5
  pub five_shifts : length shifts ≡ 5
  pub free : some_fixed fixed ≡ false

-- an impulse on them keeps the sum of their shifts on its axis
abbrev pub ImpulseKeepsTheSum : Type 0
ImpulseKeepsTheSum = (f : Positions) (ids : List ℕ) (fixed : List Bool) (shifts : List Triple)
    → AreFiveFree ids fixed shifts
    → sum_on (widest_axis f) (after_impulse f ids fixed shifts) ≡ sum_on (widest_axis f) shifts
