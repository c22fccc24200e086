-- The copy for a fan ends at the vertex's point plus the fan's shift, which is within the box.
use Rattle.std.proofs.Common.{◌≡◌, ℕ, zero, suc, ◌+◌, ◌*◌, ◌-◌, ◌/◌, ◌≤◌, ℤ, pos, negsuc, neg_ℤ, ◌+ℤ◌, ◌-ℤ◌, unsigned_abs, List, [], ◌∷◌, length, Option, Some, None, refl, sym, subst, lit≤, arith}
use Rattle.std.proofs.lemmas.Int.{ints}
use Rattle.std.specs.Int.Signed.{◌≤ℤ◌}
use Rattle.std.specs.Int.RustNames.{int_div}
use Rattle.std.proofs.Math.Nat.{div-le_of_le-mul}
use Rattle.std.specs.List.{fold}
use Rattle.std.specs.FinMap as finite
use Rattle.grid_base.specs.declared.TheConstants.{BOX}
use Rattle.grid_base.specs.declared.Point.{Point}
use Rattle.grid_base.specs.Points.{position_of}
use Rattle.grid_base.specs.Triples.{Triple, IsWithin, plus, minus}
use Rattle.grid_base.proofs.PointLaws.{position_of-point_at}
use Rattle.mesh_base.specs.Mesh.{Mesh}
use Rattle.mesh_base.specs.Placements.{rest_positions, position_or_origin, origin}
use Rattle.edit_pinch.specs.Pinch.{rim, fan_shift, fan_point}

-- s is at most n times a, and at least n times b below zero
record IsBetween (a b n : ℕ) (s : ℤ) : Type 0 where
  pub upper : s ≤ℤ pos (n * a)
  pub lower : pos 0 ≤ℤ (s +ℤ pos (n * b))

-- one component moves by at most a and at least b below zero
record HasWay (most : ℕ) (v : ℤ) : Type 0 where
  pub up : ℕ
  pub down : ℕ
  pub top : v +ℤ pos up ≡ pos most
  pub bottom : v +ℤ pos most ≡ pos down

way_of : (most : ℕ) (v : ℤ) → unsigned_abs v ≤ most → HasWay most v
way_of most (pos k) h = record { up = most - k; down = k + most; top = omega (arith, ints); bottom = refl }
way_of most (negsuc k) h = record { up = most + suc k; down = most - suc k; top = omega (arith, ints); bottom = omega (arith, ints) }

one_more : (n a : ℕ) → (n + 1) * a ≡ n * a + a
one_more n a = grind arith

eight : (n a : ℕ) → 8 * n * a ≡ 8 * (n * a)
eight n a = grind arith

module _ (most : ℕ) (v : ℤ) (way : HasWay most v) where
  -- one vertex more
  step : (n : ℕ) (s l : ℤ) → unsigned_abs l ≤ most → IsBetween way.up way.down n s → IsBetween way.up way.down (n + 1) (s +ℤ (l -ℤ v))
  step n s l fits h =
      let p = one_more n way.up in
      let q = one_more n way.down in
      let t = way.top in
      let b = way.bottom in
      let u = h.upper in
      let d = h.lower in
      record { upper = omega (arith, ints, p, t, u); lower = omega (arith, ints, q, b, d) }

  -- an eighth of the mean
  eighth : (n : ℕ) (s : ℤ) → IsBetween way.up way.down n s → IsBetween way.up way.down 1 (int_div s (pos (8 * n)))
  eighth n (pos k) h =
      let u = h.upper in
      let e = eight n way.up in
      let few : k ≤ 8 * n * way.up = omega (arith, ints, u, e) in
      let q : k / (8 * n) ≤ way.up = div-le_of_le-mul (8 * n) few in
      record { upper = omega (arith, ints, q); lower = omega (arith, ints, q) }
  eighth n (negsuc k) h =
      let u = h.lower in
      let e = eight n way.down in
      let few : suc k ≤ 8 * n * way.down = omega (arith, ints, u, e) in
      let q : suc k / (8 * n) ≤ way.down = div-le_of_le-mul (8 * n) few in
      below (suc k / (8 * n)) q
    where
      below : (q : ℕ) → q ≤ way.down → IsBetween way.up way.down 1 (neg_ℤ (pos q))
      below zero h = record { upper = omega (arith, ints); lower = omega (arith, ints) }
      below (suc q) h = record { upper = omega (arith, ints); lower = omega (arith, ints) }

  stays : (q : ℤ) → IsBetween way.up way.down 1 q → unsigned_abs (v +ℤ q) ≤ most
  stays q h =
      let t = way.top in
      let b = way.bottom in
      let u = h.upper in
      let d = h.lower in
      omega (arith, ints, t, b, u, d)

  -- the sum over several
  sum_between : (at : ℕ → Triple) (here : Triple) (c : Triple → ℤ) → ((s t : Triple) → c (plus s (minus t here)) ≡ c s +ℤ (c t -ℤ v)) → ((u : ℕ) → unsigned_abs (c (at u)) ≤ most) →
      (us : List ℕ) (n : ℕ) (s : Triple) → IsBetween way.up way.down n (c s) → IsBetween way.up way.down (n + length us) (c (fold (λ sum u. plus sum (minus (at u) here)) s us))
  sum_between at here c sums fits [] n s h = subst (λ k. IsBetween way.up way.down k (c s)) (let e : n ≡ n + 0 = omega arith in e) h
  sum_between at here c sums fits (u ∷ us) n s h =
      let next = plus s (minus (at u) here) in
      subst (λ k. IsBetween way.up way.down k (c (fold (λ sum u. plus sum (minus (at u) here)) next us))) (let e : n + 1 + length us ≡ n + length (u ∷ us) = omega arith in e)
      (sum_between at here c sums fits us (n + 1) next
      (subst (IsBetween way.up way.down (n + 1)) (sym (sums s (at u))) (step n (c s) (c (at u)) (fits u) h)))

pub own_within : (m : Mesh) (v : ℕ) → IsWithin BOX (rest_positions m v)
own_within m v = by_answer (finite.get m.points v)
  where
    by_answer : (o : Option Point) → IsWithin BOX (position_or_origin o)
    by_answer (Some p) = record { x_fits = p.in_box.x_fits; y_fits = p.in_box.y_fits; z_fits = p.in_box.z_fits }
    by_answer None = record { x_fits = lit≤ tt; y_fits = lit≤ tt; z_fits = lit≤ tt }

module _ (m : Mesh) (v : ℕ) (fan : List ℕ) where
  abbrev sum : Triple
  sum = fold (λ sum u. plus sum (minus (rest_positions m u) (rest_positions m v))) origin (rim m v fan)

  component : (c : Triple → ℤ) → c origin ≡ pos 0 → ((s t : Triple) → c (plus s (minus t (rest_positions m v))) ≡ c s +ℤ (c t -ℤ c (rest_positions m v))) → ((u : ℕ) → unsigned_abs (c (rest_positions m u)) ≤ BOX) →
      unsigned_abs (c (rest_positions m v) +ℤ int_div (c sum) (pos (8 * length (rim m v fan)))) ≤ BOX
  component c zero_is sums fits =
      let way = way_of BOX (c (rest_positions m v)) (fits v) in
      let none : IsBetween way.up way.down 0 (c origin) = subst (IsBetween way.up way.down 0) (sym zero_is) (nothing way.up way.down) in
      stays BOX (c (rest_positions m v)) way _
      (eighth BOX (c (rest_positions m v)) way (length (rim m v fan)) (c sum)
      (subst (λ k. IsBetween way.up way.down k (c sum)) (from_none (length (rim m v fan))) (sum_between BOX (c (rest_positions m v)) way (rest_positions m) (rest_positions m v) c sums fits (rim m v fan) 0 origin none)))
    where
      from_none : (n : ℕ) → 0 + n ≡ n
      from_none n = omega arith

      nothing : (a b : ℕ) → IsBetween a b 0 (pos 0)
      nothing a b = record { upper = omega (arith, ints); lower = omega (arith, ints) }

  -- the sum is within the box
  pub shift_within : IsWithin BOX (plus (rest_positions m v) (fan_shift m v fan))
  shift_within = record {
    x_fits = component (λ t. t.x) refl (λ s t. refl) (λ u. (own_within m u).x_fits);
    y_fits = component (λ t. t.y) refl (λ s t. refl) (λ u. (own_within m u).y_fits);
    z_fits = component (λ t. t.z) refl (λ s t. refl) (λ u. (own_within m u).z_fits);
  }

  -- so the point is there
  pub position_of-fan_point : position_of (fan_point m v fan) ≡ plus (rest_positions m v) (fan_shift m v fan)
  position_of-fan_point = position_of-point_at (plus (rest_positions m v) (fan_shift m v fan)) shift_within
