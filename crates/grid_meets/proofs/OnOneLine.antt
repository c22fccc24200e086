-- Two segments whose directions are parallel, or of no length.
use Rattle.std.proofs.Common.{◌≡◌, zero, suc, ℤ, pos, negsuc, ◌+ℤ◌, ◌-ℤ◌, ◌*ℤ◌, ◌<ℤ◌, ◌≤ℤ◌, [], ◌∷◌, refl, arith}
use Rattle.std.proofs.lemmas.Int.{ints, by_lt_z}
use Rattle.grid_base.specs.Triples.{Triple, minus, dot, cross}
use Rattle.grid_base.specs.Meeting.{Meets}
use Rattle.grid_meets.specs.Segments.{HasNoLength}
use Rattle.grid_base.proofs.Polynomials.{var, num, add, sub, mul, same_polynomial, same_by_known}
use Rattle.grid_base.proofs.TermTriples.{var3, minus_t, dot_t, cross_t, components}
use Rattle.grid_base.proofs.MeetingLaws.{Meets-not_below}
use Rattle.grid_meets.proofs.Weights.{AreWeights, Meets-by_weights, weak, product-positive}
use Rattle.grid_meets.proofs.Crossing.{below_by, Meets-turned}
use Rattle.grid_meets.proofs.Sides.{Meets-first_side}
use Rattle.grid_meets.proofs.Segments.{pair, on_line_within, on_line_straddled}

-- ---- the vector of no length
square-not_negative : (x : ℤ) → pos 0 ≤ℤ (x *ℤ x)
square-not_negative (pos n) = omega (arith, ints)
square-not_negative (negsuc n) = omega (arith, ints)

zero-from_square : (x : ℤ) → (x *ℤ x) ≤ℤ pos 0 → x ≡ pos 0
zero-from_square (pos zero) h = refl
zero-from_square (pos (suc n)) h = absurd (omega (arith, ints))
zero-from_square (negsuc n) h = absurd (omega (arith, ints))

parts_none : (p q r : ℤ) → pos 0 ≤ℤ p → pos 0 ≤ℤ q → pos 0 ≤ℤ r → p +ℤ q +ℤ r ≡ pos 0 → (p ≤ℤ pos 0) × (q ≤ℤ pos 0) × (r ≤ℤ pos 0)
parts_none p q r hp hq hr h = (omega (arith, ints), omega (arith, ints), omega (arith, ints))

pub HasNoLength-from_square : (n : Triple) → dot n n ≡ pos 0 → HasNoLength n
HasNoLength-from_square n h =
    let p = parts_none (n.x *ℤ n.x) (n.y *ℤ n.y) (n.z *ℤ n.z) (square-not_negative n.x) (square-not_negative n.y) (square-not_negative n.z) h in
    record { x = zero-from_square n.x p.0; y = zero-from_square n.y p.1; z = zero-from_square n.z p.2 }

pub square_of-not_negative : (n : Triple) → pos 0 ≤ℤ dot n n
square_of-not_negative n = sum (n.x *ℤ n.x) (n.y *ℤ n.y) (n.z *ℤ n.z) (square-not_negative n.x) (square-not_negative n.y) (square-not_negative n.z)
  where
    sum : (p q r : ℤ) → pos 0 ≤ℤ p → pos 0 ≤ℤ q → pos 0 ≤ℤ r → pos 0 ≤ℤ (p +ℤ q +ℤ r)
    sum p q r hp hq hr = omega (arith, ints)

dot-none : (p n : Triple) → HasNoLength n → dot p n ≡ pos 0
dot-none p n h = rw (h.x, h.y, h.z) (same_polynomial (components (p ∷ [])) (add (add (mul (var 0) (num (pos 0))) (mul (var 1) (num (pos 0)))) (mul (var 2) (num (pos 0)))) (num (pos 0)) refl)

-- ---- lines side by side
pub not_on_line : (a b c d : Triple) → HasNoLength (cross (minus b a) (minus d c)) → pos 0 <ℤ dot (cross (minus b a) (minus c a)) (cross (minus b a) (minus c a)) → Meets a b c d d → ⊥
not_on_line a b c d parallel apart w =
    let a' = var3 0 in let b' = var3 3 in let c' = var3 6 in let d' = var3 9 in
    let xs = components (a ∷ b ∷ c ∷ d ∷ []) in
    let u' = minus_t b' a' in
    let p' = cross_t u' (minus_t c' a') in
    let m' = cross_t p' u' in
    let near = dot_t p' p' in
    let far = add near (dot_t p' (cross_t u' (minus_t d' c'))) in
    let h_far = same_gap _ _ apart (dot-none (cross (minus b a) (minus c a)) _ parallel) in
    Meets-not_below (cross (cross (minus b a) (minus c a)) (minus b a)) (pair a b c d) (record {
      ac = below_by xs (dot_t m' a') (dot_t m' c') near refl apart;
      ad = below_by xs (dot_t m' a') (dot_t m' d') far refl h_far;
      ae = below_by xs (dot_t m' a') (dot_t m' d') far refl h_far;
      bc = below_by xs (dot_t m' b') (dot_t m' c') near refl apart;
      bd = below_by xs (dot_t m' b') (dot_t m' d') far refl h_far;
      be = below_by xs (dot_t m' b') (dot_t m' d') far refl h_far;
    }) w
  where
    same_gap : (p q : ℤ) → pos 0 <ℤ p → q ≡ pos 0 → pos 0 <ℤ (p +ℤ q)
    same_gap p q h e = omega (arith, ints)

-- ---- positions on the line through a and b
-- c lies by k of U along the way from a to b
pub record IsAlong (U k : ℤ) (a b c : Triple) : Type 0 where
  pub x : U *ℤ (c.x -ℤ a.x) ≡ k *ℤ (b.x -ℤ a.x)
  pub y : U *ℤ (c.y -ℤ a.y) ≡ k *ℤ (b.y -ℤ a.y)
  pub z : U *ℤ (c.z -ℤ a.z) ≡ k *ℤ (b.z -ℤ a.z)

along : (U k w u p q s t : ℤ) → U *ℤ w ≡ k *ℤ u +ℤ (p *ℤ s -ℤ q *ℤ t) → p ≡ pos 0 → q ≡ pos 0 → U *ℤ w ≡ k *ℤ u
along U k w u p q s t h hp hq =
    same_by_known (U ∷ k ∷ w ∷ u ∷ p ∷ q ∷ s ∷ t ∷ [])
    (record { factor = num (pos 1); left = mul (var 0) (var 2); right = add (mul (var 1) (var 3)) (sub (mul (var 4) (var 6)) (mul (var 5) (var 7))) }
    ∷ record { factor = var 6; left = var 4; right = num (pos 0) }
    ∷ record { factor = sub (num (pos 0)) (var 7); left = var 5; right = num (pos 0) } ∷ [])
    (mul (var 0) (var 2)) (mul (var 1) (var 3)) (h, (hp, (hq, tt))) refl

pub IsAlong-from_line : (a b c : Triple) → HasNoLength (cross (minus b a) (minus c a)) → IsAlong (dot (minus b a) (minus b a)) (dot (minus b a) (minus c a)) a b c
IsAlong-from_line a b c none =
    let u = minus b a in let w = minus c a in let p = cross u w in
    let u' = var3 0 in let w' = var3 3 in let p' = cross_t u' w' in
    record {
      x = along (dot u u) (dot u w) w.x u.x p.y p.z u.z u.y (same_polynomial (components (u ∷ w ∷ [])) (mul (dot_t u' u') w'.x) (add (mul (dot_t u' w') u'.x) (sub (mul p'.y u'.z) (mul p'.z u'.y))) refl) none.y none.z;
      y = along (dot u u) (dot u w) w.y u.y p.z p.x u.x u.z (same_polynomial (components (u ∷ w ∷ [])) (mul (dot_t u' u') w'.y) (add (mul (dot_t u' w') u'.y) (sub (mul p'.z u'.x) (mul p'.x u'.z))) refl) none.z none.x;
      z = along (dot u u) (dot u w) w.z u.z p.x p.y u.y u.x (same_polynomial (components (u ∷ w ∷ [])) (mul (dot_t u' u') w'.z) (add (mul (dot_t u' w') u'.z) (sub (mul p'.x u'.y) (mul p'.y u'.x))) refl) none.x none.y;
    }

-- d is on the line too, where the segments are parallel
pub HasNoLength-second : (a b c d : Triple) → HasNoLength (cross (minus b a) (minus d c)) → HasNoLength (cross (minus b a) (minus c a)) → HasNoLength (cross (minus b a) (minus d a))
HasNoLength-second a b c d parallel none =
    let a' = var3 0 in let b' = var3 3 in let c' = var3 6 in let d' = var3 9 in
    let xs = components (a ∷ b ∷ c ∷ d ∷ []) in
    let n' = cross_t (minus_t b' a') (minus_t d' c') in
    let p' = cross_t (minus_t b' a') (minus_t c' a') in
    let q' = cross_t (minus_t b' a') (minus_t d' a') in
    record {
      x = none_sum _ _ _ (same_polynomial xs q'.x (add n'.x p'.x) refl) parallel.x none.x;
      y = none_sum _ _ _ (same_polynomial xs q'.y (add n'.y p'.y) refl) parallel.y none.y;
      z = none_sum _ _ _ (same_polynomial xs q'.z (add n'.z p'.z) refl) parallel.z none.z;
    }
  where
    none_sum : (q n p : ℤ) → q ≡ n +ℤ p → n ≡ pos 0 → p ≡ pos 0 → q ≡ pos 0
    none_sum q n p e hn hp = omega (arith, ints)

-- ---- segments on one line
pub end_within : (a b c d : Triple) (U k : ℤ) → IsAlong U k a b c → pos 0 <ℤ U → pos 0 ≤ℤ k → k ≤ℤ U → Meets a b c d d
end_within a b c d U k h some hk hu =
    Meets-by_weights _ _ _ _ _ a b c d d (weights U k some hk hu)
    (on_line_within U k a.x b.x c.x d.x h.x) (on_line_within U k a.y b.y c.y d.y h.y) (on_line_within U k a.z b.z c.z d.z h.z)
  where
    weights : (U k : ℤ) → pos 0 <ℤ U → pos 0 ≤ℤ k → k ≤ℤ U → AreWeights (U -ℤ k) k U (pos 0) (pos 0)
    weights U k some hk hu = record { i_fits = omega (arith, ints); j_fits = hk; k_fits = omega (arith, ints); l_fits = omega (arith, ints); m_fits = omega (arith, ints); some = omega (arith, ints); same = omega (arith, ints) }

pub Meets-other_way : (a b c d : Triple) → Meets a b d c c → Meets a b c d d
Meets-other_way a b c d w = Meets-turned a b d c d (Meets-first_side a b d c d w)

pub straddled : (a b c d : Triple) (U k l : ℤ) → IsAlong U k a b c → IsAlong U l a b d → pos 0 <ℤ U → k <ℤ pos 0 → pos 0 <ℤ l → Meets a b c d d
straddled a b c d U k l hc hd some before behind =
    Meets-by_weights _ _ _ _ _ a b c d d (weights U k l some before behind)
    (on_line_straddled U k l a.x b.x c.x d.x hc.x hd.x) (on_line_straddled U k l a.y b.y c.y d.y hc.y hd.y) (on_line_straddled U k l a.z b.z c.z d.z hc.z hd.z)
  where
    away : (k : ℤ) → k <ℤ pos 0 → pos 0 <ℤ (pos 0 -ℤ k)
    away k h = omega (arith, ints)

    wide : (k l : ℤ) → k <ℤ pos 0 → pos 0 <ℤ l → pos 0 <ℤ (l -ℤ k)
    wide k l h g = omega (arith, ints)

    plain : (x : ℤ) → pos 0 <ℤ x → pos 0 <ℤ (x +ℤ pos 0)
    plain x h = omega (arith, ints)

    weights : (U k l : ℤ) → pos 0 <ℤ U → k <ℤ pos 0 → pos 0 <ℤ l → AreWeights (U *ℤ (l -ℤ k)) (pos 0) (U *ℤ l) (U *ℤ (pos 0 -ℤ k)) (pos 0)
    weights U k l some h g = record {
      i_fits = weak _ (product-positive U (l -ℤ k) some (wide k l h g));
      j_fits = omega (arith, ints);
      k_fits = weak _ (product-positive U l some g);
      l_fits = weak _ (product-positive U (pos 0 -ℤ k) some (away k h));
      m_fits = omega (arith, ints);
      some = plain _ (product-positive U (l -ℤ k) some (wide k l h g));
      same = same_polynomial (U ∷ k ∷ l ∷ []) (add (mul (var 0) (sub (var 2) (var 1))) (num (pos 0))) (add (add (mul (var 0) (var 2)) (mul (var 0) (sub (num (pos 0)) (var 1)))) (num (pos 0))) refl;
    }

module _ (a b c d : Triple) where
  pub both_before : pos 0 <ℤ dot (minus b a) (minus b a) → dot (minus b a) (minus c a) <ℤ pos 0 → dot (minus b a) (minus d a) <ℤ pos 0 → Meets a b c d d → ⊥
  both_before some hc hd w =
      let a' = var3 0 in let b' = var3 3 in let c' = var3 6 in let d' = var3 9 in
      let xs = components (a ∷ b ∷ c ∷ d ∷ []) in
      let u' = minus_t b' a' in
      let m' = minus_t a' b' in
      let gc = sub (num (pos 0)) (dot_t u' (minus_t c' a')) in
      let gd = sub (num (pos 0)) (dot_t u' (minus_t d' a')) in
      let hc0 = away _ hc in let hd0 = away _ hd in
      let hc1 = both _ _ some hc0 in let hd1 = both _ _ some hd0 in
      Meets-not_below (minus a b) (pair a b c d) (record {
        ac = below_by xs (dot_t m' a') (dot_t m' c') gc refl hc0;
        ad = below_by xs (dot_t m' a') (dot_t m' d') gd refl hd0;
        ae = below_by xs (dot_t m' a') (dot_t m' d') gd refl hd0;
        bc = below_by xs (dot_t m' b') (dot_t m' c') (add (dot_t u' u') gc) refl hc1;
        bd = below_by xs (dot_t m' b') (dot_t m' d') (add (dot_t u' u') gd) refl hd1;
        be = below_by xs (dot_t m' b') (dot_t m' d') (add (dot_t u' u') gd) refl hd1;
      }) w
    where
      away : (k : ℤ) → k <ℤ pos 0 → pos 0 <ℤ (pos 0 -ℤ k)
      away k h = omega (arith, ints)

      both : (x y : ℤ) → pos 0 <ℤ x → pos 0 <ℤ y → pos 0 <ℤ (x +ℤ y)
      both x y h k = omega (arith, ints)

  pub both_past : pos 0 <ℤ dot (minus b a) (minus b a) → dot (minus b a) (minus b a) <ℤ dot (minus b a) (minus c a) → dot (minus b a) (minus b a) <ℤ dot (minus b a) (minus d a) → Meets a b c d d → ⊥
  both_past some hc hd w =
      let a' = var3 0 in let b' = var3 3 in let c' = var3 6 in let d' = var3 9 in
      let xs = components (a ∷ b ∷ c ∷ d ∷ []) in
      let u' = minus_t b' a' in
      let gc = dot_t u' (minus_t c' a') in
      let gd = dot_t u' (minus_t d' a') in
      let hc0 = through _ _ some hc in let hd0 = through _ _ some hd in
      let hc1 = past _ _ hc in let hd1 = past _ _ hd in
      Meets-not_below (minus b a) (pair a b c d) (record {
        ac = below_by xs (dot_t u' a') (dot_t u' c') gc refl hc0;
        ad = below_by xs (dot_t u' a') (dot_t u' d') gd refl hd0;
        ae = below_by xs (dot_t u' a') (dot_t u' d') gd refl hd0;
        bc = below_by xs (dot_t u' b') (dot_t u' c') (sub gc (dot_t u' u')) refl hc1;
        bd = below_by xs (dot_t u' b') (dot_t u' d') (sub gd (dot_t u' u')) refl hd1;
        be = below_by xs (dot_t u' b') (dot_t u' d') (sub gd (dot_t u' u')) refl hd1;
      }) w
    where
      through : (N s : ℤ) → pos 0 <ℤ N → N <ℤ s → pos 0 <ℤ s
      through N s h k = omega (arith, ints)

      past : (N s : ℤ) → N <ℤ s → pos 0 <ℤ (s -ℤ N)
      past N s h = omega (arith, ints)

-- ---- what the tests say
module _ (a b c d : Triple) (parallel : HasNoLength (cross (minus b a) (minus d c))) (long : pos 0 <ℤ dot (minus b a) (minus b a))
    (flat : dot (cross (minus b a) (minus c a)) (cross (minus b a) (minus c a)) ≤ℤ pos 0) where
  no_height : HasNoLength (cross (minus b a) (minus c a))
  no_height = HasNoLength-from_square _ (exactly _ (square_of-not_negative (cross (minus b a) (minus c a))) flat)
    where
      exactly : (v : ℤ) → pos 0 ≤ℤ v → v ≤ℤ pos 0 → v ≡ pos 0
      exactly v h k = omega (arith, ints)

  pub meets_within : pos 0 ≤ℤ dot (minus b a) (minus c a) → dot (minus b a) (minus c a) ≤ℤ dot (minus b a) (minus b a) → Meets a b c d d
  meets_within h k = end_within a b c d _ _ (IsAlong-from_line a b c no_height) long h k

  pub meets_second_within : pos 0 ≤ℤ dot (minus b a) (minus d a) → dot (minus b a) (minus d a) ≤ℤ dot (minus b a) (minus b a) → Meets a b c d d
  meets_second_within h k = Meets-other_way a b c d (end_within a b d c _ _ (IsAlong-from_line a b d (HasNoLength-second a b c d parallel no_height)) long h k)

  pub meets_from_before : dot (minus b a) (minus c a) <ℤ pos 0 → pos 0 ≤ℤ dot (minus b a) (minus d a) → Meets a b c d d
  meets_from_before before h =
      by_lt_z (pos 0) (dot (minus b a) (minus d a))
      (λ behind. straddled a b c d _ _ _ (IsAlong-from_line a b c no_height) (IsAlong-from_line a b d (HasNoLength-second a b c d parallel no_height)) long before behind)
      (λ at_a. meets_second_within h (chain _ _ at_a long))
    where
      chain : (l U : ℤ) → l ≤ℤ pos 0 → pos 0 <ℤ U → l ≤ℤ U
      chain l U p q = omega (arith, ints)

  pub meets_from_past : dot (minus b a) (minus b a) <ℤ dot (minus b a) (minus c a) → dot (minus b a) (minus d a) ≤ℤ dot (minus b a) (minus b a) → Meets a b c d d
  meets_from_past behind h =
      by_lt_z (dot (minus b a) (minus d a)) (pos 0)
      (λ before. Meets-other_way a b c d (straddled a b d c _ _ _ (IsAlong-from_line a b d (HasNoLength-second a b c d parallel no_height)) (IsAlong-from_line a b c no_height) long before (chain _ _ long behind)))
      (λ from_a. meets_second_within from_a h)
    where
      chain : (U k : ℤ) → pos 0 <ℤ U → U <ℤ k → pos 0 <ℤ k
      chain U k p q = omega (arith, ints)
