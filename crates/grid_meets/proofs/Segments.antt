-- Two segments: a triangle whose corners d and e are one position is the segment from c to d.
use Rattle.std.proofs.Common.{◌≡◌, ℤ, pos, negsuc, ◌+ℤ◌, ◌-ℤ◌, ◌*ℤ◌, ◌<ℤ◌, ◌≤ℤ◌, [], ◌∷◌, ap, refl, sym, ◌∙◌, arith}
use Rattle.std.proofs.lemmas.Int.{ints}
use Rattle.grid_base.specs.Triples.{Triple, minus, dot, cross}
use Rattle.grid_base.specs.declared.Positions.{Positions}
use Rattle.grid_base.specs.Meeting.{Meets}
use Rattle.grid_base.proofs.Polynomials.{var, num, add, sub, mul, same_polynomial, same_by_known}
use Rattle.grid_base.proofs.TermTriples.{var3, minus_t, dot_t, cross_t, components}
use Rattle.grid_base.proofs.MeetingLaws.{Meets-not_below}
use Rattle.grid_meets.proofs.Weights.{AreWeights, Meets-by_weights}
use Rattle.grid_meets.proofs.Crossing.{below_by}
use Rattle.grid_meets.proofs.Plane.{parts-x, parts-y, parts-z}

abbrev pub pair : Triple → Triple → Triple → Triple → Positions
pair a b c d = record { a = a; b = b; c = c; d = d; e = d }

away : (s : ℤ) → s <ℤ pos 0 → pos 0 <ℤ (pos 0 -ℤ s)
away s h = omega (arith, ints)

past : (s t : ℤ) → s <ℤ t → pos 0 <ℤ (t -ℤ s)
past s t h = omega (arith, ints)

gap_over : (N s : ℤ) → pos 0 <ℤ N → s <ℤ pos 0 → pos 0 <ℤ (N -ℤ s)
gap_over N s h k = omega (arith, ints)

through : (N s : ℤ) → pos 0 <ℤ N → N <ℤ s → pos 0 <ℤ s
through N s h k = omega (arith, ints)

module _ (a b c d : Triple) where
  -- the lines pass each other
  pub not_in_plane_over : pos 0 <ℤ dot (cross (minus b a) (minus d c)) (minus c a) → Meets a b c d d → ⊥
  not_in_plane_over h w =
      let a' = var3 0 in let b' = var3 3 in let c' = var3 6 in let d' = var3 9 in
      let xs = components (a ∷ b ∷ c ∷ d ∷ []) in
      let n' = cross_t (minus_t b' a') (minus_t d' c') in
      let gap = dot_t n' (minus_t c' a') in
      Meets-not_below (cross (minus b a) (minus d c)) (pair a b c d) (record {
        ac = below_by xs (dot_t n' a') (dot_t n' c') gap refl h;
        ad = below_by xs (dot_t n' a') (dot_t n' d') gap refl h;
        ae = below_by xs (dot_t n' a') (dot_t n' d') gap refl h;
        bc = below_by xs (dot_t n' b') (dot_t n' c') gap refl h;
        bd = below_by xs (dot_t n' b') (dot_t n' d') gap refl h;
        be = below_by xs (dot_t n' b') (dot_t n' d') gap refl h;
      }) w

  -- the lines cross, and the crossing is before a
  pub not_before_a : pos 0 <ℤ dot (cross (minus b a) (minus d c)) (cross (minus b a) (minus d c)) →
      dot (cross (minus c a) (minus d c)) (cross (minus b a) (minus d c)) <ℤ pos 0 → Meets a b c d d → ⊥
  not_before_a some h w =
      let a' = var3 0 in let b' = var3 3 in let c' = var3 6 in let d' = var3 9 in
      let xs = components (a ∷ b ∷ c ∷ d ∷ []) in
      let v' = minus_t d' c' in
      let n' = cross_t (minus_t b' a') v' in
      let m' = cross_t n' v' in
      let s' = dot_t (cross_t (minus_t c' a') v') n' in
      let near = sub (num (pos 0)) s' in
      let far = sub (dot_t n' n') s' in
      let h_near = away _ h in
      let h_far = gap_over _ _ some h in
      Meets-not_below (cross (cross (minus b a) (minus d c)) (minus d c)) (pair a b c d) (record {
        ac = below_by xs (dot_t m' a') (dot_t m' c') near refl h_near;
        ad = below_by xs (dot_t m' a') (dot_t m' d') near refl h_near;
        ae = below_by xs (dot_t m' a') (dot_t m' d') near refl h_near;
        bc = below_by xs (dot_t m' b') (dot_t m' c') far refl h_far;
        bd = below_by xs (dot_t m' b') (dot_t m' d') far refl h_far;
        be = below_by xs (dot_t m' b') (dot_t m' d') far refl h_far;
      }) w

-- the lines cross inside both segments
crossing_position : (N s t h n a b c d : ℤ) → N *ℤ (c -ℤ a) ≡ s *ℤ (b -ℤ a) +ℤ (pos 0 -ℤ t) *ℤ (d -ℤ c) +ℤ h *ℤ n → h ≡ pos 0 →
    (N -ℤ s) *ℤ a +ℤ s *ℤ b ≡ (N -ℤ t) *ℤ c +ℤ t *ℤ d +ℤ pos 0 *ℤ d
crossing_position N s t h n a b c d parts flat =
    let n' = var 0 in let s' = var 1 in let t' = var 2 in let h' = var 3 in let x' = var 4 in let a' = var 5 in let b' = var 6 in let c' = var 7 in let d' = var 8 in
    let none = num (pos 0) in
    same_by_known (N ∷ s ∷ t ∷ h ∷ n ∷ a ∷ b ∷ c ∷ d ∷ [])
    (record { factor = num (negsuc 0); left = mul n' (sub c' a'); right = add (add (mul s' (sub b' a')) (mul (sub none t') (sub d' c'))) (mul h' x') }
    ∷ record { factor = sub none x'; left = h'; right = none } ∷ [])
    (add (mul (sub n' s') a') (mul s' b')) (add (add (mul (sub n' t') c') (mul t' d')) (mul none d'))
    (parts, (flat, tt)) refl

-- on one line: each end of cd lies by c1 and d1 of U along ab
pub on_line_straddled : (U c1 d1 a b c d : ℤ) → U *ℤ (c -ℤ a) ≡ c1 *ℤ (b -ℤ a) → U *ℤ (d -ℤ a) ≡ d1 *ℤ (b -ℤ a) →
    (U *ℤ (d1 -ℤ c1)) *ℤ a +ℤ pos 0 *ℤ b ≡ (U *ℤ d1) *ℤ c +ℤ (U *ℤ (pos 0 -ℤ c1)) *ℤ d +ℤ pos 0 *ℤ d
on_line_straddled U c1 d1 a b c d hc hd =
    let u' = var 0 in let p' = var 1 in let q' = var 2 in let a' = var 3 in let b' = var 4 in let c' = var 5 in let d' = var 6 in let none = num (pos 0) in
    same_by_known (U ∷ c1 ∷ d1 ∷ a ∷ b ∷ c ∷ d ∷ [])
    (record { factor = sub none q'; left = mul u' (sub c' a'); right = mul p' (sub b' a') }
    ∷ record { factor = p'; left = mul u' (sub d' a'); right = mul q' (sub b' a') } ∷ [])
    (add (mul (mul u' (sub q' p')) a') (mul none b')) (add (add (mul (mul u' q') c') (mul (mul u' (sub none p')) d')) (mul none d'))
    (hc, (hd, tt)) refl

pub on_line_within : (U c1 a b c d : ℤ) → U *ℤ (c -ℤ a) ≡ c1 *ℤ (b -ℤ a) → (U -ℤ c1) *ℤ a +ℤ c1 *ℤ b ≡ U *ℤ c +ℤ pos 0 *ℤ d +ℤ pos 0 *ℤ d
on_line_within U c1 a b c d h =
    let u' = var 0 in let p' = var 1 in let a' = var 2 in let b' = var 3 in let c' = var 4 in let d' = var 5 in let none = num (pos 0) in
    same_by_known (U ∷ c1 ∷ a ∷ b ∷ c ∷ d ∷ [])
    (record { factor = num (negsuc 0); left = mul u' (sub c' a'); right = mul p' (sub b' a') } ∷ [])
    (add (mul (sub u' p') a') (mul p' b')) (add (add (mul u' c') (mul none d')) (mul none d'))
    (h, tt) refl

module _ (a b c d : Triple) where
  -- the lines pass each other, the other way
  pub not_in_plane_under : dot (cross (minus b a) (minus d c)) (minus c a) <ℤ pos 0 → Meets a b c d d → ⊥
  not_in_plane_under h w =
      let a' = var3 0 in let b' = var3 3 in let c' = var3 6 in let d' = var3 9 in
      let xs = components (a ∷ b ∷ c ∷ d ∷ []) in
      let n' = cross_t (minus_t d' c') (minus_t b' a') in
      let gap = sub (num (pos 0)) (dot_t (cross_t (minus_t b' a') (minus_t d' c')) (minus_t c' a')) in
      let g = away _ h in
      Meets-not_below (cross (minus d c) (minus b a)) (pair a b c d) (record {
        ac = below_by xs (dot_t n' a') (dot_t n' c') gap refl g;
        ad = below_by xs (dot_t n' a') (dot_t n' d') gap refl g;
        ae = below_by xs (dot_t n' a') (dot_t n' d') gap refl g;
        bc = below_by xs (dot_t n' b') (dot_t n' c') gap refl g;
        bd = below_by xs (dot_t n' b') (dot_t n' d') gap refl g;
        be = below_by xs (dot_t n' b') (dot_t n' d') gap refl g;
      }) w

  -- the crossing is past b
  pub not_past_b : pos 0 <ℤ dot (cross (minus b a) (minus d c)) (cross (minus b a) (minus d c)) →
      dot (cross (minus b a) (minus d c)) (cross (minus b a) (minus d c)) <ℤ dot (cross (minus c a) (minus d c)) (cross (minus b a) (minus d c)) → Meets a b c d d → ⊥
  not_past_b some h w =
      let a' = var3 0 in let b' = var3 3 in let c' = var3 6 in let d' = var3 9 in
      let xs = components (a ∷ b ∷ c ∷ d ∷ []) in
      let v' = minus_t d' c' in
      let n' = cross_t (minus_t b' a') v' in
      let m' = cross_t v' n' in
      let s' = dot_t (cross_t (minus_t c' a') v') n' in
      let near = sub s' (dot_t n' n') in
      let h_far = through _ _ some h in
      let h_near = past _ _ h in
      Meets-not_below (cross (minus d c) (cross (minus b a) (minus d c))) (pair a b c d) (record {
        ac = below_by xs (dot_t m' a') (dot_t m' c') s' refl h_far;
        ad = below_by xs (dot_t m' a') (dot_t m' d') s' refl h_far;
        ae = below_by xs (dot_t m' a') (dot_t m' d') s' refl h_far;
        bc = below_by xs (dot_t m' b') (dot_t m' c') near refl h_near;
        bd = below_by xs (dot_t m' b') (dot_t m' d') near refl h_near;
        be = below_by xs (dot_t m' b') (dot_t m' d') near refl h_near;
      }) w

  -- the crossing is before c
  pub not_before_c : pos 0 <ℤ dot (cross (minus b a) (minus d c)) (cross (minus b a) (minus d c)) →
      dot (cross (minus c a) (minus b a)) (cross (minus b a) (minus d c)) <ℤ pos 0 → Meets a b c d d → ⊥
  not_before_c some h w =
      let a' = var3 0 in let b' = var3 3 in let c' = var3 6 in let d' = var3 9 in
      let xs = components (a ∷ b ∷ c ∷ d ∷ []) in
      let u' = minus_t b' a' in
      let n' = cross_t u' (minus_t d' c') in
      let m' = cross_t n' u' in
      let t' = dot_t (cross_t (minus_t c' a') u') n' in
      let near = sub (num (pos 0)) t' in
      let far = sub (dot_t n' n') t' in
      let h_near = away _ h in
      let h_far = gap_over _ _ some h in
      Meets-not_below (cross (cross (minus b a) (minus d c)) (minus b a)) (pair a b c d) (record {
        ac = below_by xs (dot_t m' a') (dot_t m' c') near refl h_near;
        ad = below_by xs (dot_t m' a') (dot_t m' d') far refl h_far;
        ae = below_by xs (dot_t m' a') (dot_t m' d') far refl h_far;
        bc = below_by xs (dot_t m' b') (dot_t m' c') near refl h_near;
        bd = below_by xs (dot_t m' b') (dot_t m' d') far refl h_far;
        be = below_by xs (dot_t m' b') (dot_t m' d') far refl h_far;
      }) w

  -- the crossing is past d
  pub not_past_d : pos 0 <ℤ dot (cross (minus b a) (minus d c)) (cross (minus b a) (minus d c)) →
      dot (cross (minus b a) (minus d c)) (cross (minus b a) (minus d c)) <ℤ dot (cross (minus c a) (minus b a)) (cross (minus b a) (minus d c)) → Meets a b c d d → ⊥
  not_past_d some h w =
      let a' = var3 0 in let b' = var3 3 in let c' = var3 6 in let d' = var3 9 in
      let xs = components (a ∷ b ∷ c ∷ d ∷ []) in
      let u' = minus_t b' a' in
      let n' = cross_t u' (minus_t d' c') in
      let m' = cross_t u' n' in
      let t' = dot_t (cross_t (minus_t c' a') u') n' in
      let near = sub t' (dot_t n' n') in
      let h_far = through _ _ some h in
      let h_near = past _ _ h in
      Meets-not_below (cross (minus b a) (cross (minus b a) (minus d c))) (pair a b c d) (record {
        ac = below_by xs (dot_t m' a') (dot_t m' c') t' refl h_far;
        ad = below_by xs (dot_t m' a') (dot_t m' d') near refl h_near;
        ae = below_by xs (dot_t m' a') (dot_t m' d') near refl h_near;
        bc = below_by xs (dot_t m' b') (dot_t m' c') t' refl h_far;
        bd = below_by xs (dot_t m' b') (dot_t m' d') near refl h_near;
        be = below_by xs (dot_t m' b') (dot_t m' d') near refl h_near;
      }) w

crossing_weights : (N s t : ℤ) → pos 0 <ℤ N → pos 0 ≤ℤ s → s ≤ℤ N → pos 0 ≤ℤ t → t ≤ℤ N → AreWeights (N -ℤ s) s (N -ℤ t) t (pos 0)
crossing_weights N s t some hs hsn ht htn = record { i_fits = omega (arith, ints); j_fits = hs; k_fits = omega (arith, ints); l_fits = ht; m_fits = omega (arith, ints); some = omega (arith, ints); same = omega (arith, ints) }

-- the vector from a to c along the two segments and across them
crossing_parts : (N s t h : ℤ) (n w u v : ℤ) (v_part : ℤ) → v_part ≡ pos 0 -ℤ t → N *ℤ w ≡ s *ℤ u +ℤ v_part *ℤ v +ℤ h *ℤ n → N *ℤ w ≡ s *ℤ u +ℤ (pos 0 -ℤ t) *ℤ v +ℤ h *ℤ n
crossing_parts N s t h n w u v p e k = rw (← e) k

along_second : (u v w : Triple) → dot (cross u v) (cross u w) ≡ pos 0 -ℤ dot (cross w u) (cross u v)
along_second u v w =
    let u' = var3 0 in let v' = var3 3 in let w' = var3 6 in
    same_polynomial (components (u ∷ v ∷ w ∷ [])) (dot_t (cross_t u' v') (cross_t u' w')) (sub (num (pos 0)) (dot_t (cross_t w' u') (cross_t u' v'))) refl

along_first : (u v w : Triple) → dot (cross u v) (cross w v) ≡ dot (cross w v) (cross u v)
along_first u v w =
    let u' = var3 0 in let v' = var3 3 in let w' = var3 6 in
    same_polynomial (components (u ∷ v ∷ w ∷ [])) (dot_t (cross_t u' v') (cross_t w' v')) (dot_t (cross_t w' v') (cross_t u' v')) refl

pub crossing_inside : (a b c d : Triple) (N s t : ℤ) →
    N ≡ dot (cross (minus b a) (minus d c)) (cross (minus b a) (minus d c)) →
    s ≡ dot (cross (minus c a) (minus d c)) (cross (minus b a) (minus d c)) →
    t ≡ dot (cross (minus c a) (minus b a)) (cross (minus b a) (minus d c)) →
    dot (cross (minus b a) (minus d c)) (minus c a) ≡ pos 0 →
    pos 0 <ℤ N → pos 0 ≤ℤ s → s ≤ℤ N → pos 0 ≤ℤ t → t ≤ℤ N → Meets a b c d d
crossing_inside a b c d N s t N_is s_is t_is flat some hs hsn ht htn =
    let u = minus b a in let v = minus d c in let w = minus c a in
    let s_along : s ≡ dot (cross u v) (cross w v) = s_is ∙ sym (along_first u v w) in
    let t_along : dot (cross u v) (cross u w) ≡ pos 0 -ℤ t = along_second u v w ∙ ap (λ (x : ℤ). pos 0 -ℤ x) (sym t_is) in
    Meets-by_weights _ _ _ _ _ a b c d d (crossing_weights N s t some hs hsn ht htn)
    (crossing_position N s t (dot (cross u v) w) (cross u v).x a.x b.x c.x d.x (crossing_parts N s t (dot (cross u v) w) (cross u v).x w.x u.x v.x _ t_along (rw (N_is, s_along) (parts-x u v w))) flat)
    (crossing_position N s t (dot (cross u v) w) (cross u v).y a.y b.y c.y d.y (crossing_parts N s t (dot (cross u v) w) (cross u v).y w.y u.y v.y _ t_along (rw (N_is, s_along) (parts-y u v w))) flat)
    (crossing_position N s t (dot (cross u v) w) (cross u v).z a.z b.z c.z d.z (crossing_parts N s t (dot (cross u v) w) (cross u v).z w.z u.z v.z _ t_along (rw (N_is, s_along) (parts-z u v w))) flat)
