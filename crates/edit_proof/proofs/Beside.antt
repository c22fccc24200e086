-- An axis keeps apart what is in a box and what is beside it.
use Rattle.std.proofs.Common.{◌≡◌, ℕ, ◌<◌, ◌==◌, ◌∙◌, sym, ap, refl, subst, Bool, true, false, ◌&&◌, ◌||◌, ℤ, pos, ◌+ℤ◌, ◌*ℤ◌, ◌≤ℤ◌, ◌<ℤ◌, neg_ℤ, ◌⊎◌, ⊎_elim, inl, inr, arith, int_le, T, lit<}
use Rattle.std.proofs.lemmas.Int.{ints, by_lt_z}
use Rattle.std.proofs.lemmas.Bool.{and_cases, or_cases, eqb-true, false≢true}
use Rattle.std.proofs.lemmas.Bool.Decides.{nat_tests}
use Rattle.grid_base.specs.declared.Extent.{Extent}
use Rattle.grid_base.specs.Extents.{IsIn}
use Rattle.grid_base.specs.Separation.{IsBelow, IsAbove, KeepsApart, axes}
use Rattle.grid_base.specs.Triples.{Triple, dot, opposite}
use Rattle.grid_base.specs.declared.Positions.{Positions}
use Rattle.std.specs.List.{Any}
use Rattle.edit_check.proofs.Far.{IsOneOf}
use Rattle.mesh_base.specs.declared.ids.Corners.{Corners}
use Rattle.mesh_base.specs.SideList.{are_neighbours}
use Rattle.mesh_base.specs.Sides.{has_corner}
use Rattle.mesh_base.specs.Near.{one_at_most, one_at_least, reach_along, box_meets}

-- ---- numbers
true_of : (b : Bool) → T b → b ≡ true
true_of true t = refl
true_of false t = absurd t

at_most_true : (a b : ℤ) → a ≤ℤ b → int_le a b ≡ true
at_most_true a b h = true_of (int_le a b) h.le

above_from : (a b : ℤ) → int_le a b ≡ false → b <ℤ a
above_from a b h = by_lt_z b a (λ lt. lt) (λ le. absurd (false≢true (sym h ∙ at_most_true a b le)))

none_of : (a b c : Bool) → (a || b || c) ≡ false → (a ≡ false) × ((b ≡ false) × (c ≡ false))
none_of false false false h = (refl, (refl, refl))
none_of false false true h = cc
none_of false true c h = cc
none_of true b c h = cc

up_then : (p high q : ℤ) → p ≤ℤ high → high <ℤ q → p <ℤ q
up_then p high q h i = omega (arith, ints)

down_then : (p low q : ℤ) → p <ℤ low → low ≤ℤ q → p <ℤ q
down_then p low q h i = omega (arith, ints)

neg_less : (a b : ℤ) → b <ℤ a → neg_ℤ a <ℤ neg_ℤ b
neg_less a b h = omega (arith, ints)

-- three numbers are above the high end, or below the low end
record AreAbove (end a b c : ℤ) : Type 0 where
  pub first : end <ℤ a
  pub second : end <ℤ b
  pub third : end <ℤ c

record AreBelow (end a b c : ℤ) : Type 0 where
  pub first : a <ℤ end
  pub second : b <ℤ end
  pub third : c <ℤ end

abbrev AreOff : ℤ → ℤ → ℤ → ℤ → ℤ → Type 0
AreOff low high a b c = AreAbove high a b c ⊎ AreBelow low a b c

off_along : (low high a b c : ℤ) → reach_along low high a b c ≡ false → AreOff low high a b c
off_along low high a b c h = ⊎_elim
    (λ e. let n = none_of (int_le a high) (int_le b high) (int_le c high) e in inl (record { first = above_from a high n.0; second = above_from b high n.1.0; third = above_from c high n.1.1 }))
    (λ e. let n = none_of (int_le low a) (int_le low b) (int_le low c) e in inr (record { first = above_from low a n.0; second = above_from low b n.1.0; third = above_from low c n.1.1 }))
    (and_cases (one_at_most high a b c) (one_at_least low a b c) h)

-- ---- one of three
holds_of : (P : Triple → Type 0) (p x y z : Triple) → IsOneOf p x y z → P x → P y → P z → P p
holds_of P p x y z one hx hy hz = ⊎_elim (λ e. subst P e hx) (λ rest. ⊎_elim (λ e. subst P e hy) (λ e. subst P e hz) rest) one

-- ---- along a direction n that reads one coordinate
module _ (n : Triple) (at : Triple → ℤ) (low high : ℤ) (along : (p : Triple) → dot n p ≡ at p) (against : (p : Triple) → dot (opposite n) p ≡ neg_ℤ (at p)) where
  abbrev IsHeld : Triple → Type 0
  IsHeld p = (low ≤ℤ at p) × (at p ≤ℤ high)

  less : (p q : Triple) → at p <ℤ at q → dot n p <ℤ dot n q
  less p q h = rw (along p, along q) h

  more : (p q : Triple) → at q <ℤ at p → dot (opposite n) p <ℤ dot (opposite n) q
  more p q h = rw (against p, against q) (neg_less (at p) (at q) h)

  -- a face that is off, and an edge that is held
  face_above : (a b x y z : Triple) → IsHeld a → IsHeld b → AreAbove high (at x) (at y) (at z) → IsBelow n (record { a = a; b = b; c = x; d = y; e = z })
  face_above a b x y z ha hb off = record {
    ac = less a x (up_then (at a) high (at x) ha.1 off.first);
    ad = less a y (up_then (at a) high (at y) ha.1 off.second);
    ae = less a z (up_then (at a) high (at z) ha.1 off.third);
    bc = less b x (up_then (at b) high (at x) hb.1 off.first);
    bd = less b y (up_then (at b) high (at y) hb.1 off.second);
    be = less b z (up_then (at b) high (at z) hb.1 off.third);
  }

  face_below : (a b x y z : Triple) → IsHeld a → IsHeld b → AreBelow low (at x) (at y) (at z) → IsAbove n (record { a = a; b = b; c = x; d = y; e = z })
  face_below a b x y z ha hb off = record {
    ac = more a x (down_then (at x) low (at a) off.first ha.0);
    ad = more a y (down_then (at y) low (at a) off.second ha.0);
    ae = more a z (down_then (at z) low (at a) off.third ha.0);
    bc = more b x (down_then (at x) low (at b) off.first hb.0);
    bd = more b y (down_then (at y) low (at b) off.second hb.0);
    be = more b z (down_then (at z) low (at b) off.third hb.0);
  }

  far_face : (sa sb ta tb x y z : Triple) → IsHeld sa → IsHeld sb → IsHeld ta → IsHeld tb → reach_along low high (at x) (at y) (at z) ≡ false
      → KeepsApart (record { a = sa; b = sb; c = x; d = y; e = z }) (record { a = ta; b = tb; c = x; d = y; e = z }) n
  far_face sa sb ta tb x y z hsa hsb hta htb h = ⊎_elim
      (λ off. inl (face_above sa sb x y z hsa hsb off, face_above ta tb x y z hta htb off))
      (λ off. inr (face_below sa sb x y z hsa hsb off, face_below ta tb x y z hta htb off))
      (off_along low high (at x) (at y) (at z) h)

  -- an edge that is off, and a face that is held
  edge_above : (a b c d e : Triple) → IsHeld c → IsHeld d → IsHeld e → high <ℤ at a → high <ℤ at b → IsAbove n (record { a = a; b = b; c = c; d = d; e = e })
  edge_above a b c d e hc hd he oa ob = record {
    ac = more a c (up_then (at c) high (at a) hc.1 oa);
    ad = more a d (up_then (at d) high (at a) hd.1 oa);
    ae = more a e (up_then (at e) high (at a) he.1 oa);
    bc = more b c (up_then (at c) high (at b) hc.1 ob);
    bd = more b d (up_then (at d) high (at b) hd.1 ob);
    be = more b e (up_then (at e) high (at b) he.1 ob);
  }

  edge_below : (a b c d e : Triple) → IsHeld c → IsHeld d → IsHeld e → at a <ℤ low → at b <ℤ low → IsBelow n (record { a = a; b = b; c = c; d = d; e = e })
  edge_below a b c d e hc hd he oa ob = record {
    ac = less a c (down_then (at a) low (at c) oa hc.0);
    ad = less a d (down_then (at a) low (at d) oa hd.0);
    ae = less a e (down_then (at a) low (at e) oa he.0);
    bc = less b c (down_then (at b) low (at c) ob hc.0);
    bd = less b d (down_then (at b) low (at d) ob hd.0);
    be = less b e (down_then (at b) low (at e) ob he.0);
  }

  far_edge : (a b sc sd se tc td te x y z : Triple) → IsHeld sc → IsHeld sd → IsHeld se → IsHeld tc → IsHeld td → IsHeld te → IsOneOf a x y z → IsOneOf b x y z
      → reach_along low high (at x) (at y) (at z) ≡ false
      → KeepsApart (record { a = a; b = b; c = sc; d = sd; e = se }) (record { a = a; b = b; c = tc; d = td; e = te }) n
  far_edge a b sc sd se tc td te x y z hsc hsd hse htc htd hte one other h = ⊎_elim
      (λ off.
      let oa = holds_of (λ p. high <ℤ at p) a x y z one off.first off.second off.third in
      let ob = holds_of (λ p. high <ℤ at p) b x y z other off.first off.second off.third in
      inr (edge_above a b sc sd se hsc hsd hse oa ob, edge_above a b tc td te htc htd hte oa ob))
      (λ off.
      let oa = holds_of (λ p. at p <ℤ low) a x y z one off.first off.second off.third in
      let ob = holds_of (λ p. at p <ℤ low) b x y z other off.first off.second off.third in
      inl (edge_below a b sc sd se hsc hsd hse oa ob, edge_below a b tc td te htc htd hte oa ob))
      (off_along low high (at x) (at y) (at z) h)

-- ---- the axes
abbrev along_x : Triple
along_x = record { x = pos 1; y = pos 0; z = pos 0 }

abbrev along_y : Triple
along_y = record { x = pos 0; y = pos 1; z = pos 0 }

abbrev along_z : Triple
along_z = record { x = pos 0; y = pos 0; z = pos 1 }

read_x : (x y z : ℤ) → pos 1 *ℤ x +ℤ pos 0 *ℤ y +ℤ pos 0 *ℤ z ≡ x
read_x x y z = omega (arith, ints)

read_y : (x y z : ℤ) → pos 0 *ℤ x +ℤ pos 1 *ℤ y +ℤ pos 0 *ℤ z ≡ y
read_y x y z = omega (arith, ints)

read_z : (x y z : ℤ) → pos 0 *ℤ x +ℤ pos 0 *ℤ y +ℤ pos 1 *ℤ z ≡ z
read_z x y z = omega (arith, ints)

minus_x : (x y z : ℤ) → neg_ℤ (pos 1) *ℤ x +ℤ neg_ℤ (pos 0) *ℤ y +ℤ neg_ℤ (pos 0) *ℤ z ≡ neg_ℤ x
minus_x x y z = omega (arith, ints)

minus_y : (x y z : ℤ) → neg_ℤ (pos 0) *ℤ x +ℤ neg_ℤ (pos 1) *ℤ y +ℤ neg_ℤ (pos 0) *ℤ z ≡ neg_ℤ y
minus_y x y z = omega (arith, ints)

minus_z : (x y z : ℤ) → neg_ℤ (pos 0) *ℤ x +ℤ neg_ℤ (pos 0) *ℤ y +ℤ neg_ℤ (pos 1) *ℤ z ≡ neg_ℤ z
minus_z x y z = omega (arith, ints)

module _ (box : Extent) (x y z : Triple) where
  abbrev held_x : (p : Triple) → IsIn box p → (box.low.x ≤ℤ p.x) × (p.x ≤ℤ box.high.x)
  held_x p h = (h.x_low, h.x_high)

  abbrev held_y : (p : Triple) → IsIn box p → (box.low.y ≤ℤ p.y) × (p.y ≤ℤ box.high.y)
  held_y p h = (h.y_low, h.y_high)

  abbrev held_z : (p : Triple) → IsIn box p → (box.low.z ≤ℤ p.z) × (p.z ≤ℤ box.high.z)
  held_z p h = (h.z_low, h.z_high)

  abbrev on_x : Bool
  on_x = reach_along box.low.x box.high.x x.x y.x z.x

  abbrev on_y : Bool
  on_y = reach_along box.low.y box.high.y x.y y.y z.y

  abbrev on_z : Bool
  on_z = reach_along box.low.z box.high.z x.z y.z z.z

  -- one of the axes does so, where a box is beside along it
  some_axis : (s t : Positions) → (on_x ≡ false → KeepsApart s t along_x) → (on_y ≡ false → KeepsApart s t along_y) → (on_z ≡ false → KeepsApart s t along_z) → box_meets box x y z ≡ false
      → Any (KeepsApart s t) axes
  some_axis s t by_x by_y by_z h = ⊎_elim
      (λ xy. ⊎_elim (λ off. (0, along_x, lit< tt, refl, by_x off)) (λ off. (1, along_y, lit< tt, refl, by_y off)) (and_cases on_x on_y xy))
      (λ off. (2, along_z, lit< tt, refl, by_z off))
      (and_cases (on_x && on_y) on_z h)

  -- an edge that is in the box, and a face whose own box is beside it
  pub face_beside : (sa sb ta tb : Triple) → IsIn box sa → IsIn box sb → IsIn box ta → IsIn box tb → box_meets box x y z ≡ false
      → Any (KeepsApart (record { a = sa; b = sb; c = x; d = y; e = z }) (record { a = ta; b = tb; c = x; d = y; e = z })) axes
  face_beside sa sb ta tb hsa hsb hta htb = some_axis (record { a = sa; b = sb; c = x; d = y; e = z }) (record { a = ta; b = tb; c = x; d = y; e = z })
      (λ off. far_face along_x (λ p. p.x) box.low.x box.high.x (λ p. read_x p.x p.y p.z) (λ p. minus_x p.x p.y p.z) sa sb ta tb x y z (held_x sa hsa) (held_x sb hsb) (held_x ta hta) (held_x tb htb) off)
      (λ off. far_face along_y (λ p. p.y) box.low.y box.high.y (λ p. read_y p.x p.y p.z) (λ p. minus_y p.x p.y p.z) sa sb ta tb x y z (held_y sa hsa) (held_y sb hsb) (held_y ta hta) (held_y tb htb) off)
      (λ off. far_face along_z (λ p. p.z) box.low.z box.high.z (λ p. read_z p.x p.y p.z) (λ p. minus_z p.x p.y p.z) sa sb ta tb x y z (held_z sa hsa) (held_z sb hsb) (held_z ta hta) (held_z tb htb) off)

  -- a face that is in the box, and an edge of one whose own box is beside it
  pub edge_beside : (a b sc sd se tc td te : Triple) → IsIn box sc → IsIn box sd → IsIn box se → IsIn box tc → IsIn box td → IsIn box te → IsOneOf a x y z → IsOneOf b x y z → box_meets box x y z ≡ false
      → Any (KeepsApart (record { a = a; b = b; c = sc; d = sd; e = se }) (record { a = a; b = b; c = tc; d = td; e = te })) axes
  edge_beside a b sc sd se tc td te hsc hsd hse htc htd hte one other = some_axis (record { a = a; b = b; c = sc; d = sd; e = se }) (record { a = a; b = b; c = tc; d = td; e = te })
      (λ off. far_edge along_x (λ p. p.x) box.low.x box.high.x (λ p. read_x p.x p.y p.z) (λ p. minus_x p.x p.y p.z) a b sc sd se tc td te x y z (held_x sc hsc) (held_x sd hsd) (held_x se hse) (held_x tc htc) (held_x td htd) (held_x te hte) one other off)
      (λ off. far_edge along_y (λ p. p.y) box.low.y box.high.y (λ p. read_y p.x p.y p.z) (λ p. minus_y p.x p.y p.z) a b sc sd se tc td te x y z (held_y sc hsc) (held_y sd hsd) (held_y se hse) (held_y tc htc) (held_y td htd) (held_y te hte) one other off)
      (λ off. far_edge along_z (λ p. p.z) box.low.z box.high.z (λ p. read_z p.x p.y p.z) (λ p. minus_z p.x p.y p.z) a b sc sd se tc td te x y z (held_z sc hsc) (held_z sd hsd) (held_z se hse) (held_z tc htc) (held_z td htd) (held_z te hte) one other off)

-- ---- corners
-- one of the three corners
pub corner_at : (at : ℕ → Triple) (c : Corners) (v : ℕ) → has_corner c v ≡ true → IsOneOf (at v) (at c.first) (at c.second) (at c.third)
corner_at at c v h = ⊎_elim
    (λ two. ⊎_elim (λ e. inl (ap at (eqb-true c.first v e))) (λ e. inr (inl (ap at (eqb-true c.second v e)))) (or_cases (c.first == v) (c.second == v) two))
    (λ e. inr (inr (ap at (eqb-true c.third v e))))
    (or_cases ((c.first == v) || (c.second == v)) (c.third == v) h)

-- two corners are neighbours
pub both_corners : (c : Corners) (a b : ℕ) → a < b → has_corner c a ≡ true → has_corner c b ≡ true → are_neighbours c a b ≡ true
both_corners c a b less ca cb = grind (arith, nat_tests)
