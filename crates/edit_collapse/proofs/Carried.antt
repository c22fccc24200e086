-- Corners with one vertex in another's place, and the steps of faces when both vertices are one.
use Rattle.std.proofs.Common.{◌≡◌, ◌≢◌, ◌⊎◌, ⊎_elim, inl, inr, ℕ, zero, suc, ◌+◌, ◌<◌, Bool, true, false, cond, ◌&&◌, ◌||◌, ◌==◌, if◌then◌else◌, refl, sym, ap, subst, ◌∙◌, arith}
use Rattle.std.proofs.lemmas.Bool.{false≢true, eqb-true}
use Rattle.std.proofs.lemmas.Bool.Decides.{nat_tests}
use Rattle.mesh_base.specs.declared.ids.Corners.{Corners}
use Rattle.mesh_base.specs.Mesh.{Mesh, AreDifferent, HasCorners}
use Rattle.mesh_base.specs.Sides.{follows, has_corner, runs, IsClosed}
use Rattle.mesh_base.specs.Changes.{with_face, without_face}
use Rattle.mesh_base.proofs.Counts.{runs-with_face, runs-without_face}
use Rattle.mesh_base.proofs.Listed.{or_either, running_face}
use Rattle.edit_base.specs.Edges.{renamed}
use Rattle.edit_acts.proofs.Flow.{AreBelow, not_live}
use Rattle.edit_base.proofs.Arcs.{arc, round, three_arcs, other_way}

-- ---- one vertex
-- the vertex, with one in another's place
abbrev pub moved : ℕ → ℕ → ℕ → ℕ
moved from to v = if v == from then to else v

-- whether two are the same
pub tested : (x y : ℕ) → ((x == y) ≡ true × (x ≡ y)) ⊎ ((x == y) ≡ false × (x ≢ y))
tested x y = by_test (x == y) refl
  where
    unlike : (x y : ℕ) → (x == y) ≡ false → x ≢ y
    unlike x y e h = grind (arith, nat_tests)

    by_test : (t : Bool) → (x == y) ≡ t → ((x == y) ≡ true × (x ≡ y)) ⊎ ((x == y) ≡ false × (x ≢ y))
    by_test true e = inl (e, eqb-true x y e)
    by_test false e = inr (e, unlike x y e)

-- it is in the place of the other, or itself
pub moved_either : (from to v : ℕ) → ((v ≡ from) × (moved from to v ≡ to)) ⊎ ((v ≢ from) × (moved from to v ≡ v))
moved_either from to v = ⊎_elim
    (λ e. inl (e.1, ap (λ t. if t then to else v) e.0))
    (λ e. inr (e.1, ap (λ t. if t then to else v) e.0)) (tested v from)

pub moved_never : (from to v : ℕ) → to ≢ from → moved from to v ≢ from
moved_never from to v apart e = ⊎_elim (λ h. apart (sym h.1 ∙ e)) (λ h. h.0 (sym h.1 ∙ e)) (moved_either from to v)

pub moved_stays : (from to v : ℕ) → v ≢ from → moved from to v ≡ v
moved_stays from to v apart = ⊎_elim (λ h. absurd (apart h.0)) (λ h. h.1) (moved_either from to v)

pub moved_goes : (from to v : ℕ) → v ≡ from → moved from to v ≡ to
moved_goes from to v same = ⊎_elim (λ h. h.1) (λ h. absurd (h.0 same)) (moved_either from to v)

-- ---- steps, carried along
-- what is counted at the place of a: that of a and of b; at that of b: nothing
abbrev pub near : Bool → Bool → ℕ → ℕ → ℕ → ℕ
near is_b is_a at_a at_b here = cond is_b 0 (cond is_a (at_a + at_b) here)

abbrev pub carried : ℕ → ℕ → (ℕ → ℕ → ℕ) → ℕ → ℕ → ℕ
carried a b F u v =
    near (u == b) (u == a)
    (near (v == b) (v == a) (F a a) (F a b) (F a v))
    (near (v == b) (v == a) (F b a) (F b b) (F b v))
    (near (v == b) (v == a) (F u a) (F u b) (F u v))

near_sum : (p q : Bool) (x y z x' y' z' x'' y'' z'' : ℕ) → x + x' ≡ x'' → y + y' ≡ y'' → z + z' ≡ z'' → near p q x y z + near p q x' y' z' ≡ near p q x'' y'' z''
near_sum true q x y z x' y' z' x'' y'' z'' e f g = refl
near_sum false true x y z x' y' z' x'' y'' z'' e f g = omega arith
near_sum false false x y z x' y' z' x'' y'' z'' e f g = g

carried_sum : (a b : ℕ) (F G H : ℕ → ℕ → ℕ) → ((x y : ℕ) → F x y + G x y ≡ H x y) → (u v : ℕ) → carried a b F u v + carried a b G u v ≡ carried a b H u v
carried_sum a b F G H h u v =
    near_sum (u == b) (u == a) _ _ _ _ _ _ _ _ _
    (near_sum (v == b) (v == a) _ _ _ _ _ _ _ _ _ (h a a) (h a b) (h a v))
    (near_sum (v == b) (v == a) _ _ _ _ _ _ _ _ _ (h b a) (h b b) (h b v))
    (near_sum (v == b) (v == a) _ _ _ _ _ _ _ _ _ (h u a) (h u b) (h u v))

grid_swap : (p q r s : Bool) (aa ab av ba bb bv ua ub uv : ℕ) →
    near p q (near r s aa ab av) (near r s ba bb bv) (near r s ua ub uv) ≡ near r s (near p q aa ba ua) (near p q ab bb ub) (near p q av bv uv)
grid_swap true q true s aa ab av ba bb bv ua ub uv = refl
grid_swap true q false true aa ab av ba bb bv ua ub uv = refl
grid_swap true q false false aa ab av ba bb bv ua ub uv = refl
grid_swap false true true s aa ab av ba bb bv ua ub uv = refl
grid_swap false false true s aa ab av ba bb bv ua ub uv = refl
grid_swap false true false true aa ab av ba bb bv ua ub uv = omega arith
grid_swap false true false false aa ab av ba bb bv ua ub uv = refl
grid_swap false false false true aa ab av ba bb bv ua ub uv = refl
grid_swap false false false false aa ab av ba bb bv ua ub uv = refl

carried_swap : (a b : ℕ) (F : ℕ → ℕ → ℕ) (u v : ℕ) → carried a b F u v ≡ carried a b (λ x y. F y x) v u
carried_swap a b F u v = grid_swap (u == b) (u == a) (v == b) (v == a) (F a a) (F a b) (F a v) (F b a) (F b b) (F b v) (F u a) (F u b) (F u v)

-- where nothing is counted at b, nothing changes
near_whole : (a b v : ℕ) (F : ℕ → ℕ) → F b ≡ 0 → near (v == b) (v == a) (F a) (F b) (F v) ≡ F v
near_whole a b v F none = ⊎_elim
    (λ e. ap (λ t. cond t 0 (cond (v == a) (F a + F b) (F v))) e.0 ∙ sym (ap F e.1 ∙ none))
    (λ e. ap (λ t. cond t 0 (cond (v == a) (F a + F b) (F v))) e.0
    ∙ ⊎_elim (λ g. ap (λ t. cond t (F a + F b) (F v)) g.0 ∙ nothing_more (F a) (F b) none ∙ sym (ap F g.1)) (λ g. ap (λ t. cond t (F a + F b) (F v)) g.0) (tested v a))
    (tested v b)
  where
    nothing_more : (x y : ℕ) → y ≡ 0 → x + y ≡ x
    nothing_more x y e = omega arith

pub carried_whole : (a b : ℕ) (F : ℕ → ℕ → ℕ) → ((x : ℕ) → F x b ≡ 0) → ((y : ℕ) → F b y ≡ 0) → (u v : ℕ) → carried a b F u v ≡ F u v
carried_whole a b F to_b from_b u v =
    (λ i. near (u == b) (u == a) (near_whole a b v (F a) (to_b a) i) (near_whole a b v (F b) (to_b b) i) (near_whole a b v (F u) (to_b u) i))
    ∙ near_whole a b u (λ x. F x v) (from_b v)

-- ---- the steps of a face, carried along
-- one where they are the same
abbrev one_at : ℕ → ℕ → ℕ
one_at x u = cond (x == u) 1 0

same_at : (x u : ℕ) → x ≡ u → one_at x u ≡ 1
same_at x u h = ⊎_elim (λ e. ap (λ t. cond t 1 0) e.0) (λ e. absurd (e.1 h)) (tested x u)

other_at : (x u : ℕ) → x ≢ u → one_at x u ≡ 0
other_at x u h = ⊎_elim (λ e. absurd (h e.1)) (λ e. ap (λ t. cond t 1 0) e.0) (tested x u)

one_carried : (a b x u : ℕ) → a ≢ b → near (u == b) (u == a) (one_at x a) (one_at x b) (one_at x u) ≡ one_at (moved b a x) u
one_carried a b x u apart = ⊎_elim
    (λ e. ap (λ t. cond t 0 (cond (u == a) (one_at x a + one_at x b) (one_at x u))) e.0
    ∙ sym (other_at (moved b a x) u (λ h. moved_never b a x apart (h ∙ e.1))))
    (λ e. ap (λ t. cond t 0 (cond (u == a) (one_at x a + one_at x b) (one_at x u))) e.0
    ∙ ⊎_elim
    (λ g. ap (λ t. cond t (one_at x a + one_at x b) (one_at x u)) g.0 ∙ ⊎_elim
    (λ h. sum_is (one_at x a) (one_at x b) 0 1 (other_at x a (λ k. apart (sym k ∙ h.0))) (same_at x b h.0) ∙ sym (same_at (moved b a x) u (h.1 ∙ sym g.1)))
    (λ h. sum_is (one_at x a) (one_at x b) (one_at x a) 0 refl (other_at x b h.0) ∙ no_more (one_at x a) ∙ (λ i. one_at (sym h.1 i) (sym g.1 i)))
    (moved_either b a x))
    (λ g. ap (λ t. cond t (one_at x a + one_at x b) (one_at x u)) g.0 ∙ ⊎_elim
    (λ h. other_at x u (λ k. e.1 (sym k ∙ h.0)) ∙ sym (other_at (moved b a x) u (λ k. g.1 (sym k ∙ h.1))))
    (λ h. ap (λ y. one_at y u) (sym h.1))
    (moved_either b a x))
    (tested u a))
    (tested u b)
  where
    sum_is : (p q p' q' : ℕ) → p ≡ p' → q ≡ q' → p + q ≡ p' + q'
    sum_is p q p' q' e f = λ i. e i + f i

    no_more : (p : ℕ) → p + 0 ≡ p
    no_more p = omega arith

near_none : (p q : Bool) → near p q 0 0 0 ≡ 0
near_none true q = refl
near_none false true = refl
near_none false false = refl

and_no : (t : Bool) → (t && false) ≡ false
and_no true = refl
and_no false = refl

and_yes : (t : Bool) → (t && true) ≡ t
and_yes true = refl
and_yes false = refl

-- the second of two
second_carried : (a b x y v : ℕ) (t : Bool) → a ≢ b → near (v == b) (v == a) (cond (t && (y == a)) 1 0) (cond (t && (y == b)) 1 0) (cond (t && (y == v)) 1 0) ≡ cond (t && (moved b a y == v)) 1 0
second_carried a b x y v true apart = one_carried a b y v apart
second_carried a b x y v false apart = near_none (v == b) (v == a)

first_carried : (a b x u : ℕ) (t : Bool) → a ≢ b → near (u == b) (u == a) (cond ((x == a) && t) 1 0) (cond ((x == b) && t) 1 0) (cond ((x == u) && t) 1 0) ≡ cond ((moved b a x == u) && t) 1 0
first_carried a b x u true apart =
    (λ i. near (u == b) (u == a) (cond (and_yes (x == a) i) 1 0) (cond (and_yes (x == b) i) 1 0) (cond (and_yes (x == u) i) 1 0))
    ∙ one_carried a b x u apart ∙ ap (λ t. cond t 1 0) (sym (and_yes (moved b a x == u)))
first_carried a b x u false apart =
    (λ i. near (u == b) (u == a) (cond (and_no (x == a) i) 1 0) (cond (and_no (x == b) i) 1 0) (cond (and_no (x == u) i) 1 0))
    ∙ near_none (u == b) (u == a) ∙ ap (λ t. cond t 1 0) (sym (and_no (moved b a x == u)))

arc_carried : (a b x y u v : ℕ) → a ≢ b → carried a b (arc x y) u v ≡ arc (moved b a x) (moved b a y) u v
arc_carried a b x y u v apart =
    (λ i. near (u == b) (u == a) (second_carried a b x y v (x == a) apart i) (second_carried a b x y v (x == b) apart i) (second_carried a b x y v (x == u) apart i))
    ∙ first_carried a b x u (moved b a y == v) apart

-- the steps of a face, carried along
abbrev pub weight : ℕ → ℕ → Corners → ℕ → ℕ → ℕ
weight a b c u v = carried a b (λ x y. cond (follows c x y) 1 0) u v

pub weight_round : (a b : ℕ) (c : Corners) (u v : ℕ) → a ≢ b → AreDifferent c → weight a b c u v ≡ round (moved b a c.first) (moved b a c.second) (moved b a c.third) u v
weight_round a b c u v apart different =
    sym (carried_sum a b (λ x y. arc c.first c.second x y + arc c.second c.third x y) (arc c.third c.first) (λ x y. cond (follows c x y) 1 0) (λ x y. sym (three_arcs c x y different)) u v)
    ∙ (λ i. sym (carried_sum a b (arc c.first c.second) (arc c.second c.third) (λ x y. arc c.first c.second x y + arc c.second c.third x y) (λ x y. refl) u v) i + arc_carried a b c.third c.first u v apart i)
    ∙ (λ i. (arc_carried a b c.first c.second u v apart i + arc_carried a b c.second c.third u v apart i) + arc (moved b a c.third) (moved b a c.first) u v)

-- ---- which weights are the same both ways
abbrev pub IsEvenWeight : ℕ → ℕ → Corners → Type 0
IsEvenWeight a b c = (u v : ℕ) → weight a b c u v ≡ weight a b c v u

twice_there : (p r u v : ℕ) → round p p r u v ≡ round p p r v u
twice_there p r u v = total _ _ _ _ _ _ (other_way p p u v) (other_way p r u v) (other_way r p u v)
  where
    total : (x y z x' y' z' : ℕ) → x ≡ x' → y ≡ z' → z ≡ y' → x + y + z ≡ x' + y' + z'
    total x y z x' y' z' e f g = omega arith

-- from the next step on
pub spun : (p q r u v : ℕ) → round p q r u v ≡ round q r p u v
spun p q r u v = turn (arc p q u v) (arc q r u v) (arc r p u v)
  where
    turn : (x y z : ℕ) → x + y + z ≡ y + z + x
    turn x y z = omega arith

first_pinched : (p q r u v : ℕ) → p ≡ q → round p q r u v ≡ round p q r v u
first_pinched p q r u v e = subst (λ q. round p q r u v ≡ round p q r v u) e (twice_there p r u v)

second_pinched : (p q r u v : ℕ) → q ≡ r → round p q r u v ≡ round p q r v u
second_pinched p q r u v e = spun p q r u v ∙ first_pinched q r p u v e ∙ sym (spun p q r v u)

third_pinched : (p q r u v : ℕ) → r ≡ p → round p q r u v ≡ round p q r v u
third_pinched p q r u v e = spun p q r u v ∙ second_pinched q r p u v e ∙ sym (spun p q r v u)

-- a vertex is one of three corners
pub which_corner : (c : Corners) (v : ℕ) → has_corner c v ≡ true → (c.first ≡ v) ⊎ ((c.second ≡ v) ⊎ (c.third ≡ v))
which_corner c v h = ⊎_elim
    (λ e. inl (eqb-true c.first v e))
    (λ e. ⊎_elim (λ f. inr (inl (eqb-true c.second v f))) (λ f. inr (inr (eqb-true c.third v f))) (or_either (c.second == v) (c.third == v) e))
    (split (c.first == v) (c.second == v) (c.third == v) h)
  where
    split : (x y z : Bool) → (x || y || z) ≡ true → (x ≡ true) ⊎ ((y || z) ≡ true)
    split true y z e = inl refl
    split false y z e = inr e

-- three corners, of which one is a and one is b
module _ (a b x y z u v : ℕ) (apart : a ≢ b) where
  abbrev p : ℕ
  p = moved b a x

  abbrev q : ℕ
  q = moved b a y

  abbrev r : ℕ
  r = moved b a z

  -- a vertex that is a, and one that is b, go to one place
  one_place : (s t : ℕ) → s ≡ a → t ≡ b → moved b a s ≡ moved b a t
  one_place s t e f = moved_stays b a s (λ h. apart (sym e ∙ h)) ∙ e ∙ sym (moved_goes b a t f)

  two_placed : (x ≡ a) ⊎ ((y ≡ a) ⊎ (z ≡ a)) → (x ≡ b) ⊎ ((y ≡ b) ⊎ (z ≡ b)) → round p q r u v ≡ round p q r v u
  two_placed (inl e) (inl f) = absurd (apart (sym e ∙ f))
  two_placed (inl e) (inr (inl f)) = first_pinched p q r u v (one_place x y e f)
  two_placed (inl e) (inr (inr f)) = third_pinched p q r u v (sym (one_place x z e f))
  two_placed (inr (inl e)) (inl f) = first_pinched p q r u v (sym (one_place y x e f))
  two_placed (inr (inl e)) (inr (inl f)) = absurd (apart (sym e ∙ f))
  two_placed (inr (inl e)) (inr (inr f)) = second_pinched p q r u v (one_place y z e f)
  two_placed (inr (inr e)) (inl f) = third_pinched p q r u v (one_place z x e f)
  two_placed (inr (inr e)) (inr (inl f)) = second_pinched p q r u v (sym (one_place z y e f))
  two_placed (inr (inr e)) (inr (inr f)) = absurd (apart (sym e ∙ f))

-- a face that holds both
pub even_both : (a b : ℕ) (c : Corners) → a ≢ b → AreDifferent c → has_corner c a ≡ true → has_corner c b ≡ true → IsEvenWeight a b c
even_both a b c apart different has_a has_b u v =
    weight_round a b c u v apart different
    ∙ two_placed a b c.first c.second c.third u v apart (which_corner c a has_a) (which_corner c b has_b)
    ∙ sym (weight_round a b c v u apart different)

-- renamed corners weigh the same
pub weight_renamed : (a b : ℕ) (c : Corners) → a ≢ b → AreDifferent c → AreDifferent (renamed b a c) → (u v : ℕ) → weight a b (renamed b a c) u v ≡ weight a b c u v
weight_renamed a b c apart different after u v =
    weight_round a b (renamed b a c) u v apart after
    ∙ (λ i. round (still c.first i) (still c.second i) (still c.third i) u v)
    ∙ sym (weight_round a b c u v apart different)
  where
    still : (x : ℕ) → moved b a (moved b a x) ≡ moved b a x
    still x = moved_stays b a (moved b a x) (moved_never b a x apart)

-- ---- a mesh
-- the steps of all faces, carried along
abbrev pub total : ℕ → ℕ → Mesh → ℕ → ℕ → ℕ
total a b m u v = carried a b (λ x y. runs m x y) u v

-- as many one way as the other
abbrev pub IsEven : ℕ → ℕ → Mesh → Type 0
IsEven a b m = (u v : ℕ) → total a b m u v ≡ total a b m v u

pub even_of_closed : (a b : ℕ) (m : Mesh) → IsClosed m → IsEven a b m
even_of_closed a b m closed u v = carried_swap a b (λ x y. runs m x y) u v ∙ (λ i. carried a b (λ x y. closed y x i) v u)

pub total_without : (a b : ℕ) (m : Mesh) (f : ℕ) (c : Corners) → HasCorners m f c → (u v : ℕ) → total a b (without_face m f) u v + weight a b c u v ≡ total a b m u v
total_without a b m f c there u v = carried_sum a b (λ x y. runs (without_face m f) x y) (λ x y. cond (follows c x y) 1 0) (λ x y. runs m x y) (λ x y. runs-without_face m f c x y there) u v

pub total_with : (a b : ℕ) (m : Mesh) (c : Corners) → AreBelow m → (u v : ℕ) → total a b m u v + weight a b c u v ≡ total a b (with_face m c) u v
total_with a b m c below u v = carried_sum a b (λ x y. runs m x y) (λ x y. cond (follows c x y) 1 0) (λ x y. runs (with_face m c) x y) (λ x y. sym (runs-with_face m c x y (not_live m below))) u v

pub even_without : (a b : ℕ) (m : Mesh) (f : ℕ) (c : Corners) → HasCorners m f c → IsEvenWeight a b c → IsEven a b m → IsEven a b (without_face m f)
even_without a b m f c there weighs even u v = balance _ _ _ _ _ _ (total_without a b m f c there u v) (total_without a b m f c there v u) (weighs u v) (even u v)
  where
    balance : (x x' w w' t t' : ℕ) → x + w ≡ t → x' + w' ≡ t' → w ≡ w' → t ≡ t' → x ≡ x'
    balance x x' w w' t t' e f g h = omega arith

-- where no face holds b, an even mesh is closed
pub closed_of_even : (a b : ℕ) (m : Mesh) → ((f : ℕ) (c : Corners) → HasCorners m f c → has_corner c b ≡ false) → IsEven a b m → IsClosed m
closed_of_even a b m none even u v = sym (whole u v) ∙ even u v ∙ whole v u
  where
    from_or_to : (c : Corners) (x y : ℕ) → follows c x y ≡ true → (has_corner c x ≡ true) × (has_corner c y ≡ true)
    from_or_to c x y h = (grind (arith, nat_tests), grind (arith, nat_tests))

    nothing : (n : ℕ) → (0 < n → ⊥) → n ≡ 0
    nothing n h = by_number n h
      where
        by_number : (k : ℕ) → (0 < k → ⊥) → k ≡ 0
        by_number zero h = refl
        by_number (suc k) h = absurd (h (omega arith))

    whole : (x y : ℕ) → total a b m x y ≡ runs m x y
    whole x y = carried_whole a b (λ p q. runs m p q)
        (λ p. nothing (runs m p b) (λ some. let f = running_face m p b some in false≢true (sym (none (f.0).0 (f.0).1 f.2) ∙ (from_or_to (f.0).1 p b f.1).1)))
        (λ q. nothing (runs m b q) (λ some. let f = running_face m b q some in false≢true (sym (none (f.0).0 (f.0).1 f.2) ∙ (from_or_to (f.0).1 b q f.1).0))) x y
