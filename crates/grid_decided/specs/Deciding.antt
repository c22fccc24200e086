-- Whether an edge and a triangle meet is decided: either they do, or it is absurd that
-- they do. This stands in specs since the test `meets_exactly` is made of it, and specs
-- cannot name what stands in proofs.
use Rattle.std.proofs.Common.{◌≡◌, ℤ, pos, ◌-ℤ◌, ◌<ℤ◌, ◌≤ℤ◌, ◌⊎◌, ⊎_elim, inl, inr, refl, sym, arith}
use Rattle.std.proofs.lemmas.Int.{ints, by_lt_z}
use Rattle.grid_base.specs.Triples.{Triple, minus, cross, dot, orientation}
use Rattle.grid_base.specs.Meeting.{Meets}
use Rattle.grid_base.proofs.MeetingLaws.{same_triple}
use Rattle.grid_meets.specs.Segments.{HasNoLength, MeetsSide}
use Rattle.grid_meets.proofs.Crossing.{crossing_meets, not_under, not_over, not_outside_de, not_outside_ec}
use Rattle.grid_meets.proofs.Crossing.{not_outside_cd, not_level_under, not_level_over, Meets-exchanged}
use Rattle.grid_meets.proofs.Segments.{not_in_plane_over, not_in_plane_under, not_before_a}
use Rattle.grid_meets.proofs.Segments.{not_past_b, not_before_c, not_past_d, crossing_inside}
use Rattle.grid_meets.proofs.OnOneLine.{HasNoLength-from_square, square_of-not_negative}
use Rattle.grid_meets.proofs.OnOneLine.{not_on_line, both_before, both_past, meets_within}
use Rattle.grid_meets.proofs.OnOneLine.{meets_from_before, meets_from_past}
use Rattle.grid_meets.proofs.Sides.{must_start_inside, meets_from_inside, Meets-side}
use Rattle.grid_meets.proofs.Flat.{flat_meets_side}
use Rattle.grid_meets.proofs.Swaps.{Meets-swapped, HasNoLength-swapped, points_meet, points_same}
use Rattle.grid_meets.proofs.Comparisons.{exactly_zero, level_below, level_above, clash}

-- it holds, or it is absurd
abbrev pub Decided : Type 0 → Type 0
Decided P = P ⊎ (P → ⊥)

compared : (a b : ℤ) → (a <ℤ b) ⊎ (b ≤ℤ a)
compared a b = by_lt_z a b (λ less. inl less) (λ most. inr most)

-- what is decided of one fact is decided of one that says the same
alike : {P Q : Type 0} → (P → Q) → (Q → P) → Decided P → Decided Q
alike f g (inl p) = inl (f p)
alike f g (inr never) = inr (λ q. never (g q))

-- an edge that goes down through the triangle's plane
decided_down : (a b c d e : Triple) → orientation c d e b <ℤ orientation c d e a →
    Decided (Meets a b c d e)
decided_down a b c d e apart =
    ⊎_elim (λ under. inr (not_under a b c d e apart under)) (λ not_below.
    ⊎_elim (λ over. inr (not_over a b c d e apart over)) (λ not_above.
    ⊎_elim (λ out. inr (not_outside_de a b c d e apart out)) (λ first.
    ⊎_elim (λ out. inr (not_outside_ec a b c d e apart out)) (λ second.
    ⊎_elim (λ out. inr (not_outside_cd a b c d e apart out))
    (λ third. inl (crossing_meets a b c d e apart not_below not_above first second third))
    (compared (pos 0) (orientation a b c d)))
    (compared (pos 0) (orientation a b e c)))
    (compared (pos 0) (orientation a b d e)))
    (compared (pos 0) (orientation c d e b)))
    (compared (orientation c d e a) (pos 0))

-- two segments of parallel directions, the first of some length
decided_along : (a b c d : Triple) → HasNoLength (cross (minus b a) (minus d c)) →
    pos 0 <ℤ dot (minus b a) (minus b a) → Decided (Meets a b c d d)
decided_along a b c d parallel long =
    let k = dot (minus b a) (minus c a) in
    let l = dot (minus b a) (minus d a) in
    let size = dot (minus b a) (minus b a) in
    ⊎_elim (λ high. inr (not_on_line a b c d parallel high)) (λ flat.
    ⊎_elim (λ before.
    ⊎_elim (λ below. inr (both_before a b c d long before below))
    (λ reaches. inl (meets_from_before a b c d parallel long flat before reaches))
    (compared l (pos 0)))
    (λ from.
    ⊎_elim (λ behind.
    ⊎_elim (λ past. inr (both_past a b c d long behind past))
    (λ reaches. inl (meets_from_past a b c d parallel long flat behind reaches))
    (compared size l))
    (λ within. inl (meets_within a b c d parallel long flat from within)) (compared size k))
    (compared k (pos 0)))
    (compared (pos 0) (dot (cross (minus b a) (minus c a)) (cross (minus b a) (minus c a))))

-- two segments in one plane whose lines cross
decided_across : (a b c d : Triple) → dot (cross (minus b a) (minus d c)) (minus c a) ≡ pos 0 →
    pos 0 <ℤ dot (cross (minus b a) (minus d c)) (cross (minus b a) (minus d c)) →
    Decided (Meets a b c d d)
decided_across a b c d flat some =
    let size = dot (cross (minus b a) (minus d c)) (cross (minus b a) (minus d c)) in
    let s = dot (cross (minus c a) (minus d c)) (cross (minus b a) (minus d c)) in
    let t = dot (cross (minus c a) (minus b a)) (cross (minus b a) (minus d c)) in
    ⊎_elim (λ before. inr (not_before_a a b c d some before)) (λ s_from.
    ⊎_elim (λ past. inr (not_past_b a b c d some past)) (λ s_to.
    ⊎_elim (λ before. inr (not_before_c a b c d some before)) (λ t_from.
    ⊎_elim (λ past. inr (not_past_d a b c d some past))
    (λ t_to. inl (crossing_inside a b c d _ _ _ refl refl refl flat some s_from s_to t_from t_to))
    (compared size t)) (compared t (pos 0))) (compared size s)) (compared s (pos 0))

-- two numbers
decided_equal : (a b : ℤ) → Decided (a ≡ b)
decided_equal a b =
    ⊎_elim (λ less. inr (λ e. not_equal a b less e)) (λ most.
    ⊎_elim (λ less. inr (λ e. not_equal b a less (sym e)))
    (λ least. inl (squeezed a b most least)) (compared b a)) (compared a b)
  where
    not_equal : (a b : ℤ) → a <ℤ b → a ≡ b → ⊥
    not_equal a b h e = omega (arith, ints)

    squeezed : (a b : ℤ) → b ≤ℤ a → a ≤ℤ b → a ≡ b
    squeezed a b h k = omega (arith, ints)

-- two points
decided_same : (a b : Triple) → Decided (a ≡ b)
decided_same a b =
    ⊎_elim (λ x.
    ⊎_elim (λ y.
    ⊎_elim (λ z. inl (same_triple a b x y z))
    (λ no. inr (λ e. no (λ i. (e i).z))) (decided_equal a.z b.z))
    (λ no. inr (λ e. no (λ i. (e i).y))) (decided_equal a.y b.y))
    (λ no. inr (λ e. no (λ i. (e i).x))) (decided_equal a.x b.x)

-- two segments
decided_segments : (a b c d : Triple) → Decided (Meets a b c d d)
decided_segments a b c d =
    let u = minus b a in
    let v = minus d c in
    let n = cross u v in
    let h = dot n (minus c a) in
    ⊎_elim (λ over. inr (not_in_plane_over a b c d over)) (λ not_over.
    ⊎_elim (λ under. inr (not_in_plane_under a b c d under)) (λ not_under.
    ⊎_elim (λ some. decided_across a b c d (exactly_zero h not_under not_over) some) (λ none.
    let parallel =
    HasNoLength-from_square n (exactly_zero (dot n n) (square_of-not_negative n) none) in
    ⊎_elim (λ long. decided_along a b c d parallel long) (λ u_short.
    ⊎_elim (λ long. alike (Meets-swapped c d a b) (Meets-swapped a b c d)
    (decided_along c d a b (HasNoLength-swapped u v parallel) long)) (λ v_short.
    let u_none =
    HasNoLength-from_square u (exactly_zero (dot u u) (square_of-not_negative u) u_short) in
    let v_none =
    HasNoLength-from_square v (exactly_zero (dot v v) (square_of-not_negative v) v_short) in
    alike (points_meet a b c d) (points_same a b c d u_none v_none) (decided_same a c))
    (compared (pos 0) (dot v v)))
    (compared (pos 0) (dot u u)))
    (compared (pos 0) (dot n n)))
    (compared h (pos 0)))
    (compared (pos 0) h)

-- an edge and the three sides of a triangle
decided_side : (a b c d e : Triple) → Decided (MeetsSide a b c d e)
decided_side a b c d e =
    ⊎_elim (λ yes. inl (inl yes)) (λ first.
    ⊎_elim (λ yes. inl (inr (inl yes))) (λ second.
    ⊎_elim (λ yes. inl (inr (inr yes)))
    (λ third. inr (λ side. ⊎_elim first (λ rest. ⊎_elim second third rest) side))
    (decided_segments a b e c)) (decided_segments a b d e)) (decided_segments a b c d)

-- an edge in the triangle's plane that meets no side
decided_inside : (a b c d e : Triple) → orientation c d e a ≡ pos 0 → (MeetsSide a b c d e → ⊥) →
    Decided (Meets a b c d e)
decided_inside a b c d e flat none =
    let n = cross (minus d c) (minus e c) in
    let size = dot n n in
    let k = dot n (cross (minus a c) (minus e c)) in
    let l = dot n (cross (minus d c) (minus a c)) in
    ⊎_elim (λ some.
    ⊎_elim (λ below. inr (λ w. clash k
    (must_start_inside a c d e size k l refl refl refl some flat b w none).1 below)) (λ k_from.
    ⊎_elim (λ below. inr (λ w. clash l
    (must_start_inside a c d e size k l refl refl refl some flat b w none).2 below)) (λ l_from.
    ⊎_elim (λ below. inr (λ w. clash (size -ℤ k -ℤ l)
    (must_start_inside a c d e size k l refl refl refl some flat b w none).0 below)) (λ rest.
    inl (meets_from_inside a c d e size k l refl refl refl some flat b (rest, k_from, l_from)))
    (compared (size -ℤ k -ℤ l) (pos 0))) (compared l (pos 0))) (compared k (pos 0)))
    (λ small. inr (λ w. none (flat_meets_side a b c d e small w))) (compared (pos 0) size)

-- an edge and a triangle
pub decided : (a b c d e : Triple) → Decided (Meets a b c d e)
decided a b c d e =
    let over_a = orientation c d e a in
    let over_b = orientation c d e b in
    ⊎_elim (λ up. alike (Meets-exchanged b a c d e) (Meets-exchanged a b c d e)
    (decided_down b a c d e up)) (λ b_most.
    ⊎_elim (λ down. decided_down a b c d e down) (λ a_most.
    ⊎_elim (λ under.
    inr (not_level_under a b c d e under (level_below over_a over_b a_most b_most under)))
    (λ not_under.
    ⊎_elim (λ over.
    inr (not_level_over a b c d e over (level_above over_a over_b a_most b_most over)))
    (λ not_over.
    ⊎_elim (λ side. inl (Meets-side a b c d e side)) (λ none. decided_inside a b c d e
    (exactly_zero over_a not_under not_over) none) (decided_side a b c d e))
    (compared (pos 0) over_a))
    (compared over_a (pos 0)))
    (compared over_b over_a))
    (compared over_a over_b)
