-- No pair of one cube meets: each is kept apart by one of fourteen directions.
use Rattle.std.proofs.Common.{◌≡◌, ℕ, zero, suc, ◌==◌, ◌∙◌, Bool, true, false, ◌&&◌, ◌||◌, ℤ, pos, negsuc, ◌<ℤ◌, List, [], ◌∷◌, Some, slice_get, refl, sym, subst, ⊎_elim, arith}
use Rattle.std.proofs.lemmas.Int.{ints}
use Rattle.std.specs.Prelude.{int_lt}
use Rattle.std.specs.List.{list_all, list_any}
use Rattle.std.proofs.lemmas.Bool.{false≢true, eqb-true}
use Rattle.grid_base.specs.Triples.{Triple, dot}
use Rattle.grid_base.specs.declared.Positions.{Positions}
use Rattle.grid_base.specs.Meeting.{MeetAt}
use Rattle.grid_base.specs.Separation.{IsBelow}
use Rattle.grid_base.specs.SeparationTests.{is_least, is_below}
use Rattle.grid_base.proofs.MeetingLaws.{Meets-not_below}
use Rattle.mesh_base.specs.declared.ids.Corners.{Corners}
use Rattle.mesh_base.specs.Sides.{follows, has_corner}
use Rattle.mesh_base.proofs.Tests.{and_first, and_second, or_either}
use Rattle.mesh_make.specs.Cubes.{corner_offsets}
use Rattle.mesh_make.proofs.OneCube.{triangles}
use Rattle.mesh_make.proofs.Standing.{offset}

-- where an edge and a face of the first cube stand
abbrev pub first_positions : ℕ → ℕ → Corners → Positions
first_positions u v t = record { a = offset u; b = offset v; c = offset t.first; d = offset t.second; e = offset t.third }

abbrev toward : ℤ → ℤ → ℤ → Triple
toward x y z = record { x = x; y = y; z = z }

-- the directions of the axes and of the diagonals, both ways
abbrev pub ways : List Triple
ways =
    toward (pos 1) (pos 0) (pos 0) ∷ toward (negsuc 0) (pos 0) (pos 0) ∷ toward (pos 0) (pos 1) (pos 0)
    ∷ toward (pos 0) (negsuc 0) (pos 0) ∷ toward (pos 0) (pos 0) (pos 1) ∷ toward (pos 0) (pos 0) (negsuc 0)
    ∷ toward (pos 1) (pos 1) (pos 1) ∷ toward (pos 1) (pos 1) (negsuc 0) ∷ toward (pos 1) (negsuc 0) (pos 1)
    ∷ toward (pos 1) (negsuc 0) (negsuc 0) ∷ toward (negsuc 0) (pos 1) (pos 1) ∷ toward (negsuc 0) (pos 1) (negsuc 0)
    ∷ toward (negsuc 0) (negsuc 0) (pos 1) ∷ toward (negsuc 0) (negsuc 0) (negsuc 0) ∷ []

-- one of the ways keeps them apart
abbrev pub are_kept_apart : Positions → Bool
are_kept_apart f = list_any (λ n. is_below n f) ways

-- the side from u to v has a corner of the face, or is apart from it
abbrev pub side_is_apart : Corners → ℕ → ℕ → Bool
side_is_apart t u v = has_corner t u || has_corner t v || are_kept_apart (first_positions u v t)

abbrev pub sides_are_apart : Corners → Corners → Bool
sides_are_apart g t = side_is_apart t g.first g.second && side_is_apart t g.second g.third && side_is_apart t g.third g.first

-- the finite table
all_are_apart : list_all (λ g. list_all (λ t. sides_are_apart g t) triangles) triangles ≡ true
unfolding corner_offsets
all_are_apart = refl

-- ---- what it says
each_passes : {X : Type 0} (test : X → Bool) (xs : List X) (k : ℕ) (x : X) → list_all test xs ≡ true → slice_get xs k ≡ Some x → test x ≡ true
each_passes test [] k x e h = cc
each_passes test (y ∷ xs) zero x e h = let same : y ≡ x = cc in subst (λ v. test v ≡ true) same (and_first (test y) _ e)
each_passes test (y ∷ xs) (suc k) x e h = each_passes test xs k x (and_second (test y) _ e) h

-- what holds of the three sides of a face holds where one vertex follows another in it
pub on_side : (P : ℕ → ℕ → Type 0) (c : Corners) (u v : ℕ) → follows c u v ≡ true → P c.first c.second → P c.second c.third → P c.third c.first → P u v
on_side P c u v e p q r =
    ⊎_elim (λ two. ⊎_elim
    (λ one. moved c.first c.second one p)
    (λ one. moved c.second c.third one q)
    (or_either (c.first == u && c.second == v) _ two))
    (λ one. moved c.third c.first one r)
    (or_either ((c.first == u && c.second == v) || (c.second == u && c.third == v)) _ e)
  where
    moved : (x y : ℕ) → (x == u && y == v) ≡ true → P x y → P u v
    moved x y e p = subst (λ w. P w v) (eqb-true x u (and_first (x == u) _ e)) (subst (λ w. P x w) (eqb-true y v (and_second (x == u) _ e)) p)

less_of : (a b : ℤ) → int_lt a b ≡ true → a <ℤ b
less_of a b e = omega (arith, ints)

three_less : (a c d e : ℤ) → is_least a c d e ≡ true → (a <ℤ c) × (a <ℤ d) × (a <ℤ e)
three_less a c d e h =
    let two = and_first (int_lt a c && int_lt a d) (int_lt a e) h in
    (less_of a c (and_first (int_lt a c) (int_lt a d) two), less_of a d (and_second (int_lt a c) (int_lt a d) two), less_of a e (and_second (int_lt a c && int_lt a d) (int_lt a e) h))

below_of : (n : Triple) (f : Positions) → is_below n f ≡ true → IsBelow n f
below_of n f h =
    let least = is_least (dot n f.a) (dot n f.c) (dot n f.d) (dot n f.e) in
    let a = three_less (dot n f.a) (dot n f.c) (dot n f.d) (dot n f.e) (and_first least _ h) in
    let b = three_less (dot n f.b) (dot n f.c) (dot n f.d) (dot n f.e) (and_second least _ h) in
    record { ac = a.0; ad = a.1; ae = a.2; bc = b.0; bd = b.1; be = b.2 }

apart_by_one : (f : Positions) (ns : List Triple) → list_any (λ n. is_below n f) ns ≡ true → ¬ (MeetAt f)
apart_by_one f [] e = absurd (false≢true e)
apart_by_one f (n ∷ ns) e = ⊎_elim (λ here. Meets-not_below n f (below_of n f here)) (λ later. apart_by_one f ns later) (or_either (is_below n f) _ e)

-- an edge of the first cube and a face that has neither of its ends don't meet
pub first_is_clear : (j k : ℕ) (g t : Corners) (u v : ℕ) → slice_get triangles j ≡ Some g → slice_get triangles k ≡ Some t → follows g u v ≡ true → has_corner t u ≡ false → has_corner t v ≡ false → ¬ (MeetAt (first_positions u v t))
first_is_clear j k g t u v h h' side no_u no_v =
    let row = each_passes (λ x. list_all (λ y. sides_are_apart x y) triangles) triangles j g all_are_apart h in
    let cell = each_passes (λ y. sides_are_apart g y) triangles k t row h' in
    let two = and_first (side_is_apart t g.first g.second && side_is_apart t g.second g.third) _ cell in
    let one = on_side (λ x y. side_is_apart t x y ≡ true) g u v side
    (and_first (side_is_apart t g.first g.second) _ two)
    (and_second (side_is_apart t g.first g.second) _ two)
    (and_second (side_is_apart t g.first g.second && side_is_apart t g.second g.third) _ cell) in
    ⊎_elim (λ corner. absurd (no_corner corner)) (λ apart. apart_by_one (first_positions u v t) ways apart) (or_either (has_corner t u || has_corner t v) _ one)
  where
    no_corner : (has_corner t u || has_corner t v) ≡ true → ⊥
    no_corner e = ⊎_elim (λ x. false≢true (sym no_u ∙ x)) (λ x. false≢true (sym no_v ∙ x)) (or_either (has_corner t u) _ e)
