-- The steps of a face from one corner to the next.
use Rattle.std.proofs.Common.{◌≡◌, ◌≢◌, ℕ, ◌+◌, Bool, true, false, cond, ◌&&◌, ◌||◌, ◌==◌, ◌⊎◌, ⊎_elim, refl, sym, ap, ◌∙◌, if◌then◌else◌, arith}
use Rattle.std.proofs.lemmas.Bool.{eqb-true, false_from_ne_true}
use Rattle.mesh_base.specs.declared.ids.Corners.{Corners}
use Rattle.mesh_base.specs.Mesh.{AreDifferent}
use Rattle.mesh_base.specs.Sides.{follows}
use Rattle.edit_base.specs.Edges.{opposite_vertex}
use Rattle.mesh_base.proofs.Listed.{and_first, and_second, or_either}

-- 1 where the step from u to v is the one from x to y
abbrev pub arc : ℕ → ℕ → ℕ → ℕ → ℕ
arc x y u v = cond ((x == u) && (y == v)) 1 0

one_of_three : (p q r a b c : Bool) → (p ≡ true → q ≡ true → ⊥) → (q ≡ true → r ≡ true → ⊥) → (r ≡ true → p ≡ true → ⊥) →
    cond ((p && b) || (q && c) || (r && a)) 1 0 ≡ cond (p && b) 1 0 + cond (q && c) 1 0 + cond (r && a) 1 0
one_of_three true true r a b c pq qr rp = absurd (pq refl refl)
one_of_three true false true a b c pq qr rp = absurd (rp refl refl)
one_of_three true false false a true c pq qr rp = refl
one_of_three true false false a false c pq qr rp = refl
one_of_three false true true a b c pq qr rp = absurd (qr refl refl)
one_of_three false true false a b true pq qr rp = refl
one_of_three false true false a b false pq qr rp = refl
one_of_three false false true true b c pq qr rp = refl
one_of_three false false true false b c pq qr rp = refl
one_of_three false false false a b c pq qr rp = refl

pub not_both : (x y u : ℕ) → x ≢ y → (x == u) ≡ true → (y == u) ≡ true → ⊥
not_both x y u apart e f = apart (eqb-true x u e ∙ sym (eqb-true y u f))

-- a face with different corners counts its three steps
pub three_arcs : (c : Corners) (u v : ℕ) → AreDifferent c → cond (follows c u v) 1 0 ≡ arc c.first c.second u v + arc c.second c.third u v + arc c.third c.first u v
three_arcs c u v different = one_of_three (c.first == u) (c.second == u) (c.third == u) (c.first == v) (c.second == v) (c.third == v)
    (not_both c.first c.second u different.first_second) (not_both c.second c.third u different.second_third) (not_both c.third c.first u different.third_first)

pub other_way : (x y u v : ℕ) → arc x y u v ≡ arc y x v u
other_way x y u v = swapped (x == u) (y == v)
  where
    swapped : (a b : Bool) → ◌≡◌ {A = ℕ} (cond (a && b) 1 0) (cond (b && a) 1 0)
    swapped true true = refl
    swapped true false = refl
    swapped false true = refl
    swapped false false = refl

-- the steps of the face that runs a to b, with its opposite vertex
abbrev pub round : ℕ → ℕ → ℕ → ℕ → ℕ → ℕ
round a b c u v = arc a b u v + arc b c u v + arc c a u v

pub same_arcs : {a b c a' b' c' : ℕ} (u v : ℕ) → a' ≡ a → b' ≡ b → c' ≡ c → round a' b' c' u v ≡ round a b c u v
same_arcs u v e f g = λ i. round (e i) (f i) (g i) u v

pub first_way : (C : Corners) (a b : ℕ) → (C.first == a) ≡ true → opposite_vertex C a b ≡ C.third
first_way C a b e = ap (λ t. if t then C.third else (if C.second == a then C.first else C.second)) e

pub second_way : (C : Corners) (a b : ℕ) → AreDifferent C → (C.second == a) ≡ true → opposite_vertex C a b ≡ C.first
second_way C a b different e =
    ap (λ t. if t then C.third else (if C.second == a then C.first else C.second)) (false_from_ne_true (C.first == a) (λ f. not_both C.first C.second a different.first_second f e))
    ∙ ap (λ t. if t then C.first else C.second) e

pub third_way : (C : Corners) (a b : ℕ) → AreDifferent C → (C.third == a) ≡ true → opposite_vertex C a b ≡ C.second
third_way C a b different e =
    ap (λ t. if t then C.third else (if C.second == a then C.first else C.second)) (false_from_ne_true (C.first == a) (λ f. not_both C.third C.first a different.third_first e f))
    ∙ ap (λ t. if t then C.first else C.second) (false_from_ne_true (C.second == a) (λ f. not_both C.second C.third a different.second_third f e))

-- a face that runs a to b counts the steps a to b, b to its opposite vertex, and from there to a
pub round_of : (C : Corners) (a b u v : ℕ) → AreDifferent C → follows C a b ≡ true → cond (follows C u v) 1 0 ≡ round a b (opposite_vertex C a b) u v
round_of C a b u v different e =
    ⊎_elim (λ two. ⊎_elim
    (λ one. let x = and_first (C.first == a) _ one in let y = and_second (C.first == a) _ one in
    three_arcs C u v different ∙ same_arcs u v (eqb-true C.first a x) (eqb-true C.second b y) (sym (first_way C a b x)))
    (λ one. let x = and_first (C.second == a) _ one in let y = and_second (C.second == a) _ one in
    three_arcs C u v different ∙ turned (arc C.first C.second u v) (arc C.second C.third u v) (arc C.third C.first u v) ∙ same_arcs u v (eqb-true C.second a x) (eqb-true C.third b y) (sym (second_way C a b different x)))
    (or_either (C.first == a && C.second == b) _ two))
    (λ one. let x = and_first (C.third == a) _ one in let y = and_second (C.third == a) _ one in
    three_arcs C u v different ∙ turned (arc C.first C.second u v) (arc C.second C.third u v) (arc C.third C.first u v) ∙ turned (arc C.second C.third u v) (arc C.third C.first u v) (arc C.first C.second u v)
    ∙ same_arcs u v (eqb-true C.third a x) (eqb-true C.first b y) (sym (third_way C a b different x)))
    (or_either ((C.first == a && C.second == b) || (C.second == a && C.third == b)) _ e)
  where
    turned : (x y z : ℕ) → x + y + z ≡ y + z + x
    turned x y z = omega arith
