-- Faces that are equal up to rotation.
use Rattle.std.proofs.Common.{◌≡◌, ℕ, ◌==◌, ◌&&◌, ◌||◌, Bool, true, false, refl, sym, ap, ◌∙◌, ⊎_elim, arith}
use Rattle.std.proofs.lemmas.Bool.Decides.{nat_tests}
use Rattle.mesh_base.specs.declared.ids.Corners.{Corners}
use Rattle.mesh_base.specs.Mesh.{turned, same_corners, equal_up_to_rotation}
use Rattle.mesh_base.specs.Sides.{follows}
use Rattle.mesh_base.proofs.Tests.{or_either}

pub same_from_facts : (c d : Corners) → same_corners c d ≡ true → c ≡ d
same_from_facts c d h =
    let fields = facts c.first c.second c.third d.first d.second d.third h in
    λ i. record { first = fields.0 i; second = fields.1 i; third = fields.2 i }
  where
    facts : (a b c d e f : ℕ) → (a == d && b == e && c == f) ≡ true → (a ≡ d) × (b ≡ e) × (c ≡ f)
    facts a b c d e f h = (grind (arith, nat_tests), grind (arith, nat_tests), grind (arith, nat_tests))

pub same_itself : (c : Corners) → same_corners c c ≡ true
same_itself c = itself c.first c.second c.third
  where
    itself : (a b c : ℕ) → (a == a && b == b && c == c) ≡ true
    itself a b c = grind (arith, nat_tests)

-- what turning leaves is the same for equal faces
pub same_for_equal : {A : Type 0} (g : Corners → A) → ((c : Corners) → g (turned c) ≡ g c) → (c d : Corners) → equal_up_to_rotation c d ≡ true → g d ≡ g c
same_for_equal g left c d e =
    ⊎_elim
    (λ two. ⊎_elim
    (λ same. ap g (sym (same_from_facts c d same)))
    (λ once. ap g (sym (same_from_facts (turned c) d once)) ∙ left c)
    (or_either (same_corners c d) (same_corners (turned c) d) two))
    (λ twice. ap g (sym (same_from_facts (turned (turned c)) d twice)) ∙ left (turned c) ∙ left c)
    (or_either (same_corners c d || same_corners (turned c) d) (same_corners (turned (turned c)) d) e)

follows_turned : (c : Corners) (u v : ℕ) → follows (turned c) u v ≡ follows c u v
follows_turned c u v = around (c.first == u && c.second == v) (c.second == u && c.third == v) (c.third == u && c.first == v)
  where
    around : (p q r : Bool) → (q || r || p) ≡ (p || q || r)
    around true true true = refl
    around true true false = refl
    around true false true = refl
    around true false false = refl
    around false true true = refl
    around false true false = refl
    around false false true = refl
    around false false false = refl

-- equal faces run the same sides
pub follows_equal : (c d : Corners) (u v : ℕ) → equal_up_to_rotation c d ≡ true → follows d u v ≡ follows c u v
follows_equal c d u v e = same_for_equal (λ x. follows x u v) (λ x. follows_turned x u v) c d e
