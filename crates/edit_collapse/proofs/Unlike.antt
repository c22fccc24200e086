-- Of faces that are unlike none is equal or opposite to another.
use Rattle.std.proofs.Common.{◌≡◌, ⊎_elim, ℕ, ◌+◌, ◌*◌, ◌^◌, Bool, true, false, cond, ◌&&◌, ◌||◌, ◌==◌, List, [], ◌∷◌, map, slice_get, Some, None, Result, Ok, Err, refl, sym, ap, ◌∙◌, arith}
use Rattle.std.proofs.Math.Nat.{mul_comm}
use Rattle.std.proofs.lemmas.Bool.{false≢true, or_cases, eqb-true}
use Rattle.std.proofs.lemmas.Bool.Decides.{nat_tests}
use Rattle.std.specs.Prelude.{IfOk}
use Rattle.std.specs.Option.{option_map}
use Rattle.std.specs.List.{filter_map, cons_option, find, list_any, AllByRecursion}
use Rattle.std.specs.BTreeMap.{is_at}
use Rattle.std.specs.BTreeSet.{BTreeSet, IsEmpty}
use Rattle.std.specs.Ordering.{nat_cmp}
use Rattle.mesh_base.specs.declared.ids.Corners.{Corners}
use Rattle.mesh_base.proofs.Tests.{and_first, and_second}
use Rattle.mesh_base.proofs.ListedPairs.{all_weaker}
use Rattle.mesh_base.specs.Mesh.{turned, same_corners, equal_up_to_rotation}
use Rattle.edit_base.specs.Edges.{corners_from, has_equal}
use Rattle.edit_collapse.specs.Alike.{corner_rank, is_folded, has_met, met_none, AreUnlike}
use Rattle.edit_collapse.specs.Collapse.{are_opposite}
use Rattle.edit_collapse.specs.Tried.{opposite_in, two_in}

-- ---- the number of corners
cycle : (p q r : ℕ) → q + r + p ≡ p + q + r
cycle p q r = omega arith

back : (p q r : ℕ) → r + q + p ≡ p + q + r
back p q r = omega arith

swap : (p q r : ℕ) → q + p + r ≡ p + q + r
swap p q r = omega arith

rank_turned : (c : Corners) → corner_rank (turned c) ≡ corner_rank c
rank_turned c = λ i. cycle c.first c.second c.third i * 2 ^ 66 + cycle (c.first * c.second) (c.second * c.third) (c.third * c.first) i

rank_back : (c : Corners) → corner_rank (corners_from c.third c.second c.first) ≡ corner_rank c
rank_back c =
    (λ i. back c.first c.second c.third i * 2 ^ 66 + (mul_comm c.third c.second i + mul_comm c.second c.first i + mul_comm c.first c.third i))
    ∙ ap (λ n. (c.first + c.second + c.third) * 2 ^ 66 + n) (swap (c.first * c.second) (c.second * c.third) (c.third * c.first))

same_rank : (c d : Corners) → same_corners c d ≡ true → corner_rank c ≡ corner_rank d
same_rank c d h =
    let two = and_first (c.first == d.first && c.second == d.second) (c.third == d.third) h in
    let first = eqb-true c.first d.first (and_first (c.first == d.first) (c.second == d.second) two) in
    let second = eqb-true c.second d.second (and_second (c.first == d.first) (c.second == d.second) two) in
    let third = eqb-true c.third d.third (and_second (c.first == d.first && c.second == d.second) (c.third == d.third) h) in
    λ i. corner_rank (record { first = first i; second = second i; third = third i })

equal_rank : (c d : Corners) → equal_up_to_rotation c d ≡ true → corner_rank c ≡ corner_rank d
equal_rank c d h = ⊎_elim
    (λ two. ⊎_elim (same_rank c d) (λ e. sym (rank_turned c) ∙ same_rank (turned c) d e) (or_cases (same_corners c d) (same_corners (turned c) d) two))
    (λ e. sym (rank_turned c) ∙ sym (rank_turned (turned c)) ∙ same_rank (turned (turned c)) d e)
    (or_cases (same_corners c d || same_corners (turned c) d) (same_corners (turned (turned c)) d) h)

opposite_rank : (c d : Corners) → are_opposite c d ≡ true → corner_rank c ≡ corner_rank d
opposite_rank c d h = sym (rank_back c) ∙ equal_rank (corners_from c.third c.second c.first) d h

-- ---- tests
same : (k l : ℕ) → k ≡ l → (k == l) ≡ true
same k l h = grind (arith, nat_tests)

apart : (t : Bool) (k l : ℕ) → (t ≡ true → k ≡ l) → (k == l) ≡ false → t ≡ false
apart true k l h e = absurd (false≢true (sym e ∙ same k l (h refl)))
apart false k l h e = refl

not_first : (a b : Bool) → (a || b) ≡ false → a ≡ false
not_first true b h = cc
not_first false b h = refl

not_second : (a b : Bool) → (a || b) ≡ false → b ≡ false
not_second true b h = cc
not_second false b h = h

turned_test : (k l : ℕ) → (k == l) ≡ false → (l == k) ≡ false
turned_test k l h = grind (arith, nat_tests)

-- no corners of three are opposite to themselves
alone : (c : Corners) → is_folded c ≡ false → are_opposite c c ≡ false
alone c h = tests c.first c.second c.third h
  where
    tests : (x y z : ℕ) → ((x == y) || (y == z) || (z == x)) ≡ false → ((z == x && y == y && x == z) || (y == x && x == y && z == z) || (x == x && z == y && y == z)) ≡ false
    tests x y z h = grind (arith, nat_tests)

-- ---- lists
all_both : {X : Type 0} (P Q : X → Type 0) (xs : List X) → AllByRecursion P xs → AllByRecursion Q xs → AllByRecursion (λ x. P x × Q x) xs
all_both P Q [] h k = tt
all_both P Q (x ∷ xs) h k = ((h.0, k.0), all_both P Q xs h.1 k.1)

none_mapped : (p : Corners → Bool) (es : List (ℕ × Corners)) → AllByRecursion (λ (x : ℕ × Corners). p x.1 ≡ false) es → list_any p (map (λ (e : ℕ × Corners). e.1) es) ≡ false
none_mapped p [] h = refl
none_mapped p (e ∷ es) h = λ i. h.0 i || none_mapped p es h.1 i

-- no number was met
not_met : (met : ℕ → Bool) (es : List (ℕ × Corners)) → AreUnlike met es → AllByRecursion (λ (e : ℕ × Corners). met (corner_rank e.1) ≡ false) es
not_met met [] h = tt
not_met met (e ∷ es) h = (
  (h.0).not_before,
  all_weaker (λ (x : ℕ × Corners). ((corner_rank e.1 == corner_rank x.1) || met (corner_rank x.1)) ≡ false) (λ (x : ℕ × Corners). met (corner_rank x.1) ≡ false) es
      (λ x k. not_second (corner_rank e.1 == corner_rank x.1) (met (corner_rank x.1)) k) (not_met (λ k. (corner_rank e.1 == k) || met k) es h.1),
)

-- no later face has the number of the first
others : (met : ℕ → Bool) (e : ℕ × Corners) (es : List (ℕ × Corners)) → AreUnlike (λ k. (corner_rank e.1 == k) || met k) es → AllByRecursion (λ (x : ℕ × Corners). (corner_rank e.1 == corner_rank x.1) ≡ false) es
others met e es h = all_weaker (λ (x : ℕ × Corners). ((corner_rank e.1 == corner_rank x.1) || met (corner_rank x.1)) ≡ false) (λ (x : ℕ × Corners). (corner_rank e.1 == corner_rank x.1) ≡ false) es
    (λ x k. not_first (corner_rank e.1 == corner_rank x.1) (met (corner_rank x.1)) k) (not_met (λ k. (corner_rank e.1 == k) || met k) es h)

-- ---- none is equal to another
pub none_equal : (met : ℕ → Bool) (es : List (ℕ × Corners)) → AreUnlike met es → has_equal (map (λ (e : ℕ × Corners). e.1) es) ≡ false
none_equal met [] h = refl
none_equal met (e ∷ es) h =
    let first = none_mapped (λ d. equal_up_to_rotation e.1 d) es
    (all_weaker (λ (x : ℕ × Corners). (corner_rank e.1 == corner_rank x.1) ≡ false) (λ (x : ℕ × Corners). equal_up_to_rotation e.1 x.1 ≡ false) es
    (λ x k. apart (equal_up_to_rotation e.1 x.1) (corner_rank e.1) (corner_rank x.1) (equal_rank e.1 x.1) k) (others met e es h.1)) in
    let rest = none_equal (λ k. (corner_rank e.1 == k) || met k) es h.1 in
    λ i. first i || rest i

-- ---- none is opposite to another, or to itself
abbrev Lone : List (ℕ × Corners) → ℕ × Corners → Type 0
Lone es e = AllByRecursion (λ (g : ℕ × Corners). are_opposite e.1 g.1 ≡ false) es

all_lone : (met : ℕ → Bool) (es : List (ℕ × Corners)) → AreUnlike met es → AllByRecursion (Lone es) es
all_lone met [] h = tt
all_lone met (e ∷ es) h =
    let differ = others met e es h.1 in (
      (
        alone e.1 (h.0).three,
        all_weaker (λ (x : ℕ × Corners). (corner_rank e.1 == corner_rank x.1) ≡ false) (λ (x : ℕ × Corners). are_opposite e.1 x.1 ≡ false) es
            (λ x k. apart (are_opposite e.1 x.1) (corner_rank e.1) (corner_rank x.1) (opposite_rank e.1 x.1) k) differ,
      ),
      all_both (λ (x : ℕ × Corners). are_opposite x.1 e.1 ≡ false) (Lone es) es
          (all_weaker (λ (x : ℕ × Corners). (corner_rank e.1 == corner_rank x.1) ≡ false) (λ (x : ℕ × Corners). are_opposite x.1 e.1 ≡ false) es
          (λ x k. apart (are_opposite x.1 e.1) (corner_rank x.1) (corner_rank e.1) (opposite_rank x.1 e.1) (turned_test (corner_rank e.1) (corner_rank x.1) k)) differ)
          (all_lone (λ k. (corner_rank e.1 == k) || met k) es h.1),
    )

none_there : (es : List (ℕ × Corners)) (e : ℕ × Corners) → Lone es e → opposite_in es e.1 ≡ None
none_there [] e h = refl
none_there (g ∷ es) e h =
    ap (λ t. option_map (λ (x : ℕ × Corners). x.0) (cond t (Some g) (find (λ (x : ℕ × Corners). are_opposite e.1 x.1) es))) h.0
    ∙ none_there es e h.1

no_two : (es xs : List (ℕ × Corners)) → AllByRecursion (Lone es) xs → filter_map (λ (e : ℕ × Corners). option_map {U = ℕ × ℕ} (λ opposite. (e.0, opposite)) (opposite_in es e.1)) xs ≡ []
no_two es [] h = refl
no_two es (x ∷ xs) h = λ i. cons_option (option_map {U = ℕ × ℕ} (λ opposite. (x.0, opposite)) (none_there es x h.0 i)) (no_two es xs h.1 i)

pub none_opposite : (met : ℕ → Bool) (es : List (ℕ × Corners)) → AreUnlike met es → two_in es ≡ None
none_opposite met es h = ap (λ (l : List (ℕ × ℕ)). slice_get l 0) (no_two es es (all_lone met es h))

-- ---- a set of numbers
pub none_met : (met : BTreeSet ℕ) → IsEmpty met → has_met met ≡ met_none
none_met met h = λ i k. list_any (is_at (nat_cmp k)) (h i)

pub if_ok : {A E : Type 0} (r : Result A E) {P Q : A → Type 0} → ((x : A) → P x → Q x) → IfOk r P → IfOk r Q
if_ok (Ok x) f h = f x h
if_ok (Err e) f h = h
