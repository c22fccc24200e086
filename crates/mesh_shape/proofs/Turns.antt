-- Two faces have one key exactly where they are equal up to rotation.
use Rattle.std.proofs.Common.{◌≡◌, ◌⊎◌, ℕ, ◌+◌, ◌*◌, ◌^◌, ◌<◌, ◌≤◌, ◌||◌, min, Bool, true, false, cond, List, [], ◌∷◌, ◌++◌, take, Some, length, drop, get_or, add-one, refl, sym, ap, subst, ◌∙◌, inl, inr, ⊎_elim, arith}
use Rattle.std.specs.Prelude.{nat_eq}
use Rattle.std.specs.List.{position_from, AllByRecursion}
use Rattle.std.specs.HashMap.{HashMap, get}
use Rattle.std.proofs.Math.Seq.{drop-cons}
use Rattle.std.proofs.lemmas.Bool.Decides.{nat_tests}
use Rattle.mesh_base.specs.declared.ids.Corners.{Corners}
use Rattle.mesh_base.specs.declared.faults.ShapeFault.{ShapeFault}
use Rattle.mesh_base.specs.Mesh.{turned, same_corners, equal_up_to_rotation}
use Rattle.mesh_base.specs.Changes.{corners_of}
use Rattle.mesh_base.specs.Given.{Faces}
use Rattle.mesh_base.proofs.Tests.{both_ways}
use Rattle.mesh_shape.proofs.Rotations.{same_itself, same_for_equal}
use Rattle.mesh_shape.proofs.Prefixes.{behind_taken}
use Rattle.mesh_shape.specs.ShapeFaults.{first_equal, doubled_by, all_doubled_from}
use Rattle.mesh_shape.specs.Doubled.{rank_of, turn_key, HasSmallCorners, has_turn_key, IsSeen, HasFirsts}

-- ---- one number for three
abbrev number_of : Corners → ℕ
number_of c = rank_of c.first c.second c.third

digit : (p n q m : ℕ) → n < 2 ^ 32 → m < 2 ^ 32 → p * 2 ^ 32 + n ≡ q * 2 ^ 32 + m → p ≡ q
digit p n q m h h' e = omega (arith, h, h', e)

same_number : (c d : Corners) → HasSmallCorners c → HasSmallCorners d → number_of c ≡ number_of d → c ≡ d
same_number c d sc sd e =
    let upper = digit (c.first * 2 ^ 32 + c.second) c.third (d.first * 2 ^ 32 + d.second) d.third sc.2 sd.2 e in
    let e1 : c.first ≡ d.first = digit c.first c.second d.first d.second sc.1 sd.1 upper in
    let e2 : c.second ≡ d.second = omega (arith, upper, e1) in
    let e3 : c.third ≡ d.third = omega (arith, e, e1, e2) in
    λ i. record { first = e1 i; second = e2 i; third = e3 i }

small_turned : (c : Corners) → HasSmallCorners c → HasSmallCorners (turned c)
small_turned c s = (s.1, s.2, s.0)

-- ---- the key is a number of the face, turned or not, and turning leaves it
least_of_three : (a b c : ℕ) → (min (min a b) c ≡ a) ⊎ ((min (min a b) c ≡ b) ⊎ (min (min a b) c ≡ c))
least_of_three a b c = grind arith

least_turned : (a b c : ℕ) → min (min b c) a ≡ min (min a b) c
least_turned a b c = omega arith

a_turn : (c : Corners) → (turn_key c ≡ number_of c) ⊎ ((turn_key c ≡ number_of (turned c)) ⊎ (turn_key c ≡ number_of (turned (turned c))))
a_turn c = least_of_three (number_of c) (number_of (turned c)) (number_of (turned (turned c)))

key_turned : (c : Corners) → turn_key (turned c) ≡ turn_key c
key_turned c = least_turned (number_of c) (number_of (turned c)) (number_of (turned (turned c)))

-- ---- equal faces have one key
key_of_equal : (c d : Corners) → equal_up_to_rotation c d ≡ true → turn_key d ≡ turn_key c
key_of_equal c d e = same_for_equal turn_key key_turned c d e

-- ---- and back
first_of_three : (p q r : Bool) → p ≡ true → (p || q || r) ≡ true
first_of_three true q r h = refl
first_of_three false q r h = cc

second_of_three : (p q r : Bool) → q ≡ true → (p || q || r) ≡ true
second_of_three true q r h = refl
second_of_three false true r h = refl
second_of_three false false r h = cc

third_of_three : (p q r : Bool) → r ≡ true → (p || q || r) ≡ true
third_of_three true q r h = refl
third_of_three false true r h = refl
third_of_three false false r h = h

rotation_0 : (c d : Corners) → d ≡ c → equal_up_to_rotation c d ≡ true
rotation_0 c d e = subst (λ x. equal_up_to_rotation c x ≡ true) (sym e) (first_of_three _ _ _ (same_itself c))

rotation_1 : (c d : Corners) → d ≡ turned c → equal_up_to_rotation c d ≡ true
rotation_1 c d e = subst (λ x. equal_up_to_rotation c x ≡ true) (sym e) (second_of_three (same_corners c (turned c)) _ _ (same_itself (turned c)))

rotation_2 : (c d : Corners) → d ≡ turned (turned c) → equal_up_to_rotation c d ≡ true
rotation_2 c d e = subst (λ x. equal_up_to_rotation c x ≡ true) (sym e) (third_of_three (same_corners c (turned (turned c))) (same_corners (turned c) (turned (turned c))) _ (same_itself (turned (turned c))))

-- a face, turned or not, whose number is the key of another
by_number : (c e : Corners) → HasSmallCorners c → HasSmallCorners e → turn_key c ≡ number_of e → (e ≡ c) ⊎ ((e ≡ turned c) ⊎ (e ≡ turned (turned c)))
by_number c e sc se h =
    ⊎_elim (λ c0. inl (same_number e c se sc (sym h ∙ c0)))
    (⊎_elim (λ c1. inr (inl (same_number e (turned c) se (small_turned c sc) (sym h ∙ c1))))
    (λ c2. inr (inr (same_number e (turned (turned c)) se (small_turned (turned c) (small_turned c sc)) (sym h ∙ c2)))))
    (a_turn c)

equal_of_keys : (c d : Corners) → HasSmallCorners c → HasSmallCorners d → turn_key d ≡ turn_key c → equal_up_to_rotation c d ≡ true
equal_of_keys c d sc sd e =
    ⊎_elim
    (λ d0. ⊎_elim (rotation_0 c d) (⊎_elim (rotation_1 c d) (rotation_2 c d)) (by_number c d sc sd (sym e ∙ d0)))
    (⊎_elim
    (λ d1. ⊎_elim (λ is. rotation_2 c d (ap (λ x. turned (turned x)) is)) (⊎_elim (λ is. rotation_0 c d (ap (λ x. turned (turned x)) is)) (λ is. rotation_1 c d (ap (λ x. turned (turned x)) is)))
    (by_number c (turned d) sc (small_turned d sd) (sym e ∙ d1)))
    (λ d2. ⊎_elim (λ is. rotation_1 c d (ap turned is)) (⊎_elim (λ is. rotation_2 c d (ap turned is)) (λ is. rotation_0 c d (ap turned is)))
    (by_number c (turned (turned d)) sc (small_turned (turned d) (small_turned d sd)) (sym e ∙ d2))))
    (a_turn d)

-- ---- tests
equal_tested : (a b : ℕ) → nat_eq a b ≡ true → a ≡ b
equal_tested a b h = grind (arith, nat_tests)

tested_equal : (a b : ℕ) → a ≡ b → nat_eq a b ≡ true
tested_equal a b h = grind (arith, nat_tests)

-- the two tests agree
pub same_tests : (f g : List ℕ) → HasSmallCorners (corners_of f) → HasSmallCorners (corners_of g) → has_turn_key (turn_key (corners_of f)) g ≡ equal_up_to_rotation (corners_of f) (corners_of g)
same_tests f g sf sg =
    let c : Corners = corners_of f in
    let d : Corners = corners_of g in
    both_ways _ _
    (λ e. equal_of_keys c d sf sg (equal_tested (turn_key d) (turn_key c) e))
    (λ e. tested_equal (turn_key d) (turn_key c) (key_of_equal c d e))

position_same : {A : Type 0} (P : A → Type 0) (p q : A → Bool) → ((x : A) → P x → p x ≡ q x) → (k : ℕ) (xs : List A) → AllByRecursion P xs → position_from p k xs ≡ position_from q k xs
position_same P p q same k [] h = refl
position_same P p q same k (x ∷ xs) h = ap (λ b. cond b (Some k) (position_from p (k + 1) xs)) (same x h.0) ∙ ap (λ r. cond (q x) (Some k) r) (position_same P p q same (k + 1) xs h.1)

-- ---- the walk from the last face
abbrev pub AreSmallFaces : Faces → Type 0
AreSmallFaces fs = AllByRecursion (λ g. HasSmallCorners (corners_of g)) fs

module _ (faces : Faces) (i : ℕ) (d : List ℕ) (h : i < length faces) where
  abbrev f : List ℕ
  f = get_or faces i d

  abbrev behind : Faces
  behind = drop (i + 1) faces

  from_here : drop i faces ≡ f ∷ behind
  from_here = drop-cons faces i d h ∙ ap (λ n. f ∷ drop n faces) (sym (add-one i))

  -- one more face is small
  pub small_more : AreSmallFaces behind → HasSmallCorners (corners_of f) → AreSmallFaces (drop i faces)
  small_more rest here = let all : AreSmallFaces (f ∷ behind) = (here, rest) in subst AreSmallFaces (sym from_here) all

  -- it is the first with its key
  pub firsts_more : {S : Type 0} (old new : HashMap ℕ ℕ S) → HasFirsts old (i + 1 + 1) behind → IsSeen (turn_key (corners_of f)) (i + 1) old new → HasFirsts new (i + 1) (drop i faces)
  firsts_more old new firsts seen = λ q.
      seen q
      ∙ ap (λ r. cond (nat_eq (turn_key (corners_of f)) q) (Some (i + 1)) r) (firsts q)
      ∙ ap (position_from (has_turn_key q) (i + 1)) (sym from_here)

  -- and it is put before those behind it, where the map has one with its key
  pub doubled_more : {S : Type 0} (most : ℕ) (seen : HashMap ℕ ℕ S) (old new : List ShapeFault) → HasFirsts seen (i + 1 + 1) behind → AreSmallFaces behind → HasSmallCorners (corners_of f) → old ≡ take most (all_doubled_from (i + 1 + 1) behind)
      → new ≡ take most (doubled_by (i + 1) (get nat_eq seen (turn_key (corners_of f))) ++ old) → new ≡ take most (all_doubled_from (i + 1) (drop i faces))
  doubled_more most seen old new firsts rest here so_far put =
      put
      ∙ ap (λ l. take most (doubled_by (i + 1) (get nat_eq seen (turn_key (corners_of f))) ++ l)) so_far
      ∙ behind_taken most (doubled_by (i + 1) (get nat_eq seen (turn_key (corners_of f)))) (all_doubled_from (i + 1 + 1) behind)
      ∙ ap (λ o. take most (doubled_by (i + 1) o ++ all_doubled_from (i + 1 + 1) behind)) second
      ∙ ap (λ l. take most (all_doubled_from (i + 1) l)) (sym from_here)
    where
      second : get nat_eq seen (turn_key (corners_of f)) ≡ first_equal (i + 1 + 1) f behind
      second = firsts (turn_key (corners_of f)) ∙ position_same (λ g. HasSmallCorners (corners_of g)) (has_turn_key (turn_key (corners_of f))) (λ g. equal_up_to_rotation (corners_of f) (corners_of g)) (λ g small. same_tests f g here small) (i + 1 + 1) behind rest

-- ---- the same from the place behind
module _ (faces : Faces) (behind_at i number : ℕ) (d : List ℕ) (is : i + 1 ≡ behind_at) (within : behind_at ≤ length faces) (numbered : number ≡ i + 1) where
  inside : i < length faces
  inside = omega arith

  pub small_back : AreSmallFaces (drop behind_at faces) → HasSmallCorners (corners_of (get_or faces i d)) → AreSmallFaces (drop i faces)
  small_back rest here = small_more faces i d inside (subst (λ n. AreSmallFaces (drop n faces)) (sym is) rest) here

  pub firsts_back : {S : Type 0} (old new : HashMap ℕ ℕ S) → HasFirsts old (behind_at + 1) (drop behind_at faces) → IsSeen (turn_key (corners_of (get_or faces i d))) number old new → HasFirsts new (i + 1) (drop i faces)
  firsts_back old new firsts seen =
      firsts_more faces i d inside old new (subst (λ n. HasFirsts old (n + 1) (drop n faces)) (sym is) firsts) (subst (λ n. IsSeen (turn_key (corners_of (get_or faces i d))) n old new) numbered seen)

  pub doubled_back : {S : Type 0} (most : ℕ) (seen : HashMap ℕ ℕ S) (old new : List ShapeFault) → HasFirsts seen (behind_at + 1) (drop behind_at faces) → AreSmallFaces (drop behind_at faces) → HasSmallCorners (corners_of (get_or faces i d)) → old ≡ take most (all_doubled_from (behind_at + 1) (drop behind_at faces))
      → new ≡ take most (doubled_by number (get nat_eq seen (turn_key (corners_of (get_or faces i d)))) ++ old) → new ≡ take most (all_doubled_from (i + 1) (drop i faces))
  doubled_back most seen old new firsts rest here so_far put =
      doubled_more faces i d inside most seen old new (subst (λ n. HasFirsts seen (n + 1) (drop n faces)) (sym is) firsts) (subst (λ n. AreSmallFaces (drop n faces)) (sym is) rest) here
      (so_far ∙ ap (λ n. take most (all_doubled_from (n + 1) (drop n faces))) (sym is))
      (put ∙ ap (λ n. take most (doubled_by n (get nat_eq seen (turn_key (corners_of (get_or faces i d)))) ++ old)) numbered)
