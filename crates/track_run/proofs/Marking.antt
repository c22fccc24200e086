-- Marks in a table.
use Rattle.std.proofs.Common.{◌≡◌, ℕ, zero, suc, ◌+◌, ◌%◌, ◌≤◌, Bool, true, false, ◌&&◌, ◌||◌, ◌==◌, List, [], ◌∷◌, length, nat_lt, ⊎_elim, refl, sym, ap, subst, ◌∙◌, arith}
use Rattle.std.specs.Prelude.{slice_set}
use Rattle.std.proofs.lemmas.Bool.{false≢true, eqb-true}
use Rattle.std.specs.List.{list_any}
use Rattle.mesh_base.specs.declared.ids.Corners.{Corners}
use Rattle.mesh_base.specs.Mesh.{same_corners, turned, equal_up_to_rotation}
use Rattle.mesh_base.proofs.Tests.{and_first, and_second, or_either}
use Rattle.track_run.specs.Surface.{backward, most, rises}
use Rattle.track_run.specs.Marks.{is_marked, HasMark, corner_number, face_place, AreOppositesMarked}
use Rattle.track_run.proofs.RisingFaces.{alike_rise, less_back}

-- ---- a mark more
put_there : (marks : List Bool) (k : ℕ) → is_marked (slice_set marks k true) k ≡ true
put_there [] zero = refl
put_there [] (suc k) = refl
put_there (x ∷ xs) zero = refl
put_there (x ∷ xs) (suc k) = put_there xs k

kept_there : (marks : List Bool) (k i : ℕ) → is_marked marks i ≡ true → is_marked (slice_set marks k true) i ≡ true
kept_there [] zero i h = h
kept_there [] (suc k) i h = h
kept_there (x ∷ xs) zero zero h = refl
kept_there (x ∷ xs) zero (suc i) h = h
kept_there (x ∷ xs) (suc k) zero h = h
kept_there (x ∷ xs) (suc k) (suc i) h = kept_there xs k i h

pub marked : (marks : List Bool) (k : ℕ) → HasMark marks k (slice_set marks k true)
marked marks k = record { put = put_there marks k; kept = kept_there marks k }

outside : (marks : List Bool) (k : ℕ) → length marks ≤ k → is_marked marks k ≡ true
outside [] zero h = refl
outside [] (suc k) h = refl
outside (x ∷ xs) zero h = absurd (omega (arith, h))
outside (x ∷ xs) (suc k) h = outside xs k (omega (arith, h))

pub marked_outside : (marks : List Bool) (k : ℕ) → length marks ≤ k → HasMark marks k marks
marked_outside marks k h = record { put = outside marks k h; kept = λ i there. there }

-- ---- corners that are the same up to rotation or the other way round have one place
same_place : (places : ℕ) (c d : Corners) → same_corners c d ≡ true → face_place places c ≡ face_place places d
same_place places c d h =
    let two = and_first (c.first == d.first && c.second == d.second) (c.third == d.third) h in
    let p = eqb-true c.first d.first (and_first (c.first == d.first) (c.second == d.second) two) in
    let q = eqb-true c.second d.second (and_second (c.first == d.first) (c.second == d.second) two) in
    let r = eqb-true c.third d.third (and_second (c.first == d.first && c.second == d.second) (c.third == d.third) h) in
    λ i. (corner_number (p i) + corner_number (q i) + corner_number (r i)) % places

turned_sum : (a b d : ℕ) → b + d + a ≡ a + b + d
turned_sum a b d = omega arith

backward_sum : (a b d : ℕ) → d + b + a ≡ a + b + d
backward_sum a b d = omega arith

turned_place : (places : ℕ) (c : Corners) → face_place places (turned c) ≡ face_place places c
turned_place places c = ap (λ (n : ℕ). n % places) (turned_sum (corner_number c.first) (corner_number c.second) (corner_number c.third))

backward_place : (places : ℕ) (c : Corners) → face_place places (backward c) ≡ face_place places c
backward_place places c = ap (λ (n : ℕ). n % places) (backward_sum (corner_number c.first) (corner_number c.second) (corner_number c.third))

alike_place : (places : ℕ) (c d : Corners) → equal_up_to_rotation c d ≡ true → face_place places c ≡ face_place places d
alike_place places c d h = ⊎_elim
    (λ two. ⊎_elim
    (λ one. same_place places c d one)
    (λ one. sym (turned_place places c) ∙ same_place places (turned c) d one)
    (or_either (same_corners c d) (same_corners (turned c) d) two))
    (λ one. sym (turned_place places (turned c) ∙ turned_place places c) ∙ same_place places (turned (turned c)) d one)
    (or_either (same_corners c d || same_corners (turned c) d) (same_corners (turned (turned c)) d) h)

-- ---- the other way round they do not rise
most_back : (a b c x y z : Bool) → (a ≡ true → x ≡ false) → (b ≡ true → y ≡ false) → (c ≡ true → z ≡ false) → most a b c ≡ true → most y x z ≡ false
most_back true true c x y z f g h is = (λ i. most (g refl i) (f refl i) z) ∙ by z
  where
    by : (z : Bool) → most false false z ≡ false
    by true = refl
    by false = refl
most_back true false true x y z f g h is = let e = h refl in (λ i. most y (f refl i) (e i)) ∙ by y
  where
    by : (y : Bool) → most y false false ≡ false
    by true = refl
    by false = refl
most_back true false false x y z f g h is = cc
most_back false true true x y z f g h is = (λ i. most (g refl i) x (h refl i)) ∙ by x
  where
    by : (x : Bool) → most false x false ≡ false
    by true = refl
    by false = refl
most_back false true false x y z f g h is = cc
most_back false false true x y z f g h is = cc
most_back false false false x y z f g h is = cc

backward_falls : (c : Corners) → rises c ≡ true → rises (backward c) ≡ false
backward_falls c h = most_back (nat_lt c.first c.second) (nat_lt c.second c.third) (nat_lt c.third c.first) (nat_lt c.second c.first) (nat_lt c.third c.second) (nat_lt c.first c.third)
    (less_back c.first c.second) (less_back c.second c.third) (less_back c.third c.first) h

-- ---- face by face
-- those that rise have a mark, or one of the faces that are left has them the other way round
abbrev pub AreMarkedBut : ℕ → List Corners → List Corners → List Bool → Type 0
AreMarkedBut places faces left marks =
    (c : Corners) → rises c ≡ true → list_any (λ d. equal_up_to_rotation d (backward c)) faces ≡ true →
    (list_any (λ d. equal_up_to_rotation d (backward c)) left || is_marked marks (face_place places c)) ≡ true

pub none_passed : (places : ℕ) (faces : List Corners) (marks : List Bool) → AreMarkedBut places faces faces marks
none_passed places faces marks c up there = ap (λ b. b || is_marked marks (face_place places c)) there

pub all_passed : (places : ℕ) (faces left : List Corners) (marks : List Bool) → left ≡ [] → AreMarkedBut places faces left marks → AreOppositesMarked places faces marks
all_passed places faces left marks none h c up there = ap (λ l. list_any (λ d. equal_up_to_rotation d (backward c)) l || is_marked marks (face_place places c)) (sym none) ∙ h c up there

or_right : (a b : Bool) → b ≡ true → (a || b) ≡ true
or_right true b h = refl
or_right false b h = h

-- a face that does not rise has its mark
pub passed_marked : (places : ℕ) (faces left next : List Corners) (d : Corners) (old new : List Bool) → left ≡ d ∷ next → HasMark old (face_place places d) new →
    AreMarkedBut places faces left old → AreMarkedBut places faces next new
passed_marked places faces left next d old new step mark h c up there = ⊎_elim
    (λ in_left. ⊎_elim
    (λ here. or_right rest (is_marked new (face_place places c)) (subst (λ k. is_marked new k ≡ true) (alike_place places d (backward c) here ∙ backward_place places c) mark.put))
    (λ later. ap (λ b. b || is_marked new (face_place places c)) later)
    (or_either (equal_up_to_rotation d (backward c)) rest (ap (list_any (λ e. equal_up_to_rotation e (backward c))) (sym step) ∙ in_left)))
    (λ has. or_right rest (is_marked new (face_place places c)) (mark.kept (face_place places c) has))
    (or_either (list_any (λ e. equal_up_to_rotation e (backward c)) left) (is_marked old (face_place places c)) (h c up there))
  where
    rest : Bool
    rest = list_any (λ e. equal_up_to_rotation e (backward c)) next

-- one that rises is the other way round of none that does
pub passed_rising : (places : ℕ) (faces left next : List Corners) (d : Corners) (marks : List Bool) → left ≡ d ∷ next → rises d ≡ true →
    AreMarkedBut places faces left marks → AreMarkedBut places faces next marks
passed_rising places faces left next d marks step rising h c up there = ⊎_elim
    (λ in_left. ⊎_elim
    (λ here. absurd (false≢true (sym (backward_falls c up) ∙ sym (alike_rise d (backward c) here) ∙ rising)))
    (λ later. ap (λ b. b || is_marked marks (face_place places c)) later)
    (or_either (equal_up_to_rotation d (backward c)) rest (ap (list_any (λ e. equal_up_to_rotation e (backward c))) (sym step) ∙ in_left)))
    (λ has. or_right rest (is_marked marks (face_place places c)) has)
    (or_either (list_any (λ e. equal_up_to_rotation e (backward c)) left) (is_marked marks (face_place places c)) (h c up there))
  where
    rest : Bool
    rest = list_any (λ e. equal_up_to_rotation e (backward c)) next

-- ---- a mark is asked for before the mesh
pub asked : (up mark has : Bool) → (up ≡ true → has ≡ true → mark ≡ true) → (up && mark && has) ≡ (up && has)
asked true true has h = refl
asked true false true h = absurd (false≢true (h refl refl))
asked true false false h = refl
asked false mark has h = refl
