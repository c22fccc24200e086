-- Corners that are whole numbers without a sign, and a face of three of them.
use Rattle.std.proofs.Common.{◌≡◌, ℕ, ◌^◌, ◌<◌, ◌≤◌, Bool, true, false, eqb, leb, ltb, List, [], ◌∷◌, get_or, drop, Option, Some, None, Ok, refl, ap, ◌∙◌, arith, inl, inr}
use Rattle.std.specs.Prelude.{All, option_map, if◌then◌else◌}
use Rattle.std.specs.List.{slice_split, list_all}
use Rattle.std.proofs.lemmas.Bool.{cases_Bool, and_parts, ne_eqb, lt-ltb, leb-true}
use Rattle.std.proofs.lemmas.List.Splits.{slice_split_none}
use Rattle.std.proofs.lemmas.List.Sums.{AllPass-from_list_all}
use Rattle.line_text.specs.Fronts.{IsWhole}
use Rattle.line_text.specs.Numbers.{is_digit, number_within, begins_with, whole_parts}
use Rattle.line_text.proofs.Fronts.{no_digits}
use Rattle.line_text.proofs.ReadSteps.{some_same}
use Rattle.obj_text.specs.Obj.{corner_of, corners_of, face_of}

digit_no_slash : (b : ℕ) → is_digit b ≡ true → eqb b 47 ≡ false
digit_no_slash b h =
    let p = and_parts (leb 48 b) (leb b 57) h in
    let low : 48 ≤ b = leb-true _ _ p.0 in
    ne_eqb _ _ (omega arith)

no_slash : (ds : List ℕ) → list_all is_digit ds ≡ true → All (λ b. eqb b 47 ≡ false) ds
no_slash ds h = λ k d lt. digit_no_slash (get_or ds k d) (AllPass-from_list_all is_digit ds h k d lt)

sign_is : (t : Bool) (o : Option ℕ) (n : ℕ) → option_map {U = Bool × ℕ} (λ m. (t, m)) o ≡ Some (false, n) → t ≡ false
sign_is t None n h = absurd (let no : ⊥ = cc in no)
sign_is t (Some m) n h = ap (λ (p : Bool × ℕ). p.0) (some_same (t, m) (false, n) h)

-- a word that is a number without a sign has digits alone
all_digits_of : (word : List ℕ) (n : ℕ) → whole_parts word ≡ Some (false, n) → list_all is_digit word ≡ true
all_digits_of word n h =
    let e : begins_with 45 word ≡ false = sign_is (begins_with 45 word) (number_within 10 (if begins_with 45 word then drop 1 word else word)) n h in
    elim (cases_Bool (list_all is_digit word)) [
      | inl f ↦ f
      | inr f ↦ absurd (let none : whole_parts word ≡ None = rw (e, no_digits 10 word f) refl in let no : ⊥ = cc in no)
    ]

pub whole_corner : (read n : ℕ) (word : List ℕ) → 0 < n → n < 2 ^ 32 → whole_parts word ≡ Some (false, n) → corner_of read word ≡ Ok n
unfolding corner_of
whole_corner read n word some small h =
    let alone : slice_split (λ b. eqb b 47) word ≡ word ∷ [] = slice_split_none (λ b. eqb b 47) word (no_slash word (all_digits_of word n h)) in
    let not_zero : eqb n 0 ≡ false = ne_eqb _ _ (omega arith) in
    let fits : ltb n (2 ^ 32) ≡ true = lt-ltb _ _ small in
    rw (alone, h, not_zero, fits) refl

-- three whole words are a face of their numbers
pub whole_face : (read a b c : ℕ) (w0 w1 w2 w3 : List (List ℕ)) → IsWhole w0 (false, a) w1 → IsWhole w1 (false, b) w2 → IsWhole w2 (false, c) w3 → w3 ≡ []
    → 0 < a → a < 2 ^ 32 → 0 < b → b < 2 ^ 32 → 0 < c → c < 2 ^ 32 → face_of read w0 ≡ Ok (a ∷ b ∷ c ∷ [])
unfolding face_of corners_of
whole_face read a b c w0 w1 w2 w3 p q r none a0 a1 b0 b1 c0 c1 =
    let e : w0 ≡ p.word ∷ q.word ∷ r.word ∷ [] = p.first ∙ ap (λ (ws : List (List ℕ)). p.word ∷ ws) (q.first ∙ ap (λ (ws : List (List ℕ)). q.word ∷ ws) (r.first ∙ ap (λ (ws : List (List ℕ)). r.word ∷ ws) none)) in
    rw (e, whole_corner read a p.word a0 a1 p.whole, whole_corner read b q.word b0 b1 q.whole, whole_corner read c r.word c0 c1 r.whole) refl
