-- Words that hold no byte as low as that at which a text is cut.
use Rattle.std.proofs.Common.{◌≡◌, ℕ, suc, ◌/◌, ◌%◌, ◌^◌, ◌<◌, ◌≤◌, true, false, eqb, leb, ltb, List, [], ◌∷◌, ◌++◌, slice_index, Some, None, inl, inr, refl, sym, ap, ◌∙◌, arith}
use Rattle.std.specs.Prelude.{decimal, All}
use Rattle.std.specs.List.{list_all, AllByRecursion, slice_split, join_with_byte}
use Rattle.std.proofs.lemmas.Bool.{and_parts, leb-true, ltb-true, lt-leb, ne_eqb, eq-eqb, cases_lt}
use Rattle.std.proofs.lemmas.List.Elements.{All-from_recursion}
use Rattle.std.proofs.lemmas.List.Splits.{slice_split_at, slice_split_none}
use Rattle.hex.specs.Hex.{IsBytes, encode_with, encode_lower, hex_digit_value, lower_digits}
use Rattle.hex.proofs.HexLemmas.{IsDigits-lower_digits}
use Rattle.line_text.specs.Numbers.{is_digit}
use Rattle.line_text.proofs.Decimals.{Writes-decimal}

-- each byte is above this one
abbrev pub IsOver : ℕ → List ℕ → Type 0
IsOver low word = AllByRecursion (λ b. low < b) word

-- of fixed words a test computes
pub fixed_over : (low : ℕ) (word : List ℕ) → list_all (λ b. ltb low b) word ≡ true → IsOver low word
fixed_over low [] h = tt
fixed_over low (b ∷ word) h = let p = and_parts (ltb low b) (list_all (λ b. ltb low b) word) h in (ltb-true low b p.0, fixed_over low word p.1)

pub over-append : (low : ℕ) (xs ys : List ℕ) → IsOver low xs → IsOver low ys → IsOver low (xs ++ ys)
over-append low [] ys p q = q
over-append low (x ∷ xs) ys p q = (p.0, over-append low xs ys p.1 q)

pub over-less : (low high : ℕ) (xs : List ℕ) → low ≤ high → IsOver high xs → IsOver low xs
over-less low high [] le h = tt
over-less low high (x ∷ xs) le h = let lt : high < x = h.0 in ((omega (arith, le, lt)), over-less low high xs le h.1)

digits_over : (ds : List ℕ) → list_all is_digit ds ≡ true → IsOver 46 ds
digits_over [] h = tt
digits_over (d ∷ ds) h =
    let p = and_parts (is_digit d) (list_all is_digit ds) h in
    let q = and_parts (leb 48 d) (leb d 57) p.0 in
    ((let low : 48 ≤ d = leb-true 48 d q.0 in omega (arith, low)), digits_over ds p.1)

pub decimal_over : (n : ℕ) → n < 2 ^ 64 → IsOver 46 (decimal n)
decimal_over n lt = digits_over (decimal n) (Writes-decimal n lt).digits

-- the value of a byte below the digits
no_value : (c v : ℕ) → c < 47 → hex_digit_value c ≡ Some v → ⊥
no_value c v lt h =
    let e : leb 65 c ≡ false = lt-leb 65 c (omega (arith, lt)) in
    let f : leb 97 c ≡ false = lt-leb 97 c (omega (arith, lt)) in
    let g : leb 48 c ≡ false = lt-leb 48 c (omega (arith, lt)) in
    let none : hex_digit_value c ≡ None = rw (e, f, g) refl in
    let no : None ≡ Some v = sym none ∙ h in
    cc

hex_digit_over : (d : ℕ) → d < 16 → 46 < slice_index lower_digits d
hex_digit_over d lt = elim (cases_lt (slice_index lower_digits d) 47) [
  | inl low ↦ absurd (no_value (slice_index lower_digits d) d low (IsDigits-lower_digits d lt))
  | inr high ↦ omega (arith, high)
]

pub hex_over : (bytes : List ℕ) → IsBytes bytes → IsOver 46 (encode_lower bytes)
unfolding encode_with
hex_over [] h = tt
hex_over (b ∷ rest) h =
    let fits : b < 256 = h 0 in
    let high : b / 16 < 16 = omega (arith, fits) in
    let low : b % 16 < 16 = omega arith in
    (hex_digit_over (b / 16) high, (hex_digit_over (b % 16) low, hex_over rest (λ k. h (suc k))))

not_cut : (byte : ℕ) (xs : List ℕ) → IsOver byte xs → AllByRecursion (λ b. eqb b byte ≡ false) xs
not_cut byte [] h = tt
not_cut byte (x ∷ xs) h = let lt : byte < x = h.0 in (ne_eqb x byte (λ e. omega (arith, lt, e)), not_cut byte xs h.1)

pub none_inside : (byte : ℕ) (xs : List ℕ) → IsOver byte xs → All (λ b. eqb b byte ≡ false) xs
none_inside byte xs h = All-from_recursion (λ b. eqb b byte ≡ false) xs (not_cut byte xs h)

pub first_cut : (byte : ℕ) (x rest : List ℕ) → IsOver byte x → slice_split (λ b. eqb b byte) (x ++ byte ∷ rest) ≡ x ∷ slice_split (λ b. eqb b byte) rest
first_cut byte x rest h = slice_split_at (λ b. eqb b byte) x byte rest (none_inside byte x h) (eq-eqb byte byte refl)

pub two_again : (byte : ℕ) (x y : List ℕ) → IsOver byte x → IsOver byte y → slice_split (λ b. eqb b byte) (join_with_byte byte (x ∷ y ∷ [])) ≡ x ∷ y ∷ []
two_again byte x y p q = first_cut byte x y p ∙ ap (λ (ps : List (List ℕ)). x ∷ ps) (slice_split_none (λ b. eqb b byte) y (none_inside byte y q))

pub three_again : (byte : ℕ) (x y z : List ℕ) → IsOver byte x → IsOver byte y → IsOver byte z → slice_split (λ b. eqb b byte) (join_with_byte byte (x ∷ y ∷ z ∷ [])) ≡ x ∷ y ∷ z ∷ []
three_again byte x y z p q r = first_cut byte x (join_with_byte byte (y ∷ z ∷ [])) p ∙ ap (λ (ps : List (List ℕ)). x ∷ ps) (two_again byte y z q r)

-- parts that are the same, one by one
pub record TwoSame (x y u v : List ℕ) : Type 0 where
  pub first : x ≡ u
  pub second : y ≡ v

pub two_same : (x y u v : List ℕ) → ◌≡◌ {A = List (List ℕ)} (x ∷ y ∷ []) (u ∷ v ∷ []) → TwoSame x y u v
two_same x y u v h = record { first = cc; second = cc }

pub record ThreeSame (x y z u v w : List ℕ) : Type 0 where
  pub first : x ≡ u
  pub second : y ≡ v
  pub third : z ≡ w

pub three_same : (x y z u v w : List ℕ) → ◌≡◌ {A = List (List ℕ)} (x ∷ y ∷ z ∷ []) (u ∷ v ∷ w ∷ []) → ThreeSame x y z u v w
three_same x y z u v w h = record { first = cc; second = cc; third = cc }
