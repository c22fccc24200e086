-- Digits that are read up to where their word ends, and the whole word that they are.
use Rattle.std.proofs.Common.{◌≡◌, ℕ, suc, ◌+◌, ◌-◌, ◌*◌, ◌^◌, ◌<◌, ◌≤◌, Bool, true, false, leb, List, [], ◌∷◌, ◌++◌, length, get_or, take, drop, Some, None, refl, sym, ap, subst, ◌∙◌, arith, add-one, inl, inr}
use Rattle.std.specs.Prelude.{Result, Ok, Err, ℤ}
use Rattle.std.proofs.Math.Bool.{and-false}
use Rattle.std.proofs.Math.Nat.{pow-suc}
use Rattle.std.proofs.Math.Seq.{take-suc}
use Rattle.std.specs.List.{list_all, prefix_len, position_or_len}
use Rattle.std.proofs.lemmas.Bool.{cases_Bool, and_parts, eqb-true, le-leb, leb-true}
use Rattle.std.proofs.lemmas.Bool.Decides.{nat_tests}
use Rattle.std.proofs.lemmas.List.{length-take-le, get_or-take}
use Rattle.std.proofs.lemmas.List.Sums.{position_or_len_is}
use borrow.Author.Count.{below_more}
use Rattle.line_text.specs.declared.fault.TextWhy.{TextWhy}
use Rattle.line_text.specs.Faults.{◌>>=◌}
use Rattle.line_text.specs.Fields.{Takes, number_at, number_from, signed_at, number_up_to}
use Rattle.line_text.specs.Fronts.{IsWhole}
use Rattle.line_text.specs.Numbers.{number, number_after, number_within, is_digit, begins_with}
use Rattle.line_text.specs.Texts.{is_blank, words_of}
use Rattle.line_text.proofs.Digits.{pow_le, list_all-append}
use Rattle.line_text.proofs.WordCuts.{word}

number_after-push : (m d : ℕ) (xs : List ℕ) → number_after m (xs ++ (d ∷ [])) ≡ 10 * number_after m xs + (d - 48)
number_after-push m d [] = refl
number_after-push m d (x ∷ xs) = number_after-push (10 * m + (x - 48)) d xs

-- what the first i bytes of a text give, which are digits
pub record FrontSoFar (text : List ℕ) (i n : ℕ) : Type 0 where
  pub within : i ≤ length text
  pub few : i ≤ 10
  pub digits : list_all is_digit (take i text) ≡ true
  pub value : number (take i text) ≡ n
  pub below : n < 10 ^ i
  pub inside : (k : ℕ) → k < i → is_blank (get_or text k 0) ≡ false

one_digit : (b : ℕ) → 48 ≤ b → b ≤ 57 → list_all is_digit (b ∷ []) ≡ true
one_digit b low high = grind (arith, nat_tests)

digit_no_blank : (b : ℕ) → 48 ≤ b → b ≤ 57 → is_blank b ≡ false
digit_no_blank b low high = grind (arith, nat_tests)

pub FrontSoFar-more : (text : List ℕ) (i n b : ℕ) → i < length text → b ≡ get_or text i 0 → 48 ≤ b → b ≤ 57 → i < 10 → FrontSoFar text i n → FrontSoFar text (i + 1) (10 * n + (b - 48))
FrontSoFar-more text i n b lt is low high few h =
    let cut : take (i + 1) text ≡ take i text ++ (b ∷ []) = rw (add-one, is) (take-suc text i 0 lt) in
    let here : is_blank (get_or text i 0) ≡ false = rw (← is) (digit_no_blank b low high) in
    record {
      within = omega arith;
      few = omega arith;
      digits = rw cut (list_all-append (take i text) (b ∷ []) h.digits (one_digit b low high));
      value = rw cut (number_after-push 0 b (take i text) ∙ ap (λ m. 10 * m + (b - 48)) h.value);
      below = let e : 10 ^ (i + 1) ≡ 10 ^ i * 10 = rw (add-one, pow-suc) in omega (arith, h.below);
      inside = below_more (λ k. is_blank (get_or text k 0) ≡ false) i h.inside here;
    }

pub FrontSoFar-room : (text : List ℕ) (i n : ℕ) → FrontSoFar text i n → n < 10 ^ 10
FrontSoFar-room text i n h = let p : 10 ^ i ≤ 10 ^ 10 = pow_le 10 i 10 h.few (omega arith) in omega (arith, p, h.below)

pub no_front : (text : List ℕ) → FrontSoFar text 0 0
no_front text = record { within = omega arith; few = omega arith; digits = refl; value = refl; below = omega arith; inside = λ k lt. absurd (omega arith) }

-- all of the text
pub FrontSoFar-whole : (text : List ℕ) (i n : ℕ) → length text ≤ i → FrontSoFar text i n → FrontSoFar text (length text) n
FrontSoFar-whole text i n le h = let e : i ≡ length text = omega (arith, h.within) in subst (λ k. FrontSoFar text k n) e h

pub FrontSoFar-within : (text : List ℕ) (i n : ℕ) → 0 < i → FrontSoFar text i n → number_within 10 (take i text) ≡ Some n
FrontSoFar-within text i n some h =
    let len : length (take i text) ≡ i = length-take-le i text h.within in
    let low : leb 1 i ≡ true = le-leb _ _ some in
    let high : leb i 10 ≡ true = le-leb _ _ h.few in
    rw (len, low, high, h.digits, h.value) refl

pub FrontSoFar-ends : (text : List ℕ) (i n : ℕ) → (i < length text → is_blank (get_or text i 0) ≡ true) → FrontSoFar text i n → i ≡ position_or_len is_blank text
FrontSoFar-ends text i n blank h = sym (position_or_len_is is_blank text i 0 h.within (λ k lt. h.inside k lt) blank)

-- ---- the whole word

-- a number of digits has some, and the first is one
record HasDigits (ds : List ℕ) : Type 0 where
  some : 0 < length ds
  low : 48 ≤ get_or ds 0 0

first_digit : (ds : List ℕ) → 0 < length ds → list_all is_digit ds ≡ true → 48 ≤ get_or ds 0 0
first_digit [] some h = absurd (omega arith)
first_digit (d ∷ ds) some h =
    let p = and_parts (is_digit d) (list_all is_digit ds) h in
    let q = and_parts (leb 48 d) (leb d 57) p.0 in
    leb-true _ _ q.0

pub no_digits : (most : ℕ) (ds : List ℕ) → list_all is_digit ds ≡ false → number_within most ds ≡ None
no_digits most ds f = rw (f, and-false) refl

within_digits : (most n : ℕ) (ds : List ℕ) → number_within most ds ≡ Some n → HasDigits ds
within_digits most n ds h = elim (cases_Bool (leb 1 (length ds))) [
  | inr e ↦ absurd (let none : number_within most ds ≡ None = rw e refl in let no : ⊥ = cc in no)
  | inl e ↦ elim (cases_Bool (list_all is_digit ds)) [
    | inr f ↦ absurd (let none : number_within most ds ≡ None = no_digits most ds f in let no : ⊥ = cc in no)
    | inl f ↦ let some : 0 < length ds = leb-true _ _ e in record { some = some; low = first_digit ds some f }
  ]
]

minus_word : (from digits : List ℕ) → begins_with 45 from ≡ true → digits ≡ drop 1 from → from ≡ 45 ∷ digits
minus_word [] digits h e = absurd (let no : ⊥ = cc in no)
minus_word (b ∷ from) digits h e = let is : b ≡ 45 = eqb-true _ _ h in cc

-- m blanks stand before the first word
module _ (line from : List ℕ) (m : ℕ) (blanks : m ≡ prefix_len is_blank line) (behind : from ≡ drop m line) where
  pub plain_front : (n size : ℕ) (rest : List ℕ) → begins_with 45 from ≡ false → n ≡ position_or_len is_blank from → n ≤ length from → number_within 10 (take n from) ≡ Some size → rest ≡ drop n from → IsWhole (words_of line) (false, size) (words_of rest)
  plain_front n size rest no_sign ends le is rest-is =
      let h = within_digits 10 size (take n from) is in
      let some : 0 < n = omega (arith, h.some, length-take-le n from le) in
      let same : get_or (take n from) 0 0 ≡ get_or from 0 0 = get_or-take n from 0 0 some in
      let low : 48 ≤ get_or from 0 0 = omega (arith, same, h.low) in
      let sign : begins_with 45 (take n from) ≡ false = rw same no_sign in
      record {
        word = take n from;
        first = rw rest-is (word line from m n blanks behind ends le (omega arith) (λ e. absurd (omega (arith, low, e))));
        whole = rw (sign, is) refl;
      }

  pub minus_front : (digits : List ℕ) (n size : ℕ) (rest : List ℕ) → begins_with 45 from ≡ true → digits ≡ drop 1 from → n ≡ position_or_len is_blank digits → n ≤ length digits → number_within 10 (take n digits) ≡ Some size → rest ≡ drop n digits → IsWhole (words_of line) (true, size) (words_of rest)
  minus_front digits n size rest sign after ends le is rest-is =
      let e : from ≡ 45 ∷ digits = minus_word from digits sign after in
      let ends_too : suc n ≡ position_or_len is_blank (45 ∷ digits) = omega (arith, ends) in
      record {
        word = 45 ∷ take n digits;
        first = rw rest-is (word line (45 ∷ digits) m (suc n) blanks (sym e ∙ behind) ends_too (omega arith) (omega arith) (λ f. absurd (omega (arith, f))));
        whole = rw is refl;
      }

-- ---- what readers take

takes_bound : {X : Type 0} (left : List (List ℕ)) (r : Result X TextWhy) → Takes left r (r >>= λ n. Ok (n, left))
takes_bound left (Ok x) = refl
takes_bound left (Err why) = refl

pub number_takes : (low high : ℕ) (words left : List (List ℕ)) (parts : Bool × ℕ) (r : Result ℕ TextWhy) → IsWhole words parts left → r ≡ number_from low high (Some parts) → Takes left r (number_at low high words)
unfolding number_at
number_takes low high words left parts r h e = rw (h.first, h.whole, ← e) (takes_bound left r)

pub signed_takes : (most : ℕ) (words left : List (List ℕ)) (parts : Bool × ℕ) (r : Result ℤ TextWhy) → IsWhole words parts left → r ≡ number_up_to most (Some parts) → Takes left r (signed_at most words)
unfolding signed_at
signed_takes most words left parts r h e = rw (h.first, h.whole, ← e) (takes_bound left r)
