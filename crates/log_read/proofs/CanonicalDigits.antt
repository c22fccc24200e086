-- Digits with no needless zero in front are the decimal digits of their number.
use Rattle.std.proofs.Common.{◌≡◌, ℕ, zero, suc, ◌+◌, ◌-◌, ◌*◌, ◌/◌, ◌%◌, ◌^◌, ◌<◌, ◌≤◌, ◌&&◌, Bool, true, false, eqb, leb, ltb, List, [], ◌∷◌, ◌++◌, length, get_or, drop, Option, Some, None, ℤ, pos, negsuc, refl, sym, ap, subst, ◌∙◌, arith, inl, inr}
use Rattle.std.specs.Prelude.{decimal, if◌then◌else◌, option_map, unsigned_abs}
use Rattle.std.specs.Fmt.{signed_decimal}
use Rattle.std.specs.List.{list_all}
use Rattle.std.proofs.lemmas.Bool.{and_parts, and_from, leb-true, lt-ltb, ne_eqb, eqb-true, eq-eqb, cases_Bool}
use Rattle.std.proofs.lemmas.Fmt.{decimal_by_steps_wide}
use Rattle.std.proofs.lemmas.List.{length-append}
use Rattle.line_text.specs.Numbers.{number, number_after, number_within, is_digit, begins_with, with_sign}
use Rattle.line_text.specs.Spellings.{spelled_number, spelled_parts, negated_size}
use Rattle.line_text.proofs.Rounding.{number_after-append}
use Rattle.line_text.proofs.Decimals.{Writes-decimal_wide, number_within-decimal_wide, no_zero_wide}
use Rattle.line_text.proofs.ReadSteps.{some_same, by_test}

record Canonical (word : List ℕ) : Type 0 where
  digits : list_all is_digit word ≡ true
  some : 0 < length word
  front : 1 < length word → 48 < get_or word 0 0

after-ge : (n : ℕ) (ds : List ℕ) → n ≤ number_after n ds
after-ge n [] = omega arith
after-ge n (d ∷ ds) = omega (arith, after-ge (10 * n + (d - 48)) ds)

digit_range : (d : ℕ) → is_digit d ≡ true → (48 ≤ d) × (d ≤ 57)
digit_range d h = let q = and_parts (leb 48 d) (leb d 57) h in (leb-true 48 d q.0, leb-true d 57 q.1)

first_digit : (d : ℕ) (ds : List ℕ) → list_all is_digit (d ∷ ds) ≡ true → (48 ≤ d) × (d ≤ 57)
first_digit d ds h = digit_range d (and_parts (is_digit d) (list_all is_digit ds) h).0

-- ---- the last digit

record EndsWith (word : List ℕ) : Type 0 where
  init : List ℕ
  last : ℕ
  parts : word ≡ init ++ last ∷ []

ends_with : (d : ℕ) (ds : List ℕ) → EndsWith (d ∷ ds)
ends_with d [] = record { init = []; last = d; parts = refl }
ends_with d (e ∷ ds) = let r = ends_with e ds in record { init = d ∷ r.init; last = r.last; parts = ap (λ (t : List ℕ). d ∷ t) r.parts }

digits_of_append : (xs : List ℕ) (y : ℕ) → list_all is_digit (xs ++ y ∷ []) ≡ true → (list_all is_digit xs ≡ true) × (is_digit y ≡ true)
digits_of_append [] y h = (refl, (and_parts (is_digit y) true h).0)
digits_of_append (x ∷ xs) y h =
    let p = and_parts (is_digit x) (list_all is_digit (xs ++ y ∷ [])) h in
    let q = digits_of_append xs y p.1 in
    (and_from (is_digit x) (list_all is_digit xs) p.0 q.0, q.1)

front_of_append : (xs ys : List ℕ) → 0 < length xs → get_or (xs ++ ys) 0 0 ≡ get_or xs 0 0
front_of_append [] ys h = absurd (omega arith)
front_of_append (x ∷ xs) ys h = refl

-- ---- the digits of a number are its decimal digits

abbrev Is : ℕ → List ℕ → Type 0
Is n ds = (word : List ℕ) → Canonical word → number word ≡ n → word ≡ ds

one_digit : (n : ℕ) → n < 10 → Is n ((48 + n) ∷ [])
one_digit n lt [] c e = absurd (omega (arith, c.some))
one_digit n lt (d ∷ []) c e =
    let r = first_digit d [] c.digits in
    ap (λ (b : ℕ). b ∷ []) (let same : d ≡ 48 + n = omega (arith, r.0, e) in same)
one_digit n lt (d ∷ b ∷ ds) c e =
    let high : 48 < d = c.front (omega arith) in
    let grows : 10 * (10 * 0 + (d - 48)) + (b - 48) ≤ number (d ∷ b ∷ ds) = after-ge (10 * (10 * 0 + (d - 48)) + (b - 48)) ds in
    absurd (omega (arith, high, grows, e))

more_digits : (n : ℕ) (ds : List ℕ) → 10 ≤ n → Is (n / 10) ds → Is n (ds ++ ((48 + n % 10) ∷ []))
more_digits n ds le h [] c e = absurd (omega (arith, c.some))
more_digits n ds le h (d ∷ rest) c e =
    let s = ends_with d rest in
    let split : list_all is_digit (s.init ++ s.last ∷ []) ≡ true = sym (ap (list_all is_digit) s.parts) ∙ c.digits in
    let q = digits_of_append s.init s.last split in
    let r = digit_range s.last q.1 in
    let value : number (s.init ++ s.last ∷ []) ≡ 10 * number s.init + (s.last - 48) = number_after-append 0 s.init (s.last ∷ []) in
    let is : n ≡ 10 * number s.init + (s.last - 48) = sym e ∙ ap number s.parts ∙ value in
    let long : length (d ∷ rest) ≡ length s.init + 1 = ap length s.parts ∙ length-append s.init (s.last ∷ []) in
    let some : 0 < length s.init = some_init s.init (λ z. let none : number s.init ≡ 0 = ap number z in omega (arith, none, is, r.1, le)) in
    let front : 48 < get_or s.init 0 0 = (let f : 48 < get_or (d ∷ rest) 0 0 = c.front (omega (arith, long, some)) in let g : get_or (d ∷ rest) 0 0 ≡ get_or s.init 0 0 = ap (λ (w : List ℕ). get_or w 0 0) s.parts ∙ front_of_append s.init (s.last ∷ []) some in omega (arith, f, g)) in
    let tenth : number s.init ≡ n / 10 = omega (arith, is, r.0, r.1) in
    let same : s.init ≡ ds = h s.init (record { digits = q.0; some = some; front = λ _. front }) tenth in
    let last_is : s.last ≡ 48 + n % 10 = omega (arith, is, r.0, r.1) in
    s.parts ∙ ap (λ (t : List ℕ). t ++ s.last ∷ []) same ∙ ap (λ (b : ℕ). ds ++ b ∷ []) last_is
  where
    some_init : (xs : List ℕ) → (xs ≡ [] → ⊥) → 0 < length xs
    some_init [] f = absurd (f refl)
    some_init (x ∷ xs) f = omega arith

digits_are_decimal : (word : List ℕ) → Canonical word → number word < 10 ^ 64 → word ≡ decimal (number word)
digits_are_decimal word c lt = decimal_by_steps_wide Is one_digit more_digits (number word) lt word c refl

if_none : (t : Bool) (o : Option ℕ) (n : ℕ) → ◌≡◌ {A = Option ℕ} (if t then None else o) (Some n) → (t ≡ false) × (o ≡ Some n)
if_none true o n h = absurd (let no : ⊥ = cc in no)
if_none false o n h = (refl, h)

if_some : (t : Bool) (m n : ℕ) → ◌≡◌ {A = Option ℕ} (if t then Some m else None) (Some n) → (t ≡ true) × (m ≡ n)
if_some true m n h = (refl, cc)
if_some false m n h = absurd (let no : ⊥ = cc in no)

no_zero_front : (word : List ℕ) → list_all is_digit word ≡ true → (begins_with 48 word && ltb 1 (length word)) ≡ false → 1 < length word → 48 < get_or word 0 0
no_zero_front [] h t lt = absurd (omega arith)
no_zero_front (d ∷ ds) h t lt = elim (cases_Bool (eqb d 48)) [
  | inl e ↦ absurd (let f : (eqb d 48 && ltb 1 (length (d ∷ ds))) ≡ true = and_from (eqb d 48) (ltb 1 (length (d ∷ ds))) e (lt-ltb 1 (length (d ∷ ds)) lt) in let no : true ≡ false = sym f ∙ t in (let bad : ⊥ = cc in bad))
  | inr e ↦ (let r = first_digit d ds h in let other : d ≡ 48 → ⊥ = (λ s. let f : true ≡ false = sym (eq-eqb d 48 s) ∙ e in (let bad : ⊥ = cc in bad)) in omega (arith, r.0, other))
]

-- a word that spells a number is its decimal digits
pub spelled_number-some_wide : (word : List ℕ) (n : ℕ) → n < 10 ^ 64 → spelled_number word ≡ Some n → word ≡ decimal n
spelled_number-some_wide word n lt h =
    let p = if_none (begins_with 48 word && ltb 1 (length word)) (number_within 38 word) n h in
    let q = if_some (leb 1 (length word) && leb (length word) 38 && list_all is_digit word) (number word) n p.1 in
    let r = and_parts (leb 1 (length word) && leb (length word) 38) (list_all is_digit word) q.0 in
    let s = and_parts (leb 1 (length word)) (leb (length word) 38) r.0 in
    let some : 0 < length word = (let le : 1 ≤ length word = leb-true 1 (length word) s.0 in omega (arith, le)) in
    let c : Canonical word = record { digits = r.1; some = some; front = no_zero_front word r.1 p.0 } in
    digits_are_decimal word c (omega (arith, q.1, lt)) ∙ ap decimal q.1

pub spelled_number-some : (word : List ℕ) (n : ℕ) → n < 2 ^ 64 → spelled_number word ≡ Some n → word ≡ decimal n
spelled_number-some word n lt h = spelled_number-some_wide word n (omega (arith, lt)) h

pub spelled_number-decimal_wide : (n : ℕ) → n < 10 ^ 38 → spelled_number (decimal n) ≡ Some n
spelled_number-decimal_wide n lt =
    let wide : n < 10 ^ 64 = omega (arith, lt) in
    rw (no_zero_wide n wide, number_within-decimal_wide 38 n (omega arith) lt wide) refl

pub spelled_number-decimal : (n : ℕ) → n < 2 ^ 64 → spelled_number (decimal n) ≡ Some n
spelled_number-decimal n lt = spelled_number-decimal_wide n (omega (arith, lt))

-- ---- signed numbers

not_minus : (word : List ℕ) → list_all is_digit word ≡ true → begins_with 45 word ≡ false
not_minus [] h = refl
not_minus (d ∷ ds) h = let r = first_digit d ds h in ne_eqb d 45 (omega (arith, r.0))

-- whether a number is negative
abbrev pub sign_of : ℤ → Bool
sign_of (pos n) = false
sign_of (negsuc n) = true

pub spelled_parts-decimal : (z : ℤ) → unsigned_abs z < 10 ^ 38 → spelled_parts (signed_decimal z) ≡ Some (sign_of z, unsigned_abs z)
spelled_parts-decimal (pos n) lt =
    let small : n < 10 ^ 38 = lt in
    rw (not_minus (decimal n) (Writes-decimal_wide n (omega (arith, small))).digits, spelled_number-decimal_wide n small) refl
spelled_parts-decimal (negsuc n) lt =
    let small : suc n < 10 ^ 38 = lt in
    let some : eqb (suc n) 0 ≡ false = ne_eqb (suc n) 0 (omega arith) in
    rw (spelled_number-decimal_wide (suc n) small, some) refl

negated-some : (o : Option ℕ) (p : Bool × ℕ) → negated_size o ≡ Some p → (o ≡ Some p.1) × (p.0 ≡ true) × (p.1 ≡ 0 → ⊥)
negated-some None p h = absurd (let no : ⊥ = cc in no)
negated-some (Some n) p h = elim (cases_Bool (eqb n 0)) [
  | inl e ↦ absurd (let f : ◌≡◌ {A = Option (Bool × ℕ)} None (Some p) = sym (ap (λ (t : Bool). if t then None else Some (true, n)) e) ∙ h in (let no : ⊥ = cc in no))
  | inr e ↦ (
      let f : ◌≡◌ {A = Option (Bool × ℕ)} (Some (true, n)) (Some p) = sym (ap (λ (t : Bool). if t then None else Some (true, n)) e) ∙ h in
      let g : ◌≡◌ {A = Bool × ℕ} (true, n) p = some_same (true, n) p f in
      let P : Bool × ℕ → Type 0 = λ q. (◌≡◌ {A = Option ℕ} (Some n) (Some q.1)) × (q.0 ≡ true) × (q.1 ≡ 0 → ⊥) in
      subst P g (refl, refl, λ z. let b : false ≡ true = sym e ∙ eq-eqb n 0 z in (let no : ⊥ = cc in no)))
]

mapped-some : (o : Option ℕ) (p : Bool × ℕ) → option_map (λ n. (false, n)) o ≡ Some p → (o ≡ Some p.1) × (p.0 ≡ false)
mapped-some None p h = absurd (let no : ⊥ = cc in no)
mapped-some (Some n) p h =
    let g : ◌≡◌ {A = Bool × ℕ} (false, n) p = some_same (false, n) p h in
    let P : Bool × ℕ → Type 0 = λ q. (◌≡◌ {A = Option ℕ} (Some n) (Some q.1)) × (q.0 ≡ false) in
    subst P g (refl, refl)

minus_front : (word : List ℕ) → begins_with 45 word ≡ true → word ≡ 45 ∷ drop 1 word
minus_front [] h = absurd (let e : 0 ≡ 45 = eqb-true 0 45 h in omega (arith, e))
minus_front (b ∷ word) h = ap (λ (c : ℕ). c ∷ word) (eqb-true b 45 h)

signed_digits : (n : ℕ) → (n ≡ 0 → ⊥) → signed_decimal (with_sign true n) ≡ 45 ∷ decimal n
signed_digits zero f = absurd (f refl)
signed_digits (suc n) f = refl

-- a word that spells a sign and a size is the decimal text of the number
pub spelled_parts-some : (word : List ℕ) (p : Bool × ℕ) → p.1 < 10 ^ 64 → spelled_parts word ≡ Some p → word ≡ signed_decimal (with_sign p.0 p.1)
spelled_parts-some word p lt h = by_test (begins_with 45 word) (negated_size (spelled_number (drop 1 word))) (option_map (λ n. (false, n)) (spelled_number word)) (Some p)
    (λ t e.
    let q = negated-some (spelled_number (drop 1 word)) p e in
    minus_front word t ∙ ap (λ (w : List ℕ). 45 ∷ w) (spelled_number-some_wide (drop 1 word) p.1 lt q.0) ∙ sym (signed_digits p.1 q.2) ∙ ap (λ (b : Bool). signed_decimal (with_sign b p.1)) (sym q.1))
    (λ t e.
    let q = mapped-some (spelled_number word) p e in
    spelled_number-some_wide word p.1 lt q.0 ∙ ap (λ (b : Bool). signed_decimal (with_sign b p.1)) (sym q.1))
    h
