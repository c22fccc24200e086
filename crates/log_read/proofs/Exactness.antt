-- Readers that read exactly what is written.
use Rattle.std.proofs.Common.{◌≡◌, ℕ, zero, suc, ◌<◌, ◌≤◌, ◌^◌, Bool, true, false, leb, ltb, ◌&&◌, List, [], ◌∷◌, ◌++◌, length, Option, Some, None, Result, Ok, Err, ℤ, pos, negsuc, refl, sym, ap, subst, ◌∙◌, arith, append_assoc}
use Rattle.std.specs.Prelude.{decimal, if◌then◌else◌, unsigned_abs}
use Rattle.std.specs.Fmt.{signed_decimal}
use Rattle.std.proofs.lemmas.Bool.{le-leb, leb-true, and_parts, le-ltb, ltb-false}
use Rattle.std.proofs.lemmas.List.{append-nil, length-append}
use Rattle.line_text.specs.declared.TextWhy.{TextWhy}
use Rattle.line_text.specs.declared.TextWhy.TheVariants.{Number, Short, Long}
use Rattle.line_text.specs.Faults.{◌>>=◌}
use Rattle.line_text.specs.Numbers.{with_sign}
use Rattle.line_text.specs.Spellings.{spelled_number, spelled_parts, spelled_from, spelled_up_to, spelled_at, spelled_signed_at, count_with_end}
use Rattle.log_read.specs.Fields.{Reader, or_number, in_turn}
use Rattle.log_read.specs.Values.{whole}
use Rattle.line_text.proofs.ReadSteps.{ok_same, bound, by_test, fault_value}
use Rattle.log_read.proofs.CanonicalDigits.{sign_of, spelled_number-some, spelled_number-decimal, spelled_parts-some, spelled_parts-decimal}

-- ---- words that spell a number

spelled_from-some : (low high n : ℕ) (o : Option ℕ) → spelled_from low high o ≡ Ok n → (o ≡ Some n) × (low ≤ n) × (n ≤ high)
spelled_from-some low high n None h = fault_value Number n h
spelled_from-some low high n (Some m) h = by_test (leb low m && leb m high) (Ok m) (Err Number) (Ok n)
    (λ t e.
    let q = and_parts (leb low m) (leb m high) t in
    let P : ℕ → Type 0 = λ k. (◌≡◌ {A = Option ℕ} (Some m) (Some k)) × (low ≤ k) × (k ≤ high) in
    subst P (ok_same m n e) (refl, leb-true low m q.0, leb-true m high q.1))
    (λ t e. fault_value Number n e)
    h

pub word_number-some : (low high n : ℕ) (word : List ℕ) → high < 2 ^ 64 → spelled_from low high (spelled_number word) ≡ Ok n → (word ≡ decimal n) × (low ≤ n) × (n ≤ high)
word_number-some low high n word small h = let s = spelled_from-some low high n (spelled_number word) h in (spelled_number-some word n (omega (arith, s.2, small)) s.0, s.1, s.2)

in_range : (low high n : ℕ) → low ≤ n → n ≤ high → spelled_from low high (Some n) ≡ Ok n
in_range low high n above below = rw (le-leb low n above, le-leb n high below) refl

pub word_number-decimal : (low high n : ℕ) → low ≤ n → n ≤ high → high < 2 ^ 64 → spelled_from low high (spelled_number (decimal n)) ≡ Ok n
word_number-decimal low high n above below small = ap (spelled_from low high) (spelled_number-decimal n (omega (arith, below, small))) ∙ in_range low high n above below

pub or_number-some : {A : Type 0} (o : Option A) (a : A) → or_number o ≡ Ok a → o ≡ Some a
or_number-some None a h = fault_value Number a h
or_number-some (Some b) a h = ap Some (ok_same b a h)

-- ---- readers

-- reading gives a value exactly where its words stand in front and it is in range
pub record IsExact {A : Type 0} (read : Reader A) (words_of : A → List (List ℕ)) (InRange : A → Type 0) : Type 0 where
  pub of_written : (a : A) (words : List (List ℕ)) → InRange a → read (words_of a ++ words) ≡ Ok (a, words)
  pub of_read : (words : List (List ℕ)) (a : A) (rest : List (List ℕ)) → read words ≡ Ok (a, rest) → (words ≡ words_of a ++ rest) × InRange a

spelled_at-of_read : (low high : ℕ) → high < 2 ^ 64 → (words : List (List ℕ)) (n : ℕ) (rest : List (List ℕ)) → spelled_at low high words ≡ Ok (n, rest) → (words ≡ decimal n ∷ rest) × ((low ≤ n) × (n ≤ high))
unfolding spelled_at
spelled_at-of_read low high small [] n rest h = absurd (let no : ⊥ = cc in no)
spelled_at-of_read low high small (word ∷ words) n rest h =
    let b = bound (spelled_from low high (spelled_number word)) (λ (m : ℕ). Ok (m, words)) (n, rest) h in
    let e : ◌≡◌ {A = ℕ × List (List ℕ)} (b.value, words) (n, rest) = ok_same (b.value, words) (n, rest) b.after in
    let s = word_number-some low high b.value word small b.first in
    let P : ℕ × List (List ℕ) → Type 0 = λ r. (word ∷ words ≡ decimal r.0 ∷ r.1) × ((low ≤ r.0) × (r.0 ≤ high)) in
    subst P e (ap (λ w. w ∷ words) s.0, (s.1, s.2))

spelled_at-of_written : (low high : ℕ) → high < 2 ^ 64 → (n : ℕ) (words : List (List ℕ)) → (low ≤ n) × (n ≤ high) → spelled_at low high (decimal n ∷ words) ≡ Ok (n, words)
unfolding spelled_at
spelled_at-of_written low high small n words r = ap (λ (found : Result ℕ TextWhy). found >>= λ n. Ok (n, words)) (word_number-decimal low high n r.0 r.1 small)

pub spelled_at-exact : (low high : ℕ) → high < 2 ^ 64 → IsExact (spelled_at low high) (λ n. decimal n ∷ []) (λ n. (low ≤ n) × (n ≤ high))
spelled_at-exact low high small = record { of_written = spelled_at-of_written low high small; of_read = spelled_at-of_read low high small }

module _ {A B : Type 0} (first : Reader A) (second : A → Reader B) (wa : A → List (List ℕ)) (wb : A → B → List (List ℕ)) (R : A → Type 0) (S : A → B → Type 0) (f : IsExact first wa R) (g : (a : A) → IsExact (second a) (wb a) (S a)) where
  in_turn-of_written : (p : A × B) (words : List (List ℕ)) → R p.0 × S p.0 p.1 → in_turn first second ((wa p.0 ++ wb p.0 p.1) ++ words) ≡ Ok (p, words)
  in_turn-of_written p words r = rw (append_assoc, f.of_written p.0 (wb p.0 p.1 ++ words) r.0, (g p.0).of_written p.1 words r.1) refl

  in_turn-of_read : (words : List (List ℕ)) (p : A × B) (rest : List (List ℕ)) → in_turn first second words ≡ Ok (p, rest) → (words ≡ (wa p.0 ++ wb p.0 p.1) ++ rest) × (R p.0 × S p.0 p.1)
  in_turn-of_read words p rest h =
      let x = bound (first words) (λ (a : A × List (List ℕ)). second a.0 a.1 >>= λ b. Ok ((a.0, b.0), b.1)) (p, rest) h in
      let y = bound (second x.value.0 x.value.1) (λ (b : B × List (List ℕ)). Ok ((x.value.0, b.0), b.1)) (p, rest) x.after in
      let e : ◌≡◌ {A = (A × B) × List (List ℕ)} ((x.value.0, y.value.0), y.value.1) (p, rest) = ok_same ((x.value.0, y.value.0), y.value.1) (p, rest) y.after in
      let fb = f.of_read words x.value.0 x.value.1 x.first in
      let sb = (g x.value.0).of_read x.value.1 y.value.0 y.value.1 y.first in
      let P : (A × B) × List (List ℕ) → Type 0 = λ q. (words ≡ (wa q.0.0 ++ wb q.0.0 q.0.1) ++ q.1) × (R q.0.0 × S q.0.0 q.0.1) in
      subst P e (fb.0 ∙ ap (λ (t : List (List ℕ)). wa x.value.0 ++ t) sb.0 ∙ sym (append_assoc (wa x.value.0) (wb x.value.0 y.value.0) y.value.1), (fb.1, sb.1))

  pub in_turn-exact : IsExact (in_turn first second) (λ p. wa p.0 ++ wb p.0 p.1) (λ p. R p.0 × S p.0 p.1)
  in_turn-exact = record { of_written = in_turn-of_written; of_read = in_turn-of_read }

-- values that are made of what was read
module _ {A B : Type 0} (read : Reader A) (wa : A → List (List ℕ)) (R : A → Type 0) (wb : B → List (List ℕ)) (S : B → Type 0) (make : A → B) (parts : B → A) (f : IsExact read wa R) (made : (a : A) → R a → (wb (make a) ≡ wa a) × S (make a)) (again : (b : B) → S b → (make (parts b) ≡ b) × R (parts b)) where
  abbrev made_reader : Reader B
  made_reader words = read words >>= λ found. Ok (make found.0, found.1)

  made-of_written : (b : B) (words : List (List ℕ)) → S b → made_reader (wb b ++ words) ≡ Ok (b, words)
  made-of_written b words s =
      let r = again b s in
      let same : wb b ≡ wa (parts b) = ap wb (sym r.0) ∙ (made (parts b) r.1).0 in
      ap (λ (t : List (List ℕ)). made_reader (t ++ words)) same ∙ ap (λ (found : Result (A × List (List ℕ)) TextWhy). found >>= λ found. Ok (make found.0, found.1)) (f.of_written (parts b) words r.1) ∙ ap (λ (c : B). Ok (c, words)) r.0

  made-of_read : (words : List (List ℕ)) (b : B) (rest : List (List ℕ)) → made_reader words ≡ Ok (b, rest) → (words ≡ wb b ++ rest) × S b
  made-of_read words b rest h =
      let x = bound (read words) (λ (found : A × List (List ℕ)). Ok (make found.0, found.1)) (b, rest) h in
      let e : ◌≡◌ {A = B × List (List ℕ)} (make x.value.0, x.value.1) (b, rest) = ok_same (make x.value.0, x.value.1) (b, rest) x.after in
      let fb = f.of_read words x.value.0 x.value.1 x.first in
      let m = made x.value.0 fb.1 in
      let P : B × List (List ℕ) → Type 0 = λ q. (words ≡ wb q.0 ++ q.1) × S q.0 in
      subst P e (fb.0 ∙ ap (λ (t : List (List ℕ)). t ++ x.value.1) (sym m.0), m.1)

  pub made-exact : IsExact made_reader wb S
  made-exact = record { of_written = made-of_written; of_read = made-of_read }

-- ---- how many words

pub count_with_end-length : (count : ℕ) (words : List (List ℕ)) → length words ≡ count → count_with_end true count words ≡ Ok tt
unfolding count_with_end
count_with_end-length count words e =
    let a : ltb (length words) count ≡ false = le-ltb (length words) count (omega arith) in
    let b : ltb count (length words) ≡ false = le-ltb count (length words) (omega arith) in
    rw (a, b) refl

pub count_with_end-of_read : (ended : Bool) (count : ℕ) (words : List (List ℕ)) (u : Unit {0}) → count_with_end ended count words ≡ Ok u → (ended ≡ true) × (length words ≡ count)
unfolding count_with_end
count_with_end-of_read ended count words u h =
    by_test (ltb (length words) count) (Err Short) (if ended then (if ltb count (length words) then Err Long else Ok tt) else Err Short) (Ok u)
    (λ t e. fault_value Short u e)
    (λ t e. by_test ended (if ltb count (length words) then Err Long else Ok tt) (Err Short) (Ok u)
    (λ s g. by_test (ltb count (length words)) (Err Long) (Ok tt) (Ok u)
    (λ r k. fault_value Long u k)
    (λ r k. (s, omega (arith, ltb-false (length words) count t, ltb-false count (length words) r)))
    g)
    (λ s g. fault_value Short u g)
    e)
    h

-- ---- a whole line's words

none_left : (xs ys : List (List ℕ)) → length (xs ++ ys) ≡ length xs → ys ≡ []
none_left xs [] e = refl
none_left xs (y ∷ ys) e = absurd (omega (arith, e, length-append xs (y ∷ ys)))

module _ {A : Type 0} (read : Reader A) (wa : A → List (List ℕ)) (R : A → Type 0) (f : IsExact read wa R) (count : ℕ) (long : (a : A) → length (wa a) ≡ count) where
  pub whole-of_written : (a : A) → R a → whole true count read (wa a) ≡ Ok a
  whole-of_written a r =
      let e : read (wa a) ≡ Ok (a, []) = ap read (sym (append-nil (wa a))) ∙ f.of_written a [] r in
      rw (count_with_end-length count (wa a) (long a), e) refl

  pub whole-of_read : (ended : Bool) (words : List (List ℕ)) (a : A) → whole ended count read words ≡ Ok a → (ended ≡ true) × (words ≡ wa a) × R a
  whole-of_read ended words a h =
      let c = bound (count_with_end ended count words) (λ (u : Unit {0}). read words >>= λ found. Ok found.0) a h in
      let x = bound (read words) (λ (found : A × List (List ℕ)). Ok found.0) a c.after in
      let n = count_with_end-of_read ended count words c.value c.first in
      let b = f.of_read words x.value.0 x.value.1 x.first in
      let none : x.value.1 ≡ [] = none_left (wa x.value.0) x.value.1 (sym (ap length b.0) ∙ n.1 ∙ sym (long x.value.0)) in
      let same : words ≡ wa x.value.0 = b.0 ∙ ap (λ (t : List (List ℕ)). wa x.value.0 ++ t) none ∙ append-nil (wa x.value.0) in
      let P : A → Type 0 = λ v. (ended ≡ true) × (words ≡ wa v) × R v in
      subst P (ok_same x.value.0 a x.after) (n.0, same, b.1)

-- ---- signed numbers

record UpTo (most : ℕ) (o : Option (Bool × ℕ)) (z : ℤ) : Type 0 where
  parts : Bool × ℕ
  is : o ≡ Some parts
  fits : parts.1 ≤ most
  value : with_sign parts.0 parts.1 ≡ z

up_to-some : (most : ℕ) (o : Option (Bool × ℕ)) (z : ℤ) → spelled_up_to most o ≡ Ok z → UpTo most o z
up_to-some most None z h = fault_value Number z h
up_to-some most (Some p) z h = by_test (leb p.1 most) (Ok (with_sign p.0 p.1)) (Err Number) (Ok z)
    (λ t e. record { parts = p; is = refl; fits = leb-true p.1 most t; value = ok_same (with_sign p.0 p.1) z e })
    (λ t e. fault_value Number z e)
    h

size_of_sign : (b : Bool) (n : ℕ) → unsigned_abs (with_sign b n) ≡ n
size_of_sign true zero = refl
size_of_sign true (suc n) = refl
size_of_sign false n = refl

word_signed-some : (most : ℕ) (z : ℤ) (word : List ℕ) → most < 10 ^ 38 → spelled_up_to most (spelled_parts word) ≡ Ok z → (word ≡ signed_decimal z) × (unsigned_abs z ≤ most)
word_signed-some most z word small h =
    let u = up_to-some most (spelled_parts word) z h in
    let fits : unsigned_abs (with_sign u.parts.0 u.parts.1) ≤ most = omega (arith, size_of_sign u.parts.0 u.parts.1, u.fits) in
    let P : ℤ → Type 0 = λ m. (word ≡ signed_decimal m) × (unsigned_abs m ≤ most) in
    subst P u.value (spelled_parts-some word u.parts (omega (arith, u.fits, small)) u.is, fits)

sign_again : (z : ℤ) → with_sign (sign_of z) (unsigned_abs z) ≡ z
sign_again (pos n) = refl
sign_again (negsuc n) = refl

size_in_range : (most : ℕ) (z : ℤ) → unsigned_abs z ≤ most → spelled_up_to most (Some (sign_of z, unsigned_abs z)) ≡ Ok z
size_in_range most z le = rw (le-leb (unsigned_abs z) most le) (ap Ok (sign_again z))

word_signed-decimal : (most : ℕ) (z : ℤ) → unsigned_abs z ≤ most → most < 10 ^ 38 → spelled_up_to most (spelled_parts (signed_decimal z)) ≡ Ok z
word_signed-decimal most z le small = ap (spelled_up_to most) (spelled_parts-decimal z (omega (arith, le, small))) ∙ size_in_range most z le

spelled_signed_at-of_read : (most : ℕ) → most < 10 ^ 38 → (words : List (List ℕ)) (n : ℤ) (rest : List (List ℕ)) → spelled_signed_at most words ≡ Ok (n, rest) → (words ≡ signed_decimal n ∷ rest) × (unsigned_abs n ≤ most)
unfolding spelled_signed_at
spelled_signed_at-of_read most small [] n rest h = fault_value Short (n, rest) h
spelled_signed_at-of_read most small (word ∷ words) n rest h =
    let b = bound (spelled_up_to most (spelled_parts word)) (λ (m : ℤ). Ok (m, words)) (n, rest) h in
    let e : ◌≡◌ {A = ℤ × List (List ℕ)} (b.value, words) (n, rest) = ok_same (b.value, words) (n, rest) b.after in
    let s = word_signed-some most b.value word small b.first in
    let P : ℤ × List (List ℕ) → Type 0 = λ r. (word ∷ words ≡ signed_decimal r.0 ∷ r.1) × (unsigned_abs r.0 ≤ most) in
    subst P e (ap (λ w. w ∷ words) s.0, s.1)

spelled_signed_at-of_written : (most : ℕ) → most < 10 ^ 38 → (n : ℤ) (words : List (List ℕ)) → unsigned_abs n ≤ most → spelled_signed_at most (signed_decimal n ∷ words) ≡ Ok (n, words)
unfolding spelled_signed_at
spelled_signed_at-of_written most small n words r = ap (λ (found : Result ℤ TextWhy). found >>= λ n. Ok (n, words)) (word_signed-decimal most n r small)

pub spelled_signed_at-exact_wide : (most : ℕ) → most < 10 ^ 38 → IsExact (spelled_signed_at most) (λ n. signed_decimal n ∷ []) (λ n. unsigned_abs n ≤ most)
spelled_signed_at-exact_wide most small = record { of_written = spelled_signed_at-of_written most small; of_read = spelled_signed_at-of_read most small }

pub spelled_signed_at-exact : (most : ℕ) → most < 2 ^ 32 → IsExact (spelled_signed_at most) (λ n. signed_decimal n ∷ []) (λ n. unsigned_abs n ≤ most)
spelled_signed_at-exact most small = spelled_signed_at-exact_wide most (omega (arith, small))
