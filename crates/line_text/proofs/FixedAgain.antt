-- A fixed text is read as the value that it was written of.
use Rattle.std.proofs.Common.{◌≡◌, ℕ, zero, suc, ◌+◌, ◌-◌, ◌*◌, ◌/◌, ◌%◌, ◌^◌, ◌<◌, ◌≤◌, Bool, true, false, eqb, leb, ◌&&◌, List, [], ◌∷◌, ◌++◌, length, get_or, Some, Ok, refl, sym, ap, ◌∙◌, arith, add-zero}
use Rattle.std.specs.Prelude.{decimal, pos, negsuc, ℤ, unsigned_abs}
use Rattle.std.specs.List.{list_all, prefix_len}
use Rattle.std.proofs.Math.Nat.{pow-suc, div-eq_of_lt-le, div-le_self, div-div-eq-div-mul}
use Rattle.std.proofs.lemmas.Bool.{and_parts, and_from, le-leb, ne_eqb, eq-eqb, leb-true}
use Rattle.std.proofs.lemmas.List.{append-nil, take_at, drop_at, length-append}
use Rattle.std.proofs.lemmas.List.Recursion.{and_at}
use Rattle.std.proofs.lemmas.List.Folds.{prefix_len-append}
use Rattle.std.proofs.lemmas.Fmt.{decimal_nonempty, length-decimal-le}
use Rattle.grid_base.specs.declared.TheConstants.{BOX, DECIMALS_MAX}
use Rattle.line_text.specs.Numbers.{number, is_digit, Decimal, front_digits, behind_digits, exponent_of, mantissa_of, decimal_of, nearest_quotient, grid_size, grid_of, grid_number_of, with_sign, last_digits, size_text, fixed_text}
use Rattle.line_text.specs.Laws.{FixedIsRead}
use Rattle.line_text.proofs.WordCuts.{IsPlain}
use Rattle.line_text.proofs.Rounding.{number_after-append, number_after-split, pow_pos}
use Rattle.line_text.proofs.Decimals.{Writes-decimal}

-- ---- the last digits of a number

length-last_digits : (k n : ℕ) → length (last_digits k n) ≡ k
length-last_digits zero n = refl
length-last_digits (suc k) n = ap suc (length-last_digits k n)

last_digits_are : (k n : ℕ) → list_all is_digit (last_digits k n) ≡ true
last_digits_are zero n = refl
last_digits_are (suc k) n = and_from (is_digit (48 + n / 10 ^ k % 10)) (list_all is_digit (last_digits k n)) (and_from (leb 48 (48 + n / 10 ^ k % 10)) (leb (48 + n / 10 ^ k % 10) 57) (le-leb _ _ (omega arith)) (le-leb _ _ (omega arith))) (last_digits_are k n)

-- the number before the last digits, and they, make the number
number-last_digits : (k n : ℕ) → n / 10 ^ k * 10 ^ k + number (last_digits k n) ≡ n
number-last_digits zero n = omega arith
number-last_digits (suc k) n =
    let q = n / 10 ^ k in
    let power : 10 ^ suc k ≡ 10 ^ k * 10 = rw pow-suc refl in
    let fewer : n / 10 ^ suc k ≡ q / 10 = ap (λ (p : ℕ). n / p) power ∙ sym (div-div-eq-div-mul n (10 ^ k) 10) in
    let first : number ((48 + q % 10) ∷ last_digits k n) ≡ q % 10 * 10 ^ k + number (last_digits k n) = number_after-split (10 * 0 + (48 + q % 10 - 48)) (last_digits k n) ∙ rw (length-last_digits k n) (let e : 10 * 0 + (48 + q % 10 - 48) ≡ q % 10 = omega arith in rw e refl) in
    let whole : q ≡ q / 10 * 10 + q % 10 = omega arith in
    let times : q * 10 ^ k ≡ q / 10 * (10 ^ k * 10) + q % 10 * 10 ^ k = ap (λ (x : ℕ). x * 10 ^ k) whole ∙ omega arith in
    rw (fewer, power, first) (omega (arith, times, number-last_digits k n))

-- ---- words of digits, with a tail that begins with no digit

prefix_all : (ds : List ℕ) → list_all is_digit ds ≡ true → prefix_len is_digit ds ≡ length ds
prefix_all [] h = refl
prefix_all (d ∷ ds) h = let p = and_parts (is_digit d) (list_all is_digit ds) h in rw (p.0, prefix_all ds p.1) (omega arith)

module _ (ds tail : List ℕ) (digits : list_all is_digit ds ≡ true) (other : prefix_len is_digit tail ≡ 0) where
  prefix_is : prefix_len is_digit (ds ++ tail) ≡ length ds
  prefix_is = let e : eqb (prefix_len is_digit ds) (length ds) ≡ true = eq-eqb _ _ (prefix_all ds digits) in prefix_len-append is_digit ds tail ∙ rw (e, other) (omega arith)

  front_is : front_digits (ds ++ tail) ≡ ds
  front_is = rw prefix_is (take_at ds tail (length ds) refl)

  behind_is : behind_digits (ds ++ tail) ≡ tail
  behind_is = rw prefix_is (drop_at ds tail (length ds) refl)

-- ---- rounding changes nothing on the grid

nearest_same : (n p : ℕ) → 0 < p → nearest_quotient (n * p) p ≡ n
nearest_same n p some = div-eq_of_lt-le (2 * p) (omega arith) (omega arith)

-- ---- a text without its sign

record IsSize (decimals n : ℕ) (word : List ℕ) : Type 0 where
  whole : List ℕ
  fraction : List ℕ
  parts : mantissa_of word ≡ (whole, fraction, [])
  first : (48 ≤ get_or word 0 0) × (get_or word 0 0 ≤ 57)
  short : length word ≤ 20
  some : 0 < length whole
  places : length fraction ≡ decimals
  value : number (whole ++ fraction) ≡ n

first_digit : (ds tail : List ℕ) → 0 < length ds → list_all is_digit ds ≡ true → (48 ≤ get_or (ds ++ tail) 0 0) × (get_or (ds ++ tail) 0 0 ≤ 57)
first_digit [] tail some h = absurd (omega arith)
first_digit (d ∷ ds) tail some h = let p = and_parts (is_digit d) (list_all is_digit ds) h in let q = and_parts (leb 48 d) (leb d 57) p.0 in (leb-true 48 d q.0, leb-true d 57 q.1)

-- a word of digits alone is its own front
module _ (ds : List ℕ) (digits : list_all is_digit ds ≡ true) where
  front_all : front_digits ds ≡ ds
  front_all = rw append-nil at (front_is ds [] digits refl)

  behind_all : behind_digits ds ≡ []
  behind_all = rw append-nil at (behind_is ds [] digits refl)

size_alone : (n : ℕ) → n ≤ BOX → IsSize 0 n (decimal n)
unfolding mantissa_of
size_alone n small =
    let lt : n < 2 ^ 64 = omega arith in
    let w = Writes-decimal n lt in
    let same = append-nil (decimal n) in
    record {
      whole = decimal n;
      fraction = [];
      parts = rw (behind_all (decimal n) w.digits, front_all (decimal n) w.digits) refl;
      first = rw same at (first_digit (decimal n) [] (decimal_nonempty n lt) w.digits);
      short = omega (arith, length-decimal-le 10 n (omega arith) (omega arith) lt);
      some = decimal_nonempty n lt;
      places = refl;
      value = rw same w.value;
    }

size_point : (k n : ℕ) → suc k ≤ DECIMALS_MAX → n ≤ BOX → IsSize (suc k) n (decimal (n / 10 ^ suc k) ++ 46 ∷ last_digits (suc k) n)
unfolding mantissa_of
size_point k n places small =
    let front = n / 10 ^ suc k in
    let le : front ≤ n = div-le_self n (10 ^ suc k) in
    let lt : front < 2 ^ 64 = omega (arith, le) in
    let w = Writes-decimal front lt in
    let ds = decimal front in
    let fs = last_digits (suc k) n in
    let fs-are = last_digits_are (suc k) n in
    let none : prefix_len is_digit (46 ∷ fs) ≡ 0 = refl in
    record {
      whole = ds;
      fraction = fs;
      parts = rw (behind_is ds (46 ∷ fs) w.digits none, front_is ds (46 ∷ fs) w.digits none, front_all fs fs-are, behind_all fs fs-are) refl;
      first = first_digit ds (46 ∷ fs) (decimal_nonempty front lt) w.digits;
      short = omega (arith, length-decimal-le 10 front (omega arith) (omega (arith, le)) lt, length-append ds (46 ∷ fs), length-last_digits (suc k) n);
      some = decimal_nonempty front lt;
      places = length-last_digits (suc k) n;
      value = number_after-append 0 ds fs ∙ number_after-split (number ds) fs ∙ rw (w.value, length-last_digits (suc k) n) (number-last_digits (suc k) n);
    }

size_is : (decimals n : ℕ) → decimals ≤ DECIMALS_MAX → n ≤ BOX → IsSize decimals n (size_text decimals n)
size_is zero n places small = size_alone n small
size_is (suc k) n places small = let other : eqb (suc k) 0 ≡ false = ne_eqb _ _ (omega arith) in rw other (size_point k n places small)

-- ---- with or without the sign

module _ (decimals n : ℕ) (word : List ℕ) (places : decimals ≤ DECIMALS_MAX) (h : IsSize decimals n word) where
  plus : eqb (get_or word 0 0) 43 ≡ false
  plus = ne_eqb _ _ (omega (arith, h.first.0))

  minus : eqb (get_or word 0 0) 45 ≡ false
  minus = ne_eqb _ _ (omega (arith, h.first.0))

  apart : Bool → Decimal
  apart negative = record { negative = negative; whole = h.whole; fraction = h.fraction; up = 0; down = 0 }

  unsigned : decimal_of word ≡ Some (apart false)
  unfolding decimal_of exponent_of apart
  unsigned =
      let short : leb (length word) 64 ≡ true = le-leb _ _ (omega (arith, h.short)) in
      let some : leb 1 (length h.whole + length h.fraction) ≡ true = le-leb _ _ (omega (arith, h.some)) in
      rw (plus, minus, short, h.parts, some) refl

  negated : decimal_of (45 ∷ word) ≡ Some (apart true)
  unfolding decimal_of exponent_of apart
  negated =
      let short : leb (suc (length word)) 64 ≡ true = le-leb _ _ (omega (arith, h.short)) in
      let some : leb 1 (length h.whole + length h.fraction) ≡ true = le-leb _ _ (omega (arith, h.some)) in
      rw (short, h.parts, some) refl

  size_again : (negative : Bool) → grid_size decimals (apart negative) ≡ n
  unfolding grid_size apart
  size_again negative = rw (h.value, h.places, add-zero) (nearest_same n (10 ^ decimals) (pow_pos decimals))

  read_again : (negative : Bool) → n ≤ BOX → grid_of decimals (Some (apart negative)) ≡ Ok (with_sign negative n)
  unfolding apart
  read_again negative small = let e : leb (grid_size decimals (apart negative)) BOX ≡ true = rw (size_again negative) (le-leb _ _ small) in rw (e, size_again negative) refl

pub fixed_is_read_lem : FixedIsRead
unfolding grid_number_of
fixed_is_read_lem decimals (pos n) places small = let h = size_is decimals n places small in rw (unsigned decimals n (size_text decimals n) places h) (read_again decimals n (size_text decimals n) places h false small)
fixed_is_read_lem decimals (negsuc n) places small = let h = size_is decimals (suc n) places small in rw (negated decimals (suc n) (size_text decimals (suc n)) places h) (read_again decimals (suc n) (size_text decimals (suc n)) places h true small)

-- ---- words of digits, a point and a sign

abbrev pub is_number_byte : ℕ → Bool
is_number_byte b = leb 45 b && leb b 57

pub record IsNumberWord (word : List ℕ) : Type 0 where
  pub some : 0 < length word
  pub bytes : list_all is_number_byte word ≡ true
  pub plain : IsPlain word

digit_byte : (b : ℕ) → is_digit b ≡ true → is_number_byte b ≡ true
digit_byte b h = let p = and_parts (leb 48 b) (leb b 57) h in and_from (leb 45 b) (leb b 57) (le-leb _ _ (let low = leb-true 48 b p.0 in omega (arith, low))) p.1

digits_bytes : (ds : List ℕ) → list_all is_digit ds ≡ true → list_all is_number_byte ds ≡ true
digits_bytes [] h = refl
digits_bytes (d ∷ ds) h = let p = and_parts (is_digit d) (list_all is_digit ds) h in and_from (is_number_byte d) (list_all is_number_byte ds) (digit_byte d p.0) (digits_bytes ds p.1)

bytes-append : (xs ys : List ℕ) → list_all is_number_byte xs ≡ true → list_all is_number_byte ys ≡ true → list_all is_number_byte (xs ++ ys) ≡ true
bytes-append [] ys p q = q
bytes-append (x ∷ xs) ys p q = let r = and_parts (is_number_byte x) (list_all is_number_byte xs) p in and_from (is_number_byte x) (list_all is_number_byte (xs ++ ys)) r.0 (bytes-append xs ys r.1 q)

pub byte_bounds : (word : List ℕ) (k : ℕ) → list_all is_number_byte word ≡ true → k < length word → (45 ≤ get_or word k 0) × (get_or word k 0 ≤ 57)
byte_bounds word k h lt =
    let here = and_at (list_all is_number_byte) is_number_byte refl (λ _ _. refl) word k 0 lt h in
    let p = and_parts (leb 45 (get_or word k 0)) (leb (get_or word k 0) 57) here in
    (leb-true _ _ p.0, leb-true _ _ p.1)

made : (word : List ℕ) → 0 < length word → list_all is_number_byte word ≡ true → IsNumberWord word
made word some h = record {
  some = some;
  bytes = h;
  plain = record {
    some = some;
    inside = λ k lt. (let b = byte_bounds word k h lt in let e : eqb (get_or word k 0) 32 ≡ false = ne_eqb _ _ (omega (arith, b.0)) in let f : eqb (get_or word k 0) 9 ≡ false = ne_eqb _ _ (omega (arith, b.0)) in rw (e, f) refl);
    no_comment = (let b = byte_bounds word 0 h some in ne_eqb _ _ (omega (arith, b.0)));
  };
}

size_word : (decimals n : ℕ) → n ≤ BOX → (0 < length (size_text decimals n)) × (list_all is_number_byte (size_text decimals n) ≡ true)
size_word zero n small = let lt : n < 2 ^ 64 = omega arith in (decimal_nonempty n lt, digits_bytes (decimal n) (Writes-decimal n lt).digits)
size_word (suc k) n small =
    let other : eqb (suc k) 0 ≡ false = ne_eqb _ _ (omega arith) in
    let front = n / 10 ^ suc k in
    let lt : front < 2 ^ 64 = omega (arith, div-le_self n (10 ^ suc k)) in
    rw other (omega (arith, length-append (decimal front) (46 ∷ last_digits (suc k) n)), bytes-append (decimal front) (46 ∷ last_digits (suc k) n) (digits_bytes (decimal front) (Writes-decimal front lt).digits) (digits_bytes (last_digits (suc k) n) (last_digits_are (suc k) n)))

pub fixed_is_word : (decimals : ℕ) (value : ℤ) → unsigned_abs value ≤ BOX → IsNumberWord (fixed_text decimals value)
fixed_is_word decimals (pos n) small = let h = size_word decimals n small in made (size_text decimals n) h.0 h.1
fixed_is_word decimals (negsuc n) small = let h = size_word decimals (suc n) small in made (45 ∷ size_text decimals (suc n)) (omega arith) h.1

pub decimal_is_word : (n : ℕ) → n < 2 ^ 64 → IsNumberWord (decimal n)
decimal_is_word n lt = made (decimal n) (decimal_nonempty n lt) (digits_bytes (decimal n) (Writes-decimal n lt).digits)
