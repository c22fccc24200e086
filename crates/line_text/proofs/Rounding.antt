-- Rounding on the digits: the digits up to the place after the grid's last decide.
use Rattle.std.proofs.Common.{◌≡◌, ℕ, zero, suc, ◌+◌, ◌-◌, ◌*◌, ◌/◌, ◌^◌, ◌<◌, ◌≤◌, min, true, false, ◌&&◌, List, [], ◌∷◌, ◌++◌, length, get_or, take, drop, Some, Ok, Err, refl, sym, ap, ◌∙◌, arith, inl, inr}
use Rattle.std.proofs.Math.Nat.{pow-suc, pow-le-pow_right, mul-div-mul_left, mul-div-mul_right, add-mul-div_right, div-div-eq-div-mul, div-eq_of_lt, mul-div_cancel}
use Rattle.std.specs.Prelude.{nat_le}
use Rattle.std.specs.List.{list_all}
use Rattle.std.proofs.lemmas.Bool.{and_parts, cases_lt, leb-true, lt-leb, le-leb}
use Rattle.std.proofs.lemmas.List.{take_all, length-take, length-drop, length-append, take_min, take-append-drop, at_drop_more, at_drop_all}
use Rattle.std.proofs.lemmas.Nat.{pow-add, div-mul-add, mul-le}
use Rattle.grid_base.specs.declared.TheConstants.{BOX}
use Rattle.line_text.specs.Numbers.{number, number_after, is_digit, nearest_quotient, Decimal, grid_size, grid_of, with_sign}
use Rattle.line_text.specs.declared.number.NumberWhy.TheVariants.{Range}
use Rattle.line_text.specs.DecimalViews.{Fits, tenths_of}
use Rattle.line_text.proofs.Digits.{list_all-append}

pub number_after-append : (n : ℕ) (xs ys : List ℕ) → number_after n (xs ++ ys) ≡ number_after (number_after n xs) ys
number_after-append n [] ys = refl
number_after-append n (x ∷ xs) ys = number_after-append (10 * n + (x - 48)) xs ys

pub pow_pos : (k : ℕ) → 0 < 10 ^ k
pow_pos zero = omega arith
pow_pos (suc k) = let e : 10 ^ suc k ≡ 10 ^ k * 10 = rw pow-suc refl in omega (arith, e, pow_pos k)

pub number_after-split : (n : ℕ) (ds : List ℕ) → number_after n ds ≡ n * 10 ^ length ds + number ds
number_after-split n [] = omega arith
number_after-split n (d ∷ ds) =
    let e : 10 ^ suc (length ds) ≡ 10 ^ length ds * 10 = rw pow-suc refl in
    let a = number_after-split (10 * n + (d - 48)) ds in
    let b = number_after-split (10 * 0 + (d - 48)) ds in
    rw (a, b, e) (omega arith)

pub number-below : (ds : List ℕ) → list_all is_digit ds ≡ true → number ds < 10 ^ length ds
number-below [] digits = omega arith
number-below (d ∷ ds) digits =
    let p = and_parts (is_digit d) (list_all is_digit ds) digits in
    let q = and_parts (nat_le 48 d) (nat_le d 57) p.0 in
    let e : 10 ^ suc (length ds) ≡ 10 ^ length ds * 10 = rw pow-suc refl in
    let a = number_after-split (10 * 0 + (d - 48)) ds in
    let high : d ≤ 57 = leb-true _ _ q.1 in
    let m : (10 * 0 + (d - 48)) * 10 ^ length ds ≤ 9 * 10 ^ length ds = mul-le (10 * 0 + (d - 48)) (10 ^ length ds) 9 (10 ^ length ds) (omega (arith, high)) (omega arith) in
    rw (a, e) (omega (arith, m, number-below ds p.1))

-- the quotient to a tenth decides
pub nearest_quotient-by_tenths : (a b : ℕ) → 0 < b → nearest_quotient a b ≡ (10 * a / b + 5) / 10
nearest_quotient-by_tenths a b pos =
    let five : 5 * (2 * a + b) / (5 * (2 * b)) ≡ (2 * a + b) / (2 * b) = mul-div-mul_left {m = 5} (2 * a + b) (2 * b) (omega arith) in
    let top : 5 * (2 * a + b) ≡ 10 * a + 5 * b = omega arith in
    let bottom : 5 * (2 * b) ≡ b * 10 = omega arith in
    let added : (10 * a + 5 * b) / b ≡ 10 * a / b + 5 = add-mul-div_right (10 * a) 5 pos in
    let twice : (10 * a + 5 * b) / b / 10 ≡ (10 * a + 5 * b) / (b * 10) = div-div-eq-div-mul (10 * a + 5 * b) b 10 in
    sym five ∙ ap (λ n. n / (5 * (2 * b))) top ∙ ap (λ n. (10 * a + 5 * b) / n) bottom ∙ sym twice ∙ ap (λ n. n / 10) added

list_all-drop : (n : ℕ) (ds : List ℕ) → list_all is_digit ds ≡ true → list_all is_digit (drop n ds) ≡ true
list_all-drop zero ds h = h
list_all-drop (suc n) [] h = refl
list_all-drop (suc n) (d ∷ ds) h = list_all-drop n ds (and_parts (is_digit d) (list_all is_digit ds) h).1

cut : (ds : List ℕ) (n : ℕ) → number ds ≡ number (take n ds) * 10 ^ length (drop n ds) + number (drop n ds)
cut ds n = ap number (sym (take-append-drop n ds)) ∙ number_after-append 0 (take n ds) (drop n ds) ∙ number_after-split (number (take n ds)) (drop n ds)

-- the point moves by e - f places: digits after it fall away, and zeros fill up
pub shifted : (ds : List ℕ) (e f n : ℕ) → list_all is_digit ds ≡ true → n ≡ length ds + e - f → number ds * 10 ^ e / 10 ^ f ≡ number (take n ds) * 10 ^ (n - length ds)
shifted ds e f n digits is =
    elim (cases_lt e f) [
      | inl lt ↦
          let g = f - e in
          let power : 10 ^ f ≡ 10 ^ g * 10 ^ e = ap (λ (k : ℕ). 10 ^ k) (omega arith) ∙ pow-add 10 g e in
          let smaller : number ds * 10 ^ e / (10 ^ g * 10 ^ e) ≡ number ds / 10 ^ g = mul-div-mul_right (number ds) (10 ^ g) (pow_pos e) in
          let none : n - length ds ≡ 0 = omega arith in
          let one : number (take n ds) * 10 ^ 0 ≡ number (take n ds) = omega arith in
          let rest = number-below (drop n ds) (list_all-drop n ds digits) in
          let quotient : number ds / 10 ^ g ≡ number (take n ds) = elim (cases_lt (length ds) g) [
            | inl short ↦
                let zeroth : n ≡ 0 = omega arith in
                let fits : 10 ^ length ds ≤ 10 ^ g = pow-le-pow_right {n = 10} (omega arith) (omega arith) in
                rw zeroth (div-eq_of_lt (omega (arith, number-below ds digits, fits)))
            | inr enough ↦
                let len : length (drop n ds) ≡ g = omega (arith, length-drop n ds) in
                let parts : number ds ≡ number (take n ds) * 10 ^ g + number (drop n ds) = rw len at (cut ds n) in
                let small : number (drop n ds) < 10 ^ g = rw len at rest in
                rw parts (div-mul-add (number (take n ds)) (10 ^ g) (number (drop n ds)) small)
          ] in
          rw (power, smaller, none, one) quotient
      | inr ge ↦
          let whole : take n ds ≡ ds = take_all n ds (omega arith) in
          let left : n - length ds ≡ e - f = omega arith in
          let power : 10 ^ e ≡ 10 ^ (e - f) * 10 ^ f = ap (λ (k : ℕ). 10 ^ k) (omega arith) ∙ pow-add 10 (e - f) f in
          let times : number ds * (10 ^ (e - f) * 10 ^ f) ≡ number ds * 10 ^ (e - f) * 10 ^ f = omega arith in
          rw (whole, left, power, times) (mul-div_cancel (number ds * 10 ^ (e - f)) (pow_pos f))
    ]

-- ---- a number that is only followed up to a limit, which is more than ten times the greatest size on the grid
abbrev pub limit : ℕ
limit = 10 * BOX + 10

pub capped_after : (n : ℕ) (ds : List ℕ) → min limit (number_after (min limit n) ds) ≡ min limit (number_after n ds)
capped_after n [] = omega arith
capped_after n (d ∷ ds) =
    let same : min limit (10 * min limit n + (d - 48)) ≡ min limit (10 * n + (d - 48)) = omega arith in
    sym (capped_after (10 * min limit n + (d - 48)) ds) ∙ ap (λ m. min limit (number_after m ds)) same ∙ capped_after (10 * n + (d - 48)) ds

pub capped_times : (n p : ℕ) → 0 < p → min limit (min limit n * p) ≡ min limit (n * p)
capped_times n p pos = elim (cases_lt n limit) [
  | inl lt ↦ let e : min limit n ≡ n = omega arith in rw e refl
  | inr ge ↦ let e : min limit n ≡ limit = omega arith in let a : limit * 1 ≤ limit * p = mul-le limit 1 limit p (omega arith) (omega arith) in let b : limit * p ≤ n * p = mul-le limit p n p ge (omega arith) in rw e (omega (arith, a, b))
]

-- the number that the digits write after start, i digits on
pub record Followed (start : ℕ) (ds : List ℕ) (i n : ℕ) : Type 0 where
  pub limited : n ≤ limit
  pub digits : list_all is_digit (drop i ds) ≡ true
  pub same : min limit (number_after n (drop i ds)) ≡ min limit (number_after start ds)

pub Followed-digit : (start : ℕ) (ds : List ℕ) (i n : ℕ) → i < length ds → Followed start ds i n → (48 ≤ get_or ds i 0) × (get_or ds i 0 ≤ 57)
Followed-digit start ds i n lt h =
    let e : list_all is_digit (drop i ds) ≡ (is_digit (get_or ds i 0) && list_all is_digit (drop (i + 1) ds)) = at_drop_more (list_all is_digit) ds i 0 lt in
    let p = and_parts (is_digit (get_or ds i 0)) (list_all is_digit (drop (i + 1) ds)) (sym e ∙ h.digits) in
    let q = and_parts (nat_le 48 (get_or ds i 0)) (nat_le (get_or ds i 0) 57) p.0 in
    (leb-true _ _ q.0, leb-true _ _ q.1)

pub Followed-more : (start : ℕ) (ds : List ℕ) (i n m : ℕ) → i < length ds → m ≡ min limit (10 * n + (get_or ds i 0 - 48)) → Followed start ds i n → Followed start ds (i + 1) m
Followed-more start ds i n m lt is h =
    let next = 10 * n + (get_or ds i 0 - 48) in
    let e : list_all is_digit (drop i ds) ≡ (is_digit (get_or ds i 0) && list_all is_digit (drop (i + 1) ds)) = at_drop_more (list_all is_digit) ds i 0 lt in
    let f : number_after n (drop i ds) ≡ number_after next (drop (i + 1) ds) = at_drop_more (number_after n) ds i 0 lt in
    record {
      limited = omega (arith, is);
      digits = (and_parts (is_digit (get_or ds i 0)) (list_all is_digit (drop (i + 1) ds)) (sym e ∙ h.digits)).1;
      same = rw is (capped_after next (drop (i + 1) ds) ∙ ap (λ k. min limit k) (sym f) ∙ h.same);
    }

pub Followed-end : (start : ℕ) (ds : List ℕ) (i n : ℕ) → length ds ≤ i → Followed start ds i n → n ≡ min limit (number_after start ds)
Followed-end start ds i n le h = let e : number_after n (drop i ds) ≡ n = at_drop_all (number_after n) ds i le in let c : n ≡ min limit n = omega (arith, h.limited) in c ∙ ap (λ k. min limit k) (sym e) ∙ h.same

-- start with i of its zeros
pub record Zeroed (start count i n : ℕ) : Type 0 where
  pub limited : n ≤ limit
  pub some : 0 < n
  pub same : min limit (n * 10 ^ (count - i)) ≡ min limit (start * 10 ^ count)

pub Zeroed-more : (start count i n m : ℕ) → i < count → m ≡ min limit (10 * n) → Zeroed start count i n → Zeroed start count (i + 1) m
Zeroed-more start count i n m lt is h =
    let left = count - (i + 1) in
    let power : 10 ^ (count - i) ≡ 10 ^ left * 10 = ap (λ (k : ℕ). 10 ^ k) (let k : count - i ≡ suc left = omega arith in k) ∙ rw pow-suc refl in
    let times : 10 * n * 10 ^ left ≡ n * 10 ^ (count - i) = rw power (omega arith) in
    record {
      limited = omega (arith, is);
      some = omega (arith, is, h.some);
      same = rw is (capped_times (10 * n) (10 ^ left) (pow_pos left) ∙ ap (λ k. min limit k) times ∙ h.same);
    }

pub Zeroed-full : (start count i n : ℕ) → limit ≤ n → Zeroed start count i n → limit ≡ min limit (start * 10 ^ count)
Zeroed-full start count i n ge h = let a : n * 1 ≤ n * 10 ^ (count - i) = mul-le n 1 n (10 ^ (count - i)) (omega arith) (pow_pos (count - i)) in omega (arith, a, h.same)

pub Zeroed-end : (start count i n : ℕ) → count ≤ i → Zeroed start count i n → n ≡ min limit (start * 10 ^ count)
Zeroed-end start count i n le h = let none : count - i ≡ 0 = omega arith in let e : min limit (n * 10 ^ 0) ≡ min limit (start * 10 ^ count) = rw none at h.same in omega (arith, e, h.limited)

take-append : (n : ℕ) (xs ys : List ℕ) → take n (xs ++ ys) ≡ take n xs ++ take (n - length xs) ys
take-append n [] ys = let none : take {A = ℕ} n [] ≡ [] = take_all n [] (omega arith) in let e : n - 0 ≡ n = omega arith in rw (none, e) refl
take-append zero (x ∷ xs) ys = let e : 0 - suc (length xs) ≡ 0 = omega arith in rw e refl
take-append (suc n) (x ∷ xs) ys = let e : suc n - suc (length xs) ≡ n - length xs = omega arith in rw e (ap (λ (t : List ℕ). x ∷ t) (take-append n xs ys))

-- the digits that are kept of both parts, and the zeros after them, give the tenths
pub tenths-kept : (decimals : ℕ) (d : Decimal) (kept left first second : ℕ) (front back : List ℕ) → Fits d → kept ≡ length d.whole + decimals + 1 + d.up - d.down
    → front ≡ take (min kept (length d.whole)) d.whole → left ≡ kept - length front → back ≡ take (min left (length d.fraction)) d.fraction
    → first ≡ min limit (number_after 0 front) → second ≡ min limit (number_after first back)
    → min limit (second * 10 ^ (left - length back)) ≡ min limit (tenths_of decimals d)
tenths-kept decimals d kept left first second front back fits kept-is front-is left-is back-is first-is second-is =
    let ds = d.whole ++ d.fraction in
    let e = decimals + d.up + 1 in
    let f = length d.fraction + d.down in
    let len : length ds ≡ length d.whole + length d.fraction = length-append d.whole d.fraction in
    let front-take : front ≡ take kept d.whole = front-is ∙ take_min kept d.whole in
    let front-len : length front ≡ min kept (length d.whole) = ap length front-take ∙ length-take kept d.whole in
    let left-take : left ≡ kept - length d.whole = omega (arith, left-is, front-len) in
    let back-take : back ≡ take (kept - length d.whole) d.fraction = back-is ∙ take_min left d.fraction ∙ ap (λ n. take n d.fraction) left-take in
    let back-len : length back ≡ min (kept - length d.whole) (length d.fraction) = ap length back-take ∙ length-take (kept - length d.whole) d.fraction in
    let both : front ++ back ≡ take kept ds = ap (λ (x : List ℕ). x ++ back) front-take ∙ ap (λ (y : List ℕ). take kept d.whole ++ y) back-take ∙ sym (take-append kept d.whole d.fraction) in
    let zeros : left - length back ≡ kept - length ds = omega (arith, left-take, back-len, len) in
    let moved = shifted ds e f kept (list_all-append d.whole d.fraction fits.whole fits.fraction) (omega (arith, len, kept-is)) in
    let power : 10 ^ e ≡ 10 ^ (decimals + d.up) * 10 = ap (λ (k : ℕ). 10 ^ k) (let k : e ≡ suc (decimals + d.up) = omega arith in k) ∙ rw pow-suc refl in
    let ten : number ds * 10 ^ e ≡ 10 * (number ds * 10 ^ (decimals + d.up)) = rw power (omega arith) in
    let value : second ≡ min limit (number (take kept ds)) = second-is ∙ ap (λ n. min limit (number_after n back)) first-is ∙ capped_after (number front) back ∙ ap (λ n. min limit n) (sym (number_after-append 0 front back)) ∙ ap (λ (x : List ℕ). min limit (number x)) both in
    ap (λ n. min limit (n * 10 ^ (left - length back))) value ∙ capped_times (number (take kept ds)) (10 ^ (left - length back)) (pow_pos (left - length back)) ∙ ap (λ n. min limit (number (take kept ds) * 10 ^ n)) zeros ∙ ap (λ n. min limit n) (sym moved ∙ ap (λ n. n / 10 ^ f) ten)

pub in_range : (tenths size : ℕ) → size ≡ (min limit tenths + 5) / 10 → size ≤ BOX → size ≡ (tenths + 5) / 10
in_range tenths size is le = omega (arith, is)

pub out_of_range : (tenths size : ℕ) → size ≡ (min limit tenths + 5) / 10 → BOX < size → BOX < (tenths + 5) / 10
out_of_range tenths size is lt = omega (arith, is)

pub grid_size-by_tenths : (decimals : ℕ) (d : Decimal) → grid_size decimals d ≡ (tenths_of decimals d + 5) / 10
unfolding grid_size
grid_size-by_tenths decimals d = nearest_quotient-by_tenths (number (d.whole ++ d.fraction) * 10 ^ (decimals + d.up)) (10 ^ (length d.fraction + d.down)) (pow_pos (length d.fraction + d.down))

pub grid_of-range : (decimals : ℕ) (d : Decimal) (size : ℕ) → size ≡ (min limit (tenths_of decimals d) + 5) / 10 → BOX < size → grid_of decimals (Some d) ≡ Err Range
grid_of-range decimals d size is lt = let e : nat_le (grid_size decimals d) BOX ≡ false = rw (grid_size-by_tenths decimals d) (lt-leb _ _ (out_of_range (tenths_of decimals d) size is lt)) in rw e refl

pub grid_of-value : (decimals : ℕ) (d : Decimal) (size : ℕ) → size ≡ (min limit (tenths_of decimals d) + 5) / 10 → size ≤ BOX → grid_of decimals (Some d) ≡ Ok (with_sign d.negative size)
grid_of-value decimals d size is le =
    let same : size ≡ grid_size decimals d = in_range (tenths_of decimals d) size is le ∙ sym (grid_size-by_tenths decimals d) in
    let e : nat_le (grid_size decimals d) BOX ≡ true = rw (← same) (le-leb _ _ le) in rw e (ap (λ n. Ok (with_sign d.negative n)) (sym same))
