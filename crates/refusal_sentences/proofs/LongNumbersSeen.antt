-- What a reader of bytes has seen of a long number so far.
use Rattle.std.proofs.Common.{◌≡◌, ◌==◌, ℕ, suc, ◌+◌, ◌-◌, ◌<◌, ◌≤◌, ◌&&◌, ◌||◌, Bool, true, false, cond, nat_lt, List, [], ◌∷◌, length, Option, Some, None, is_some, refl, sym, ap, ◌∙◌, subst, arith}
use Rattle.std.specs.Char.{is_ascii_digit}
use Rattle.std.proofs.lemmas.Bool.{lt-ltb, ltb-true, ltb-false}
use Rattle.std.proofs.lemmas.Bool.Decides.{nat_tests}
use Rattle.memchr.specs.Find.{is_byte3, Passes, Nowhere, IsFirstByte}
use Rattle.refusal_sentences.specs.LongNumbers.{is_point, is_mark, begins_with_mark, begins_with_digits, has_long_number}

-- Whether one is seen in the bytes to come: behind a digit or a point or not, and behind a point
-- with one more than the digits so far, or 0 behind none.
abbrev pub is_seen : ℕ → Bool → ℕ → List ℕ → Bool
is_seen d inside behind [] = false
is_seen d inside behind (b ∷ bs) =
    cond (is_ascii_digit b)
    (cond (nat_lt 0 behind) (cond (nat_lt d behind) true (is_seen d true (behind + 1) bs)) (is_seen d true behind bs))
    (cond (inside && is_mark b) true (is_seen d (is_point b) (cond (is_point b) 1 0) bs))

-- ---- truths

swap : (e g l : Bool) → (e || (g || l)) ≡ (g || (e || l))
swap true true l = refl
swap true false l = refl
swap false g l = refl

and_none : (x : Bool) → (x && false) ≡ false
and_none true = refl
and_none false = refl

none_of : (p q r : Bool) → ¬ ((p || q || r) ≡ true) → (p ≡ false) × ((q || r) ≡ false)
none_of true q r h = absurd (h refl)
none_of false true r h = absurd (h refl)
none_of false false true h = absurd (h refl)
none_of false false false h = (refl, refl)

-- a digit is no point and no mark
digit_alone : (b : ℕ) → is_ascii_digit b ≡ true → (is_point b ≡ false) × (is_mark b ≡ false)
digit_alone b h = (grind (arith, nat_tests), grind (arith, nat_tests))

-- ---- one byte more

module _ (d : ℕ) (rest : Bool → ℕ → Bool) (E L : Bool) (G : ℕ → Bool) (no_more : G 0 ≡ true) (later : (i : Bool) (k : ℕ) → k ≤ d + 1 → (0 < k → i ≡ true) → rest i k ≡ ((i && E) || ((nat_lt 0 k && G (d + 2 - k)) || L))) where
  later_digits : (k : ℕ) → k ≤ d + 1 → 0 < k → rest true k ≡ (E || (G (d + 2 - k) || L))
  later_digits k few some =
      let P : Bool → Type 0 = λ x. rest true k ≡ (E || ((x && G (d + 2 - k)) || L)) in
      subst P (lt-ltb 0 k some) (later true k few (λ lt. refl))

  at_digit : (inside : Bool) (k : ℕ) → k ≤ d + 1 → (0 < k → inside ≡ true) → (t : Bool) → nat_lt d k ≡ t → (s : Bool) → nat_lt 0 k ≡ s
      → cond s (cond t true (rest true (k + 1))) (rest true k) ≡ ((inside && false) || ((s && G (d + 1 - k)) || (E || L)))
  at_digit inside k few number t e false none =
      let P : Bool → Type 0 = λ x. (E || L) ≡ (x || (E || L)) in
      let zero_is : k ≡ 0 = omega (arith, ltb-false 0 k none) in
      ap (rest true) zero_is ∙ later true 0 (omega arith) (λ lt. refl) ∙ subst P (sym (and_none inside)) refl
  at_digit true k few number true e true some =
      let last : d + 1 - k ≡ 0 = omega (arith, ltb-true d k e) in
      sym (ap (λ (g : Bool). g || (E || L)) (ap G last ∙ no_more))
  at_digit true k few number false e true some =
      let fewer : d + 2 - (k + 1) ≡ d + 1 - k = omega arith in
      let room : k + 1 ≤ d + 1 = omega (arith, ltb-false d k e) in
      later_digits (k + 1) room (omega arith) ∙ swap E (G (d + 2 - (k + 1))) L ∙ ap (λ (n : ℕ). G n || (E || L)) fewer
  at_digit false k few number t e true some = absurd (let h : false ≡ true = number (ltb-true 0 k some) in cc)

  at_other : (marked point : Bool) → cond marked true (rest point (cond point 1 0)) ≡ (marked || ((point && G (suc d)) || ((point && E) || L)))
  at_other true point = refl
  at_other false true =
      let all : d + 2 - 1 ≡ suc d = omega arith in
      later true 1 (omega arith) (λ lt. refl) ∙ swap E (G (d + 2 - 1)) L ∙ ap (λ (n : ℕ). G n || (E || L)) all
  at_other false false = later false 0 (omega arith) (λ lt. absurd (omega arith))

  at_byte : (digit point mark inside : Bool) (k : ℕ) → (digit ≡ true → (point ≡ false) × (mark ≡ false)) → k ≤ d + 1 → (0 < k → inside ≡ true)
      → cond digit (cond (nat_lt 0 k) (cond (nat_lt d k) true (rest true (k + 1))) (rest true k)) (cond (inside && mark) true (rest point (cond point 1 0)))
      ≡ ((inside && mark) || ((nat_lt 0 k && (digit && G (d + 1 - k))) || ((point && G (suc d)) || (((digit || point) && E) || L))))
  at_byte true true mark inside k alone few number = absurd (let h = (alone refl).0 in cc)
  at_byte true false true inside k alone few number = absurd (let h = (alone refl).1 in cc)
  at_byte true false false inside k alone few number = at_digit inside k few number (nat_lt d k) refl (nat_lt 0 k) refl
  at_byte false point mark inside k alone few number =
      let P : Bool → Type 0 = λ x. cond (inside && mark) true (rest point (cond point 1 0)) ≡ ((inside && mark) || (x || ((point && G (suc d)) || ((point && E) || L)))) in
      subst P (sym (and_none (nat_lt 0 k))) (at_other (inside && mark) point)

-- ---- so one is seen where it is to come, or its end

seen_as : (d : ℕ) (inside : Bool) (k : ℕ) (bs : List ℕ) → k ≤ d + 1 → (0 < k → inside ≡ true)
    → is_seen d inside k bs ≡ ((inside && begins_with_mark bs) || ((nat_lt 0 k && begins_with_digits (d + 2 - k) bs) || has_long_number d bs))
seen_as d inside k [] few number =
    let more : d + 2 - k ≡ suc (d + 1 - k) = omega arith in
    let P : Bool → Type 0 = λ x. false ≡ (x || ((nat_lt 0 k && begins_with_digits (d + 2 - k) []) || false)) in
    let Q : ℕ → Type 0 = λ n. false ≡ ((nat_lt 0 k && begins_with_digits n []) || false) in
    let R : Bool → Type 0 = λ x. false ≡ (x || false) in
    subst P (sym (and_none inside)) (subst Q (sym more) (subst R (sym (and_none (nat_lt 0 k))) refl))
seen_as d inside k (b ∷ bs) few number =
    let more : d + 2 - k ≡ suc (d + 1 - k) = omega arith in
    let P : ℕ → Type 0 = λ n. is_seen d inside k (b ∷ bs) ≡ ((inside && is_mark b) || ((nat_lt 0 k && begins_with_digits n (b ∷ bs)) || has_long_number d (b ∷ bs))) in
    subst P (sym more)
    (at_byte d (λ i n. is_seen d i n bs) (begins_with_mark bs) (has_long_number d bs) (λ n. begins_with_digits n bs) refl (λ i n room in_number. seen_as d i n bs room in_number)
    (is_ascii_digit b) (is_point b) (is_mark b) inside k (digit_alone b) few number)

-- one is seen in a text where it has one
pub seen_in_all : (d : ℕ) (bs : List ℕ) → is_seen d false 0 bs ≡ has_long_number d bs
seen_in_all d bs = seen_as d false 0 bs (omega arith) (λ lt. absurd (omega arith))

-- ---- a text without a point or a mark has none

none_here : (point digits digit mark later : Bool) → point ≡ false → mark ≡ false → false ≡ later → false ≡ ((point && digits) || (((digit || point) && mark) || later))
none_here true digits digit mark later p m l = absurd (cc)
none_here false digits digit true later p m l = absurd (cc)
none_here false digits digit false later p m l =
    let P : Bool → Type 0 = λ x. false ≡ (x || later) in
    subst P (sym (and_none (digit || false))) l

pub none_without : (d : ℕ) (bs : List ℕ) → Nowhere (Passes (is_byte3 46 101 69) bs) 0 (length bs) → false ≡ has_long_number d bs
none_without d [] nowhere = refl
none_without d (b ∷ bs) nowhere =
    let here = none_of (b == 46) (b == 101) (b == 69) (nowhere 0 (omega arith) (omega arith)) in
    let later = none_without d bs (λ k low high. nowhere (suc k) (omega arith) (omega arith)) in
    let next = no_mark bs (λ k low high. nowhere (suc k) (omega arith) (omega arith)) in
    none_here (is_point b) (begins_with_digits (suc d) bs) (is_ascii_digit b) (begins_with_mark bs) (has_long_number d bs) here.0 next later
  where
    no_mark : (cs : List ℕ) → Nowhere (Passes (is_byte3 46 101 69) cs) 0 (length cs) → begins_with_mark cs ≡ false
    no_mark [] none = refl
    no_mark (c ∷ cs) none = (none_of (c == 46) (c == 101) (c == 69) (none 0 (omega arith) (omega arith))).1

pub nowhere_found : (bs : List ℕ) (place : Option ℕ) → is_some place ≡ false → IsFirstByte (is_byte3 46 101 69) bs place → Nowhere (Passes (is_byte3 46 101 69) bs) 0 (length bs)
nowhere_found bs None none first = first
nowhere_found bs (Some at) none first = absurd (cc)
