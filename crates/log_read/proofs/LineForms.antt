-- Forms of lines that are read exactly from their words.
use Rattle.std.proofs.Common.{◌≡◌, ℕ, ◌<◌, ◌^◌, Bool, true, List, [], ◌∷◌, ◌++◌, length, Result, Ok, refl, sym, ap, subst, ◌∙◌, arith}
use Rattle.std.specs.Prelude.{decimal}
use Rattle.line_text.specs.declared.TextWhy.{TextWhy}
use Rattle.line_text.specs.declared.TextFault.{TextFault}
use Rattle.line_text.specs.Faults.{◌>>=◌}
use Rattle.line_text.specs.Spellings.{spelled_at, count_with_end}
use Rattle.mesh_base.specs.declared.PairName.{PairName}
use Rattle.mesh_base.specs.declared.Scale.{Scale}
use Rattle.log_text.specs.declared.LogLine.{LogLine}
use Rattle.log_read.specs.Fields.{Reader, both}
use Rattle.log_text.specs.Lines.{line_words, pair_words}
use Rattle.log_read.specs.Values.{whole, without_more_words, pair_at, fault_at}
use Rattle.log_read.specs.Laws.{IsFrom, IsPairInRange, IsInRange, IsOfVersion}
use Rattle.line_text.proofs.ReadSteps.{bound, ok_same}
use Rattle.log_read.proofs.Exactness.{IsExact, count_with_end-length, count_with_end-of_read, whole-of_written, whole-of_read, spelled_at-exact}
use Rattle.log_read.proofs.Spellings.{two_numbers, pair_at-exact, FaultFits, fault_at-exact, fault_words}

-- the words are those of a line in range, and LF stands after them
pub record IsSpelling (scale : Scale) (version : ℕ) (ended : Bool) (words : List (List ℕ)) (l : LogLine) : Type 0 where
  pub has_end : ended ≡ true
  pub same : line_words l ≡ words
  pub fits : IsInRange scale l
  pub of_version : IsOfVersion version l

-- a line that is made of the value that its last words give
abbrev pub Makes : {A : Type 0} → Scale → ℕ → List (List ℕ) → (A → List (List ℕ)) → (A → Type 0) → (A → LogLine) → Type 0
Makes {A} scale version front wa R make = (a : A) → R a → (line_words (make a) ≡ front ++ wa a) × IsInRange scale (make a) × IsOfVersion version (make a)

module _ {A : Type 0} (read : Reader A) (wa : A → List (List ℕ)) (R : A → Type 0) (f : IsExact read wa R) (count : ℕ) (long : (a : A) → length (wa a) ≡ count) (make : A → LogLine) where
  pub again : (a : A) → R a → (whole true count read (wa a) >>= λ a. Ok (make a)) ≡ Ok (make a)
  again a r = ap (λ (found : Result A TextWhy). found >>= λ a. Ok (make a)) (whole-of_written read wa R f count long a r)

  pub spelled : (scale : Scale) (version : ℕ) (front : List (List ℕ)) → Makes scale version front wa R make → (ended : Bool) (words : List (List ℕ)) (l : LogLine) → (whole ended count read words >>= λ a. Ok (make a)) ≡ Ok l → IsSpelling scale version ended (front ++ words) l
  spelled scale version front makes ended words l h =
      let b = bound (whole ended count read words) (λ (a : A). Ok (make a)) l h in
      let w = whole-of_read read wa R f count long ended words b.value b.first in
      let m = makes b.value w.2 in
      let here : IsSpelling scale version ended (front ++ words) (make b.value) = record { has_end = w.0; same = m.0 ∙ ap (λ (t : List (List ℕ)). front ++ t) (sym w.1); fits = m.1; of_version = m.2 } in
      subst (IsSpelling scale version ended (front ++ words)) (ok_same (make b.value) l b.after) here

-- a line with no further word
pub alone_again : (l : LogLine) → without_more_words true l [] ≡ Ok l
alone_again l = ap (λ (found : Result (Unit {0}) TextWhy). found >>= λ u. Ok l) (count_with_end-length 0 [] refl)

pub alone_spelled : (scale : Scale) (version : ℕ) (front : List (List ℕ)) (ended : Bool) (k : LogLine) (words : List (List ℕ)) (l : LogLine) → line_words k ≡ front ++ [] → IsInRange scale k → IsOfVersion version k → without_more_words ended k words ≡ Ok l → IsSpelling scale version ended (front ++ words) l
alone_spelled scale version front ended k words l same range of h =
    let b = bound (count_with_end ended 0 words) (λ (u : Unit {0}). Ok k) l h in
    let n = count_with_end-of_read ended 0 words b.value b.first in
    let here : IsSpelling scale version ended (front ++ words) k = record { has_end = n.0; same = same ∙ ap (λ (t : List (List ℕ)). front ++ t) (sym (none words n.1)); fits = range; of_version = of } in
    subst (IsSpelling scale version ended (front ++ words)) (ok_same k l b.after) here
  where
    none : (words : List (List ℕ)) → length words ≡ 0 → words ≡ []
    none [] e = refl
    none (w ∷ ws) e = absurd (omega (arith, e))

abbrev pub one : ℕ → List (List ℕ)
one n = decimal n ∷ []

pub number_of : (low high : ℕ) → high < 2 ^ 64 → IsExact (spelled_at low high) one (IsFrom low high)
number_of low high small = spelled_at-exact low high small

pub one_long : (n : ℕ) → length (one n) ≡ 1
one_long n = refl

-- a line with one number
pub one_again : (low high : ℕ) → high < 2 ^ 64 → (make : ℕ → LogLine) (n : ℕ) → IsFrom low high n → (whole true 1 (spelled_at low high) (decimal n ∷ []) >>= λ n. Ok (make n)) ≡ Ok (make n)
one_again low high small make n r = again (spelled_at low high) one (IsFrom low high) (number_of low high small) 1 one_long make n r

pub one_spelled : (scale : Scale) (version low high : ℕ) → high < 2 ^ 64 → (make : ℕ → LogLine) (front : List (List ℕ)) → Makes scale version front one (IsFrom low high) make → (ended : Bool) (words : List (List ℕ)) (l : LogLine) → (whole ended 1 (spelled_at low high) words >>= λ n. Ok (make n)) ≡ Ok l → IsSpelling scale version ended (front ++ words) l
one_spelled scale version low high small make front makes ended words l h = spelled (spelled_at low high) one (IsFrom low high) (number_of low high small) 1 one_long make scale version front makes ended words l h

-- a line with two numbers
abbrev pub Two : Type 0
Two = ℕ × ℕ

abbrev pub two : Two → List (List ℕ)
two p = decimal p.0 ∷ decimal p.1 ∷ []

abbrev pub AreFrom : ℕ → ℕ → ℕ → ℕ → Two → Type 0
AreFrom a b c d p = IsFrom a b p.0 × IsFrom c d p.1

pub two_again : (a b c d : ℕ) → b < 2 ^ 64 → d < 2 ^ 64 → (make : Two → LogLine) (p : Two) → AreFrom a b c d p → (whole true 2 (both (spelled_at a b) (spelled_at c d)) (two p) >>= λ p. Ok (make p)) ≡ Ok (make p)
two_again a b c d x y make p r = again (both (spelled_at a b) (spelled_at c d)) two (AreFrom a b c d) (two_numbers a b c d x y) 2 (λ p. refl) make p r

pub two_spelled : (scale : Scale) (version a b c d : ℕ) → b < 2 ^ 64 → d < 2 ^ 64 → (make : Two → LogLine) (front : List (List ℕ)) → Makes scale version front two (AreFrom a b c d) make → (ended : Bool) (words : List (List ℕ)) (l : LogLine) → (whole ended 2 (both (spelled_at a b) (spelled_at c d)) words >>= λ p. Ok (make p)) ≡ Ok l → IsSpelling scale version ended (front ++ words) l
two_spelled scale version a b c d x y make front makes ended words l h = spelled (both (spelled_at a b) (spelled_at c d)) two (AreFrom a b c d) (two_numbers a b c d x y) 2 (λ p. refl) make scale version front makes ended words l h

-- lines with a pair, and with a fault
pub pair_again : (make : PairName → LogLine) (p : PairName) → IsPairInRange p → (whole true 3 pair_at (pair_words p) >>= λ p. Ok (make p)) ≡ Ok (make p)
pair_again make p r = again pair_at pair_words IsPairInRange pair_at-exact 3 (λ p. refl) make p r

pub pair_spelled : (scale : Scale) (version : ℕ) (make : PairName → LogLine) (front : List (List ℕ)) → Makes scale version front pair_words IsPairInRange make → (ended : Bool) (words : List (List ℕ)) (l : LogLine) → (whole ended 3 pair_at words >>= λ p. Ok (make p)) ≡ Ok l → IsSpelling scale version ended (front ++ words) l
pair_spelled scale version make front makes ended words l h = spelled pair_at pair_words IsPairInRange pair_at-exact 3 (λ p. refl) make scale version front makes ended words l h

pub fault_again : (groups : Bool) (make : TextFault → LogLine) (f : TextFault) → FaultFits groups f → (whole true 2 (fault_at groups) (fault_words f) >>= λ f. Ok (make f)) ≡ Ok (make f)
fault_again groups make f r = again (fault_at groups) fault_words (FaultFits groups) (fault_at-exact groups) 2 (λ p. refl) make f r

pub fault_spelled : (scale : Scale) (version : ℕ) (groups : Bool) (make : TextFault → LogLine) (front : List (List ℕ)) → Makes scale version front fault_words (FaultFits groups) make → (ended : Bool) (words : List (List ℕ)) (l : LogLine) → (whole ended 2 (fault_at groups) words >>= λ f. Ok (make f)) ≡ Ok l → IsSpelling scale version ended (front ++ words) l
fault_spelled scale version groups make front makes ended words l h = spelled (fault_at groups) fault_words (FaultFits groups) (fault_at-exact groups) 2 (λ p. refl) make scale version front makes ended words l h
