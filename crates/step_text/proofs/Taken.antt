-- How many words a reader takes.
use Rattle.std.proofs.Common.{◌≡◌, ℕ, ◌+◌, suc, false, List, [], ◌∷◌, length, Ok, ap, sym, subst, ◌∙◌, arith}
use Rattle.std.specs.Prelude.{ℤ, codes}
use Rattle.std.specs.Str.{bytes_eq}
use Rattle.line_text.specs.declared.TextWhy.TheVariants.{Short}
use Rattle.line_text.specs.Fields.{count_is, number_at, number_from, signed_at, number_up_to}
use Rattle.line_text.specs.Numbers.{whole_parts}
use Rattle.line_text.proofs.ReadSteps.{bound, ok_same, fault_value}
use Rattle.step_text.specs.declared.directive.Directive.{Directive}
use Rattle.step_text.specs.Steps.{shift_one_of, shift_of}

-- a number is one word
pub number_taken : (low high : ℕ) (words : List (List ℕ)) (n : ℕ × List (List ℕ)) → number_at low high words ≡ Ok n → length words ≡ length n.1 + 1
unfolding number_at
number_taken low high [] n h = fault_value Short n h
number_taken low high (word ∷ words) n h =
    let b = bound (number_from low high (whole_parts word)) (λ (m : ℕ). Ok (m, words)) n h in
    let same = ap (λ (m : ℕ × List (List ℕ)). length m.1) (ok_same (b.value, words) n b.after) in
    omega (arith, same)

-- a number with its sign is one word
pub signed_taken : (most : ℕ) (words : List (List ℕ)) (n : ℤ × List (List ℕ)) → signed_at most words ≡ Ok n → length words ≡ length n.1 + 1
unfolding signed_at
signed_taken most [] n h = fault_value Short n h
signed_taken most (word ∷ words) n h =
    let b = bound (number_up_to most (whole_parts word)) (λ (m : ℤ). Ok (m, words)) n h in
    let same = ap (λ (m : ℤ × List (List ℕ)). length m.1) (ok_same (b.value, words) n b.after) in
    omega (arith, same)

-- four words, of which the first is not `all`, are the shift of one vertex
shift_of_four : (who : List ℕ) (words : List (List ℕ)) (what : Directive) → bytes_eq who (codes "all") ≡ false → length words ≡ 3 → shift_one_of (who ∷ words) ≡ Ok what → Ok what ≡ shift_of (who ∷ words)
unfolding shift_of count_is
shift_of_four who words what other three h = rw (three, other) (sym h)

pub shift_from_four : (who : List ℕ) (all words : List (List ℕ)) (what : Directive) → all ≡ who ∷ words → bytes_eq who (codes "all") ≡ false → length all ≡ 4 → shift_one_of all ≡ Ok what → Ok what ≡ shift_of all
shift_from_four who all words what is other four h =
    let P : List (List ℕ) → Type 0 = λ ws. Ok what ≡ shift_of ws in
    let more : suc (length words) ≡ 4 = sym (ap (λ (ws : List (List ℕ)). length ws) is) ∙ four in
    subst P (sym is) (shift_of_four who words what other (omega (arith, more)) (subst (λ ws. shift_one_of ws ≡ Ok what) is h))
