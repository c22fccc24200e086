-- The first line of a text.
use Rattle.std.proofs.Common.{◌≡◌, ℕ, suc, ◌+◌, ◌-◌, ◌<◌, ◌≤◌, Bool, true, false, eqb, List, [], ◌∷◌, ◌++◌, length, get_or, take, drop, refl, sym, ap, ◌∙◌, arith, inl, inr}
use Rattle.std.specs.Prelude.{All}
use Rattle.std.specs.List.{slice_split, enumerate_from, join_with_byte}
use Rattle.line_text.specs.Texts.{numbered_lines}
use Rattle.std.specs.Str.Lines.{lines, lines_of_parts, strip_carriage_return}
use Rattle.std.proofs.lemmas.Bool.{eqb-true, eq-eqb, ne_eqb, cases_lt, false_from_ne_true}
use Rattle.std.proofs.lemmas.List.{length-take, get_or-take, get_or_default, drop_more, take-append-drop, take_all, length-append}
use Rattle.std.proofs.lemmas.List.Splits.{slice_split_at, slice_split_none, length-slice_split, join_with_byte-slice_split}

parts_more : (line : List ℕ) (parts : List (List ℕ)) → 0 < length parts → lines_of_parts (line ∷ parts) ≡ strip_carriage_return line ∷ lines_of_parts parts
parts_more line [] h = absurd (omega arith)
parts_more line (next ∷ parts) h = refl

pub lines_cut : (line text : List ℕ) → All (λ b. eqb b 10 ≡ false) line → lines (line ++ 10 ∷ text) ≡ strip_carriage_return line ∷ lines text
lines_cut line text inside = rw (slice_split_at (λ b. eqb b 10) line 10 text inside refl) (parts_more line (slice_split (λ b. eqb b 10) text) (omega (arith, length-slice_split (λ b. eqb b 10) text)))

pub lines_last : (line : List ℕ) → 0 < length line → All (λ b. eqb b 10 ≡ false) line → lines line ≡ line ∷ []
lines_last [] some inside = absurd (omega arith)
lines_last (b ∷ line) some inside = let e : eqb (suc (length line)) 0 ≡ false = ne_eqb _ _ (omega arith) in rw (slice_split_none (λ b. eqb b 10) (b ∷ line) inside, e) refl

module _ (text : List ℕ) (n : ℕ) (nowhere : (k : ℕ) → 0 ≤ k → k < n → eqb (get_or text k 0) 10 ≡ true → ⊥) where
  inside : n ≤ length text → All (λ b. eqb b 10 ≡ false) (take n text)
  inside le = λ k d lt. let below : k < n = omega (arith, lt, length-take n text) in rw (get_or-take n text k d below, get_or_default text k d 0 (omega arith)) (false_from_ne_true _ (nowhere k (omega arith) below))

  pub first_ends : n < length text → eqb (get_or text n 0) 10 ≡ true → lines text ≡ strip_carriage_return (take n text) ∷ lines (drop (n + 1) text)
  first_ends lt here =
      let behind : drop n text ≡ 10 ∷ drop (n + 1) text = drop_more text n 0 lt ∙ ap (λ (b : ℕ). b ∷ drop (n + 1) text) (eqb-true _ _ here) in
      let parts : text ≡ take n text ++ 10 ∷ drop (n + 1) text = sym (take-append-drop n text) ∙ ap (λ (t : List ℕ). take n text ++ t) behind in
      ap lines parts ∙ lines_cut (take n text) (drop (n + 1) text) (inside (omega arith))

  pub first_is_last : n ≡ length text → 0 < n → lines text ≡ text ∷ []
  first_is_last e some = let whole : take n text ≡ text = take_all n text (omega arith) in lines_last text (omega arith) (rw whole at (inside (omega arith)))

-- there are no more lines than bytes
length-lines_of_parts : (parts : List (List ℕ)) → length (lines_of_parts parts) ≤ length (join_with_byte 10 parts)
length-lines_of_parts [] = omega arith
length-lines_of_parts (line ∷ []) = elim (cases_lt 0 (length line)) [
  | inl some ↦ let e : eqb (length line) 0 ≡ false = ne_eqb _ _ (omega arith) in rw e (omega arith)
  | inr none ↦ let e : eqb (length line) 0 ≡ true = eq-eqb _ _ (omega arith) in rw e (omega arith)
]
length-lines_of_parts (line ∷ next ∷ parts) = omega (arith, length-lines_of_parts (next ∷ parts), length-append line (10 ∷ join_with_byte 10 (next ∷ parts)))

length-enumerate_from : (n : ℕ) (xs : List (List ℕ)) → length (enumerate_from n xs) ≡ length xs
length-enumerate_from n [] = refl
length-enumerate_from n (x ∷ xs) = ap suc (length-enumerate_from (n + 1) xs)

pub few_lines : (n : ℕ) (text : List ℕ) → length (numbered_lines n text) ≤ length text
few_lines n text =
    let parts = slice_split (λ b. eqb b 10) text in
    omega (arith, length-enumerate_from n (lines text), length-lines_of_parts parts, ap length (join_with_byte-slice_split 10 text))

-- a line that is written with LF is read again
pub line_again : (line text : List ℕ) → All (λ b. eqb b 10 ≡ false) line → eqb (get_or line (length line - 1) 0) 13 ≡ false → lines (line ++ 10 ∷ text) ≡ line ∷ lines text
line_again line text inside no_return = lines_cut line text inside ∙ rw no_return refl
