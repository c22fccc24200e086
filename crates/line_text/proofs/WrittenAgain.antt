-- A line that is written word by word is cut into its words again.
use Rattle.std.proofs.Common.{◌≡◌, ℕ, ◌-◌, ◌<◌, ◌≤◌, Bool, true, false, eqb, leb, ◌&&◌, List, [], ◌∷◌, ◌++◌, length, get_or, refl, sym, ap, ◌∙◌, arith, append_assoc}
use Rattle.std.specs.Prelude.{not}
use Rattle.std.specs.List.{AllByRecursion, list_all}
use Rattle.std.specs.Str.Lines.{lines}
use Rattle.std.proofs.lemmas.Bool.{and_parts, and_from, leb-true, ne_eqb, not-true}
use Rattle.std.proofs.lemmas.List.{length-append}
use Rattle.std.proofs.lemmas.List.Recursion.{and_at}
use Rattle.line_text.specs.Texts.{words_of, is_blank, is_comment}
use Rattle.line_text.specs.WrittenLines.{line_of_words, body_of_words}
use Rattle.line_text.proofs.WordCuts.{IsPlain, word_again, last_word_again}
use Rattle.line_text.proofs.LineCuts.{line_again}
use Rattle.line_text.proofs.FixedAgain.{IsNumberWord, is_number_byte}

-- a line is its words with one space between them, and LF
pub line_of_words-body : (word : List ℕ) (words : List (List ℕ)) → line_of_words (word ∷ words) ≡ body_of_words (word ∷ words) ++ 10 ∷ []
line_of_words-body word [] = refl
line_of_words-body word (next ∷ words) = ap (λ (t : List ℕ). word ++ 32 ∷ t) (line_of_words-body next words) ∙ sym (append_assoc word (32 ∷ body_of_words (next ∷ words)) (10 ∷ []))

-- bytes that end no line and continue none
abbrev pub is_calm : ℕ → Bool
is_calm b = not (eqb b 10) && (not (eqb b 13) && not (eqb b 92))

calm-append : (xs ys : List ℕ) → list_all is_calm xs ≡ true → list_all is_calm ys ≡ true → list_all is_calm (xs ++ ys) ≡ true
calm-append [] ys p q = q
calm-append (x ∷ xs) ys p q = let r = and_parts (is_calm x) (list_all is_calm xs) p in and_from (is_calm x) (list_all is_calm (xs ++ ys)) r.0 (calm-append xs ys r.1 q)

number_is_calm : (b : ℕ) → is_number_byte b ≡ true → is_calm b ≡ true
number_is_calm b h =
    let p = and_parts (leb 45 b) (leb b 57) h in
    let low : 45 ≤ b = leb-true 45 b p.0 in
    let high : b ≤ 57 = leb-true b 57 p.1 in
    let e : eqb b 10 ≡ false = ne_eqb _ _ (omega arith) in
    let f : eqb b 13 ≡ false = ne_eqb _ _ (omega arith) in
    let g : eqb b 92 ≡ false = ne_eqb _ _ (omega arith) in
    rw (e, f, g) refl

numbers_are_calm : (word : List ℕ) → list_all is_number_byte word ≡ true → list_all is_calm word ≡ true
numbers_are_calm [] h = refl
numbers_are_calm (b ∷ word) h = let p = and_parts (is_number_byte b) (list_all is_number_byte word) h in and_from (is_calm b) (list_all is_calm word) (number_is_calm b p.0) (numbers_are_calm word p.1)

calm_at : (body : List ℕ) → list_all is_calm body ≡ true → (k d : ℕ) → k < length body → (eqb (get_or body k d) 10 ≡ false) × (eqb (get_or body k d) 13 ≡ false) × (eqb (get_or body k d) 92 ≡ false)
calm_at body calm k d lt =
    let here = and_at (list_all is_calm) is_calm refl (λ _ _. refl) body k d lt calm in
    let b = get_or body k d in
    let p = and_parts (not (eqb b 10)) (not (eqb b 13) && not (eqb b 92)) here in
    let q = and_parts (not (eqb b 13)) (not (eqb b 92)) p.1 in
    (not-true (eqb b 10) p.0, not-true (eqb b 13) q.0, not-true (eqb b 92) q.1)

-- a word that is cut as it was written
pub record IsSpelled (word : List ℕ) : Type 0 where
  pub plain : IsPlain word
  pub calm : list_all is_calm word ≡ true

-- of a fixed word tests compute that it is cut so
pub tests_spell : (word : List ℕ) → 0 < length word → list_all (λ b. not (is_blank b)) word ≡ true → is_comment word ≡ false → list_all is_calm word ≡ true → IsSpelled word
tests_spell word some inside no_comment calm = record {
  plain = record {
    some = some;
    inside = λ k lt. not-true (is_blank (get_or word k 0)) (and_at (list_all (λ b. not (is_blank b))) (λ b. not (is_blank b)) refl (λ _ _. refl) word k 0 lt inside);
    no_comment = no_comment;
  };
  calm = calm;
}

pub number_is_spelled : (word : List ℕ) → IsNumberWord word → IsSpelled word
number_is_spelled word h = record { plain = h.plain; calm = numbers_are_calm word h.bytes }

body_is_calm : (word : List ℕ) (words : List (List ℕ)) → AllByRecursion IsSpelled (word ∷ words) → list_all is_calm (body_of_words (word ∷ words)) ≡ true
body_is_calm word [] h = h.0.calm
body_is_calm word (next ∷ words) h = calm-append word (32 ∷ body_of_words (next ∷ words)) h.0.calm (body_is_calm next words h.1)

body_is_some : (word : List ℕ) (words : List (List ℕ)) → AllByRecursion IsSpelled (word ∷ words) → 0 < length (body_of_words (word ∷ words))
body_is_some word [] h = h.0.plain.some
body_is_some word (next ∷ words) h = omega (arith, length-append word (32 ∷ body_of_words (next ∷ words)))

pub words_again : (word : List ℕ) (words : List (List ℕ)) → AllByRecursion IsSpelled (word ∷ words) → words_of (body_of_words (word ∷ words)) ≡ word ∷ words
words_again word [] h = last_word_again word h.0.plain
words_again word (next ∷ words) h = word_again word (body_of_words (next ∷ words)) h.0.plain ∙ ap (λ ws. word ∷ ws) (words_again next words h.1)

pub first_line_again : (word : List ℕ) (words : List (List ℕ)) (rest : List ℕ) → AllByRecursion IsSpelled (word ∷ words) → lines (line_of_words (word ∷ words) ++ rest) ≡ body_of_words (word ∷ words) ∷ lines rest
first_line_again word words rest h =
    let body = body_of_words (word ∷ words) in
    let calm = body_is_calm word words h in
    let some = body_is_some word words h in
    let text : line_of_words (word ∷ words) ++ rest ≡ body ++ 10 ∷ rest = ap (λ (t : List ℕ). t ++ rest) (line_of_words-body word words) ∙ append_assoc body (10 ∷ []) rest in
    ap lines text ∙ line_again body rest (λ k d lt. (calm_at body calm k d lt).0) (calm_at body calm (length body - 1) 0 (omega arith)).1

-- no line is continued
pub not_continued : (word : List ℕ) (words : List (List ℕ)) → AllByRecursion IsSpelled (word ∷ words) → let body = body_of_words (word ∷ words) in eqb (get_or body (length body - 1) 0) 92 ≡ false
not_continued word words h =
    let body = body_of_words (word ∷ words) in
    let some = body_is_some word words h in
    (calm_at body (body_is_calm word words h) (length body - 1) 0 (omega arith)).2

-- of words of small letters a test computes
abbrev pub is_letter : ℕ → Bool
is_letter b = leb 97 b && leb b 122

letters_are_calm : (word : List ℕ) → list_all is_letter word ≡ true → list_all is_calm word ≡ true
letters_are_calm [] h = refl
letters_are_calm (b ∷ word) h =
    let p = and_parts (is_letter b) (list_all is_letter word) h in
    let low : 97 ≤ b = leb-true 97 b (and_parts (leb 97 b) (leb b 122) p.0).0 in
    let e : eqb b 10 ≡ false = ne_eqb _ _ (omega arith) in
    let f : eqb b 13 ≡ false = ne_eqb _ _ (omega arith) in
    let g : eqb b 92 ≡ false = ne_eqb _ _ (omega arith) in
    rw (e, f, g) (letters_are_calm word p.1)

pub letters_are_spelled : (word : List ℕ) → 0 < length word → list_all is_letter word ≡ true → IsSpelled word
letters_are_spelled word some h =
    let low = λ (k : ℕ) (lt : k < length word). leb-true 97 (get_or word k 0) (and_parts (leb 97 (get_or word k 0)) (leb (get_or word k 0) 122) (and_at (list_all is_letter) is_letter refl (λ _ _. refl) word k 0 lt h)).0 in
    record {
      plain = record {
        some = some;
        inside = λ k lt. (let e : eqb (get_or word k 0) 32 ≡ false = ne_eqb _ _ (omega (arith, low k lt)) in let f : eqb (get_or word k 0) 9 ≡ false = ne_eqb _ _ (omega (arith, low k lt)) in rw (e, f) refl);
        no_comment = ne_eqb _ _ (omega (arith, low 0 some));
      };
      calm = letters_are_calm word h;
    }
