-- A line that is written word by word.
use Rattle.std.proofs.Common.{◌≡◌, ℕ, ◌+◌, ◌-◌, ◌<◌, ◌≤◌, List, [], ◌∷◌, ◌++◌, length, get_or, drop, map, refl, sym, ap, ◌∙◌, arith, append_assoc}
use Rattle.std.proofs.lemmas.List.{append-nil, length-take, length-map, length-drop, take-append-le, drop_more, drop_all}
use Rattle.line_text.specs.declared.fields.Field.{Field}
use Rattle.line_text.specs.WrittenLines.{line_of_words, word_of, Keeps}

pub record Put (start : List ℕ) (fields : List Field) (i : ℕ) (text : List ℕ) : Type 0 where
  pub kept : Keeps start text
  pub same : text ++ line_of_words (map word_of (drop i fields)) ≡ start ++ line_of_words (map word_of fields)

one_word : (word : List ℕ) (words : List (List ℕ)) → length words ≡ 0 → line_of_words (word ∷ words) ≡ word ++ 10 ∷ []
one_word word [] h = refl
one_word word (next ∷ words) h = absurd (omega arith)

more_words : (word : List ℕ) (words : List (List ℕ)) → 0 < length words → line_of_words (word ∷ words) ≡ word ++ 32 ∷ line_of_words words
more_words word [] h = absurd (omega arith)
more_words word (next ∷ words) h = refl

-- what stood in front still does when more is written
pub kept_more : (start text more : List ℕ) → Keeps start text → Keeps start (text ++ more)
kept_more start text more h = let le : length start ≤ length text = omega (arith, length-take (length start) text, ap length h) in take-append-le (length start) text more le ∙ h

module _ (start : List ℕ) (fields : List Field) (i : ℕ) (text : List ℕ) (d : Field) (lt : i < length fields) (h : Put start fields i text) where
  rest : map word_of (drop i fields) ≡ word_of (get_or fields i d) ∷ map word_of (drop (i + 1) fields)
  rest = ap (map word_of) (drop_more fields i d lt)

  left : length (map word_of (drop (i + 1) fields)) ≡ length fields - (i + 1)
  left = length-map (drop (i + 1) fields) word_of ∙ length-drop (i + 1) fields

  pub Put-last : i + 1 ≡ length fields → Put start fields (i + 1) (text ++ word_of (get_or fields i d) ++ 10 ∷ [])
  Put-last last =
      let none : drop (i + 1) fields ≡ [] = drop_all (i + 1) fields (omega arith) in
      let one : line_of_words (map word_of (drop i fields)) ≡ word_of (get_or fields i d) ++ 10 ∷ [] = ap line_of_words rest ∙ one_word (word_of (get_or fields i d)) (map word_of (drop (i + 1) fields)) (omega (arith, left)) in
      record {
        kept = rw append_assoc (kept_more start text (word_of (get_or fields i d) ++ 10 ∷ []) h.kept);
        same = rw (none, append-nil, append_assoc) (ap (λ (t : List ℕ). text ++ t) (sym one) ∙ h.same);
      }

  pub Put-more : (i + 1 ≡ length fields → ⊥) → Put start fields (i + 1) (text ++ word_of (get_or fields i d) ++ 32 ∷ [])
  Put-more other =
      let some : line_of_words (map word_of (drop i fields)) ≡ word_of (get_or fields i d) ++ 32 ∷ line_of_words (map word_of (drop (i + 1) fields)) = ap line_of_words rest ∙ more_words (word_of (get_or fields i d)) (map word_of (drop (i + 1) fields)) (omega (arith, left)) in
      record {
        kept = rw append_assoc (kept_more start text (word_of (get_or fields i d) ++ 32 ∷ []) h.kept);
        same = simp append_assoc (ap (λ (t : List ℕ). text ++ t) (sym some) ∙ h.same);
      }
