-- Words that are written with a space in front of each.
use Rattle.std.proofs.Common.{◌≡◌, ℕ, ◌+◌, ◌<◌, List, [], ◌∷◌, ◌++◌, length, map, drop, get_or, refl, sym, ap, subst, ◌∙◌, arith, append_assoc, suc, add-one, drop-cons}
use Rattle.std.specs.List.{join_with_byte}
use Rattle.std.proofs.lemmas.List.{append-nil, take_all}
use Rattle.line_text.specs.WrittenLines.{Keeps}
use Rattle.line_text.proofs.WordPuts.{kept_more}
use Rattle.edit_base.specs.declared.CopyAt.{CopyAt}
use Rattle.log_text.specs.Lines.{spaced, place_words, places_words}

-- what stood there stands in front of itself
pub kept_same : (text : List ℕ) → Keeps text text
kept_same text = take_all (length text) text (omega arith)

pub spaced-append : (xs ys : List (List ℕ)) → spaced (xs ++ ys) ≡ spaced xs ++ spaced ys
spaced-append [] ys = refl
spaced-append (x ∷ xs) ys = ap (λ (t : List ℕ). 32 ∷ x ++ t) (spaced-append xs ys) ∙ ap (λ (t : List ℕ). 32 ∷ t) (sym (append_assoc x (spaced xs) (spaced ys)))

-- words with one space between them are the first, and each other with a space in front
pub join-spaced : (word : List ℕ) (words : List (List ℕ)) → join_with_byte 32 (word ∷ words) ≡ word ++ spaced words
join-spaced word [] = sym (append-nil word)
join-spaced word (next ∷ words) = ap (λ (t : List ℕ). word ++ 32 ∷ t) (join-spaced next words)

-- the text so far and the words that are left are what stood there and all words
pub record Spacing (start : List ℕ) (words left : List (List ℕ)) (text : List ℕ) : Type 0 where
  pub kept : Keeps start text
  pub same : text ++ spaced left ≡ start ++ spaced words

pub Spacing-first : (start : List ℕ) (words : List (List ℕ)) → Spacing start words words start
Spacing-first start words = record { kept = kept_same start; same = refl }

-- some more words are written
pub Spacing-more : (start : List ℕ) (words some left : List (List ℕ)) (text : List ℕ) → Spacing start words (some ++ left) text → Spacing start words left (text ++ spaced some)
Spacing-more start words some left text h = record {
  kept = kept_more start text (spaced some) h.kept;
  same = append_assoc text (spaced some) (spaced left) ∙ ap (λ (t : List ℕ). text ++ t) (sym (spaced-append some left)) ∙ h.same;
}

-- some more words are written, the first of those that were left
pub Spacing-some : (start : List ℕ) (words some left all : List (List ℕ)) (text next : List ℕ) → Spacing start words all text → all ≡ some ++ left → next ≡ text ++ spaced some → Spacing start words left next
Spacing-some start words some left all text next h e k =
    subst (λ (t : List ℕ). Spacing start words left t) (sym k) (Spacing-more start words some left text (subst (λ (t : List (List ℕ)). Spacing start words t text) e h))

-- one more word is written
pub Spacing-word : (start : List ℕ) (words : List (List ℕ)) (word : List ℕ) (left all : List (List ℕ)) (text next : List ℕ) → Spacing start words all text → all ≡ word ∷ left → next ≡ text ++ 32 ∷ word → Spacing start words left next
Spacing-word start words word left all text next h e k =
    Spacing-some start words (word ∷ []) left all text next h e (k ∙ ap (λ (t : List ℕ). text ++ 32 ∷ t) (sym (append-nil word)))

-- the words that are left are the next one and those after it
pub map_drop : {A : Type 0} (f : A → List ℕ) (xs : List A) (i : ℕ) (d : A) → i < length xs → map f (drop i xs) ≡ f (get_or xs i d) ∷ map f (drop (i + 1) xs)
map_drop f xs i d h = rw (add-one, drop-cons xs i d) refl

pub places_drop : (xs : List CopyAt) (i : ℕ) (place : CopyAt) → place ≡ get_or xs i place → i < length xs → places_words (drop i xs) ≡ place_words place ++ places_words (drop (i + 1) xs)
places_drop xs i place e h = rw (add-one, drop-cons xs i place) (ap (λ (p : CopyAt). place_words p ++ places_words (drop (suc i) xs)) (sym e))

-- a line that is written as its first word, the others and LF
pub line_closed : (start word : List ℕ) (words : List (List ℕ)) → ((start ++ word) ++ spaced words) ++ 10 ∷ [] ≡ start ++ (join_with_byte 32 (word ∷ words) ++ 10 ∷ [])
line_closed start word words =
    append_assoc (start ++ word) (spaced words) (10 ∷ [])
    ∙ append_assoc start word (spaced words ++ 10 ∷ [])
    ∙ ap (λ (t : List ℕ). start ++ t) (sym (append_assoc word (spaced words) (10 ∷ [])))
    ∙ ap (λ (t : List ℕ). start ++ (t ++ 10 ∷ [])) (sym (join-spaced word words))

-- the same, where the first of the others is written apart
pub line_closed_after : (start word first : List ℕ) (words : List (List ℕ)) → (((start ++ word) ++ 32 ∷ first) ++ spaced words) ++ 10 ∷ [] ≡ start ++ (join_with_byte 32 (word ∷ first ∷ words) ++ 10 ∷ [])
line_closed_after start word first words = ap (λ (t : List ℕ). t ++ 10 ∷ []) (append_assoc (start ++ word) (32 ∷ first) (spaced words)) ∙ line_closed start word (first ∷ words)

-- two runs of words, one after the other
pub spaced_twice : (start : List ℕ) (xs ys : List (List ℕ)) → (start ++ spaced xs) ++ spaced ys ≡ start ++ spaced (xs ++ ys)
spaced_twice start xs ys = append_assoc start (spaced xs) (spaced ys) ∙ ap (λ (t : List ℕ). start ++ t) (sym (spaced-append xs ys))
