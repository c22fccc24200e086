-- Lines that were written word by word add what their words add.
use Rattle.std.proofs.Common.{◌≡◌, ℕ, ◌+◌, List, [], ◌∷◌, ◌++◌, length, Result, Ok, refl, ap, ◌∙◌, arith, append_assoc}
use Rattle.std.specs.List.{AllByRecursion, enumerate_from, flat_map}
use Rattle.line_text.specs.Texts.{numbered_lines}
use Rattle.line_text.specs.WrittenLines.{line_of_words, body_of_words}
use Rattle.line_text.proofs.WrittenAgain.{IsSpelled, words_again, first_line_again}
use Rattle.obj_text.specs.Obj.{Lists}
use Rattle.line_text.specs.declared.fault.TextWhy.{TextWhy}
use Rattle.other_text.specs.Lines.{lines_add}

pub line_adds : {P : Type 0} (words_add : P → List (List ℕ) → Result P TextWhy) (p q : P) (first : List ℕ) (others : List (List ℕ)) (n : ℕ) (rest : List ℕ) → AllByRecursion IsSpelled (first ∷ others) → words_add p (first ∷ others) ≡ Ok q → lines_add words_add p (numbered_lines n (line_of_words (first ∷ others) ++ rest)) ≡ lines_add words_add q (numbered_lines (n + 1) rest)
line_adds words_add p q first others n rest spelled adds =
    let start : numbered_lines n (line_of_words (first ∷ others) ++ rest) ≡ (n, body_of_words (first ∷ others)) ∷ numbered_lines (n + 1) rest = ap (enumerate_from n) (first_line_again first others rest spelled) in
    rw (start, words_again first others spelled, adds) refl

module _ {X P : Type 0} (words_add : P → List (List ℕ) → Result P TextWhy) (first : X → List ℕ) (others : X → List (List ℕ)) (at : List X → Lists → P) (with_item : Lists → X → Lists) where
  -- the line of the item is cut into its words again, and they add the item
  pub record Adds (x : X) : Type 0 where
    pub spelled : AllByRecursion IsSpelled (first x ∷ others x)
    pub adds : (xs : List X) (lists : Lists) → words_add (at (x ∷ xs) lists) (first x ∷ others x) ≡ Ok (at xs (with_item lists x))

  abbrev pub lists_after : Lists → List X → Lists
  lists_after lists [] = lists
  lists_after lists (x ∷ xs) = lists_after (with_item lists x) xs

  pub items_add : (items : List X) → AllByRecursion Adds items → (lists : Lists) (n : ℕ) (rest : List ℕ) → lines_add words_add (at items lists) (numbered_lines n (flat_map (λ x. line_of_words (first x ∷ others x)) items ++ rest)) ≡ lines_add words_add (at [] (lists_after lists items)) (numbered_lines (n + length items) rest)
  items_add [] h lists n rest = ap (λ (k : ℕ). lines_add words_add (at [] lists) (numbered_lines k rest)) (omega arith)
  items_add (x ∷ items) h lists n rest =
      let more = flat_map (λ y. line_of_words (first y ∷ others y)) items ++ rest in
      ap (λ (t : List ℕ). lines_add words_add (at (x ∷ items) lists) (numbered_lines n t)) (append_assoc (line_of_words (first x ∷ others x)) (flat_map (λ y. line_of_words (first y ∷ others y)) items) rest)
      ∙ line_adds words_add (at (x ∷ items) lists) (at items (with_item lists x)) (first x) (others x) n more h.0.spelled (h.0.adds items lists)
      ∙ items_add items h.1 (with_item lists x) (n + 1) rest
      ∙ ap (λ (k : ℕ). lines_add words_add (at [] (lists_after (with_item lists x) items)) (numbered_lines k rest)) (omega arith)
