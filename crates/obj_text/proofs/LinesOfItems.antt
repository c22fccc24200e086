-- Lines that are written for one item after another.
use Rattle.std.proofs.Common.{◌≡◌, ℕ, ◌+◌, ◌<◌, List, ◌++◌, length, take, get_or, ap, sym, ◌∙◌}
use Rattle.std.specs.List.{flat_map}
use Rattle.std.proofs.lemmas.List.{take_more, flat_map_more}

-- the line of one more item stands after those of the items before it
pub line_of_next : {A : Type 0} (line : A → List ℕ) (old text next : List ℕ) (xs : List A) (i : ℕ) (d : A) → i < length xs → text ≡ old ++ flat_map line (take i xs) → next ≡ text ++ line (get_or xs i d) → next ≡ old ++ flat_map line (take (i + 1) xs)
line_of_next {A = A} line old text next xs i d below before here =
    here ∙ ap (λ (t : List ℕ). t ++ line (get_or xs i d)) before ∙ flat_map_more line old (take i xs) (get_or xs i d) ∙ ap (λ (ys : List A). old ++ flat_map line ys) (sym (take_more xs i d below))

-- the same of an item that is known by another name
pub line_of_item : {A : Type 0} (line : A → List ℕ) (old text next : List ℕ) (xs : List A) (i : ℕ) (x : A) → x ≡ get_or xs i x → i < length xs → text ≡ old ++ flat_map line (take i xs) → next ≡ text ++ line x → next ≡ old ++ flat_map line (take (i + 1) xs)
line_of_item {A = A} line old text next xs i x is below before here = line_of_next line old text next xs i x below before (here ∙ ap (λ (y : A). text ++ line y) is)
