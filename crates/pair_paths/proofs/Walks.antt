-- Walks over lists.
use Rattle.std.proofs.Common.{◌≡◌, ℕ, zero, suc, ◌+◌, ◌<◌, ◌≤◌, List, [], ◌∷◌, ◌++◌, length, get_or, drop, refl, sym, ap, ◌∙◌, append-nil, append_assoc, add-one, arith}
use Rattle.std.specs.List.{flat_map}
use Rattle.std.proofs.Math.Seq.{drop-cons}

pub rest_at : {X : Type 0} (xs : List X) (i : ℕ) (d : X) → i < length xs → drop i xs ≡ get_or xs i d ∷ drop (i + 1) xs
rest_at xs i d h = rw add-one (drop-cons xs i d h)

pub ended : {X : Type 0} (xs : List X) (i : ℕ) → length xs ≤ i → drop i xs ≡ []
ended [] zero h = refl
ended [] (suc i) h = refl
ended (x ∷ xs) zero h = absurd (omega arith)
ended (x ∷ xs) (suc i) h = ended xs i (omega arith)

-- ---- a list that is made on a walk
-- what is made at the end
pub made_all : {X Y : Type 0} (f : X → List Y) (xs : List X) (i : ℕ) (made : List Y) → length xs ≤ i → made ++ flat_map f (drop i xs) ≡ made
made_all f xs i made h = ap (λ zs. made ++ flat_map f zs) (ended xs i h) ∙ append-nil made

-- what is made after one more
pub made_more : {X Y : Type 0} (f : X → List Y) (xs : List X) (i : ℕ) (d : X) (made more all : List Y) → i < length xs → more ≡ made ++ f (get_or xs i d) → made ++ flat_map f (drop i xs) ≡ all → more ++ flat_map f (drop (i + 1) xs) ≡ all
made_more f xs i d made more all inside one before =
    ap (λ ys. ys ++ flat_map f (drop (i + 1) xs)) one
    ∙ append_assoc made (f (get_or xs i d)) (flat_map f (drop (i + 1) xs))
    ∙ ap (λ zs. made ++ flat_map f zs) (sym (rest_at xs i d inside))
    ∙ before

-- a list is made of its items, one by one
pub each_once : {X : Type 0} (xs : List X) → flat_map (λ x. x ∷ []) xs ≡ xs
each_once [] = refl
each_once (x ∷ xs) = ap (λ ys. x ∷ ys) (each_once xs)
