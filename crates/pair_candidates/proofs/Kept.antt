-- What is kept of lists made of lists.
use Rattle.std.proofs.Common.{◌≡◌, Bool, true, false, cond, ◌&&◌, List, [], ◌∷◌, ◌++◌, map, Some, None, refl, sym, ap, ◌∙◌}
use Rattle.std.specs.List.{filter, flat_map}
use Rattle.std.proofs.lemmas.List.Elements.{filter-append}
use Rattle.pair_candidates.specs.Told.{one_or_none}

-- ---- lists made of lists
map-append : {X Y : Type 0} (f : X → Y) (xs ys : List X) → map f (xs ++ ys) ≡ map f xs ++ map f ys
map-append f [] ys = refl
map-append f (x ∷ xs) ys = ap (λ zs. f x ∷ zs) (map-append f xs ys)

pub kept_by_list : {X Y Z : Type 0} (name : Y → Z) (p : Y → Bool) (f : X → List Y) (xs : List X) → map name (filter p (flat_map f xs)) ≡ flat_map (λ x. map name (filter p (f x))) xs
kept_by_list name p f [] = refl
kept_by_list name p f (x ∷ xs) =
    ap (map name) (filter-append p (f x) (flat_map f xs)) ∙ map-append name (filter p (f x)) (filter p (flat_map f xs))
    ∙ ap (λ zs. map name (filter p (f x)) ++ zs) (kept_by_list name p f xs)

-- those of a list that may be taken, and are kept
pub kept_of_taken : {X Y Z : Type 0} (taken : X → Bool) (f : X → Y) (p : Y → Bool) (name : Y → Z) (one : X → List Z) → ((x : X) → one x ≡ one_or_none (cond (taken x && p (f x)) (Some (name (f x))) None)) → (xs : List X)
    → flat_map one xs ≡ map name (filter p (map f (filter taken xs)))
kept_of_taken taken f p name one same [] = refl
kept_of_taken {X} {Y} {Z} taken f p name one same (x ∷ xs) =
    ap (λ zs. zs ++ flat_map one xs) (same x) ∙ ap (λ zs. one_or_none (cond (taken x && p (f x)) (Some (name (f x))) None) ++ zs) (kept_of_taken taken f p name one same xs)
    ∙ by_tests (taken x) (p (f x)) refl
  where
    by_tests : (a b : Bool) → p (f x) ≡ b → one_or_none (cond (a && b) (Some (name (f x))) None) ++ map name (filter p (map f (filter taken xs))) ≡ map name (filter p (map f (cond a (x ∷ filter taken xs) (filter taken xs))))
    by_tests false b e = refl
    by_tests true true e = sym (ap (λ t. map name (cond t (f x ∷ filter p (map f (filter taken xs))) (filter p (map f (filter taken xs))))) e)
    by_tests true false e = sym (ap (λ t. map name (cond t (f x ∷ filter p (map f (filter taken xs))) (filter p (map f (filter taken xs))))) e)
