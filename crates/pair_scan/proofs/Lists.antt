-- The first of a list that passes a test.
use Rattle.std.proofs.Common.{◌≡◌, Bool, true, false, cond, ◌&&◌, List, [], ◌∷◌, map, take, Option, Some, None, refl, ap, ◌∙◌}
use Rattle.std.specs.Prelude.{slice_get}
use Rattle.std.specs.List.{filter, find}
use Rattle.std.specs.Option.{option_map}
pub use Rattle.pair_paths.proofs.Walks.{rest_at, ended, made_all, made_more, each_once}

-- ---- the first that passes
pub find-map : {X Y : Type 0} (p : Y → Bool) (f : X → Y) (xs : List X) → find p (map f xs) ≡ option_map f (find (λ x. p (f x)) xs)
find-map p f [] = refl
find-map p f (x ∷ xs) = elim (p (f x)) as (λ b. cond b (Some (f x)) (find p (map f xs)) ≡ option_map f (cond b (Some x) (find (λ z. p (f z)) xs))) [
  | true ↦ refl
  | false ↦ find-map p f xs
]

pub find-filter : {X : Type 0} (p q : X → Bool) (xs : List X) → find p (filter q xs) ≡ find (λ x. q x && p x) xs
find-filter p q [] = refl
find-filter p q (x ∷ xs) = elim (q x) as (λ b. find p (cond b (x ∷ filter q xs) (filter q xs)) ≡ cond (b && p x) (Some x) (find (λ z. q z && p z) xs)) [
  | true ↦ ap (λ o. cond (p x) (Some x) o) (find-filter p q xs)
  | false ↦ find-filter p q xs
]

pub find-alike : {X : Type 0} (p q : X → Bool) → ((x : X) → p x ≡ q x) → (xs : List X) → find p xs ≡ find q xs
find-alike p q same [] = refl
find-alike p q same (x ∷ xs) = ap (λ b. cond b (Some x) (find p xs)) (same x) ∙ ap (λ o. cond (q x) (Some x) o) (find-alike p q same xs)

pub option_map-option_map : {X Y Z : Type 0} (g : Y → Z) (f : X → Y) (o : Option X) → option_map g (option_map f o) ≡ option_map (λ x. g (f x)) o
option_map-option_map g f None = refl
option_map-option_map g f (Some x) = refl

-- ---- the first item
pub head_of_one : {X : Type 0} (xs : List X) → slice_get xs 0 ≡ slice_get (take 1 xs) 0
head_of_one [] = refl
head_of_one (x ∷ xs) = refl

pub head_filtered : {X Y : Type 0} (g : X → Y) (test : X → Bool) (xs : List X) → slice_get (map g (filter test xs)) 0 ≡ option_map g (find test xs)
head_filtered g test [] = refl
head_filtered {X} {Y} g test (x ∷ xs) = by_test (test x) (head_filtered g test xs)
  where
    by_test : (b : Bool) → slice_get (map g (filter test xs)) 0 ≡ option_map g (find test xs) → slice_get (map g (cond b (x ∷ filter test xs) (filter test xs))) 0 ≡ option_map g (cond b (Some x) (find test xs))
    by_test true h = refl
    by_test false h = h
