-- Faces that are looked up by their ids are the entries.
use Rattle.std.proofs.Common.{◌≡◌, ℕ, List, [], ◌∷◌, ◌++◌, map, Option, Some, None, refl, sym, ap, ◌∙◌}
use Rattle.std.specs.List.{flat_map, AllByRecursion}
use Rattle.std.specs.Option.{option_map}
use Rattle.std.specs.Ordering.{nat_cmp}
use Rattle.std.specs.FinMap as finite
use Rattle.std.specs.FinMap.{FinMap, entries_sorted, get-entries}
use Rattle.std.specs.FinMap.Entries.{find}
use Rattle.mesh_base.specs.declared.ids.Corners.{Corners}
use Rattle.mesh_base.specs.Changes.{corner_list, corners_of}
use Rattle.mesh_base.proofs.Listed.{each_found}
use Rattle.mesh_base.proofs.ListedPairs.{all_weaker}

-- each entry is found at its key
pub found_entries : {X : Type 0} (m : FinMap nat_cmp X) → AllByRecursion (λ e. finite.get m e.0 ≡ Some e.1) (finite.entries m)
found_entries m = all_weaker (λ e. find nat_cmp e.0 (finite.entries m) ≡ Some e.1) (λ e. finite.get m e.0 ≡ Some e.1) (finite.entries m) (λ e h. get-entries m e.0 ∙ h) (each_found (finite.entries m) (entries_sorted m))

-- what is found, in a list of one, or nothing
abbrev pub listed : {X Y : Type 0} → (X → List Y) → Option X → List Y
listed f None = []
listed f (Some x) = f x

made_of : {X Y : Type 0} (m : FinMap nat_cmp X) (f : ℕ × X → List Y) (es : List (ℕ × X)) → AllByRecursion (λ e. finite.get m e.0 ≡ Some e.1) es
    → flat_map (λ k. listed (λ x. f (k, x)) (finite.get m k)) (map (λ e. e.0) es) ≡ flat_map f es
made_of m f [] h = refl
made_of m f (e ∷ es) h =
    ap (λ o. listed (λ x. f (e.0, x)) o ++ flat_map (λ k. listed (λ x. f (k, x)) (finite.get m k)) (map (λ x. x.0) es)) h.0
    ∙ ap (λ ys. f e ++ ys) (made_of m f es h.1)

ones : {X Y : Type 0} (f : X → Y) (xs : List X) → flat_map (λ x. f x ∷ []) xs ≡ map f xs
ones f [] = refl
ones f (x ∷ xs) = ap (λ ys. f x ∷ ys) (ones f xs)

-- one of each entry, looked up by its key
pub made_each : {X Y : Type 0} (m : FinMap nat_cmp X) (f : ℕ × X → Y)
    → flat_map (λ k. listed (λ x. f (k, x) ∷ []) (finite.get m k)) (finite.keys m) ≡ map f (finite.entries m)
made_each m f = made_of m (λ e. f e ∷ []) (finite.entries m) (found_entries m) ∙ ones f (finite.entries m)

-- corners that are looked up as a list
pub looked_up : (o : Option Corners) (ids : List ℕ) → Some ids ≡ option_map corner_list o → o ≡ Some (corners_of ids)
looked_up None ids e = cc
looked_up (Some c) ids e = let same : ids ≡ corner_list c = cc in ap Some (sym (ap corners_of same))
