-- A text made by looking up each key of a map is the one made of its entries.
use Rattle.std.proofs.Common.{◌≡◌, ℕ, zero, suc, ◌<◌, List, [], ◌∷◌, ◌++◌, length, get_or, map, Some, None, Option, IsSome, is_some, refl, sym, ap, ◌∙◌, arith}
use Rattle.std.specs.List.{flat_map, AllByRecursion}
use Rattle.std.specs.Ordering.{nat_cmp}
use Rattle.std.specs.FinMap as finite
use Rattle.std.specs.FinMap.{FinMap, get-entries, entries_sorted}
use Rattle.std.specs.FinMap.Entries.{find}
use Rattle.std.specs.Prelude.{codes, decimal}
use Rattle.std.specs.Option.{option_map}
use Rattle.mesh_base.proofs.Listed.{each_found}
use Rattle.mesh_base.specs.declared.Corners.{Corners}
use Rattle.mesh_base.specs.Changes.{corner_list}
use Rattle.mesh_base.specs.Mesh.{Mesh}
use Rattle.line_text.specs.WrittenLines.{line_of_words}
use Rattle.obj_text.specs.Written.{rank_among, rank, face_line}

-- the text of what was found
abbrev pub text_of_found : {X : Type 0} → (X → List ℕ) → Option X → List ℕ
text_of_found f (Some x) = f x
text_of_found f None = []

module _ {X : Type 0} (m : FinMap nat_cmp X) where
  abbrev Found : ℕ × X → Type 0
  Found e = find nat_cmp e.0 (finite.entries m) ≡ Some e.1

  live_along : (es : List (ℕ × X)) → AllByRecursion Found es → (i d : ℕ) → i < length (map (λ e. e.0) es) → IsSome (finite.get m (get_or (map (λ e. e.0) es) i d))
  live_along [] h i d lt = absurd (omega arith)
  live_along (e ∷ es) h zero d lt = ap is_some (get-entries m e.0 ∙ h.0)
  live_along (e ∷ es) h (suc i) d lt = live_along es h.1 i d (omega arith)

  -- each key is live
  pub key_is_live : (i d : ℕ) → i < length (finite.keys m) → IsSome (finite.get m (get_or (finite.keys m) i d))
  key_is_live i d lt = live_along (finite.entries m) (each_found (finite.entries m) (entries_sorted m)) i d lt

  module _ (f : X → List ℕ) where
    along : (es : List (ℕ × X)) → AllByRecursion Found es → flat_map (λ k. text_of_found f (finite.get m k)) (map (λ e. e.0) es) ≡ flat_map (λ e. f e.1) es
    along [] h = refl
    along (e ∷ es) h =
        ap (λ (t : List ℕ). t ++ flat_map (λ k. text_of_found f (finite.get m k)) (map (λ e. e.0) es)) (ap (text_of_found f) (get-entries m e.0 ∙ h.0))
        ∙ ap (λ (t : List ℕ). f e.1 ++ t) (along es h.1)

    pub text_of_all : flat_map (λ k. text_of_found f (finite.get m k)) (finite.keys m) ≡ flat_map (λ e. f e.1) (finite.entries m)
    text_of_all = along (finite.entries m) (each_found (finite.entries m) (entries_sorted m))

-- the line of the corners that were found
pub face_found : (m : Mesh) (ids : List ℕ) (o : Option Corners) (found : List ℕ) → ids ≡ finite.keys m.points → option_map corner_list o ≡ Some found → line_of_words (codes "f" ∷ map decimal (map (rank_among ids) found)) ≡ text_of_found (face_line m) o
face_found m ids (Some c) found all is =
    let same : corner_list c ≡ found = cc in
    ap (λ (ks : List ℕ). line_of_words (codes "f" ∷ map decimal (map (rank_among ks) found))) all ∙ ap (λ (cs : List ℕ). line_of_words (codes "f" ∷ map decimal (map (rank m) cs))) (sym same)
face_found m ids None found all is = absurd (cc)
