-- The third act of a collapse, done as many times as there are faces, goes on until no face has an opposite.
use Rattle.std.proofs.Common.{◌≡◌, ℕ, zero, suc, ◌+◌, ◌-◌, ◌≤◌, Bool, true, false, cond, List, [], ◌∷◌, Option, Some, None, is_some, slice_get, refl, sym, ap, subst, ◌∙◌, arith}
use Rattle.std.specs.Option.{option_map, option_map_or}
use Rattle.std.specs.List.{filter, filter_map, cons_option, AllByRecursion}
use Rattle.std.specs.Ordering.{nat_cmp}
use Rattle.std.specs.Cmp.{nat_cmp_total}
use Rattle.std.specs.FinMap as finite
use Rattle.std.specs.FinMap.{FinMap, len-remove, entries_sorted, get-entries}
use Rattle.std.specs.FinMap.Entries.{find}
use Rattle.mesh_base.specs.declared.ids.Corners.{Corners}
use Rattle.mesh_base.specs.Mesh.{Mesh, IsLiveFace}
use Rattle.mesh_base.specs.Sides.{has_corner}
use Rattle.mesh_base.proofs.Listed.{each_found}
use Rattle.mesh_base.proofs.ListedPairs.{all_weaker}
use Rattle.edit_base.specs.Edges.{without_faces}
use Rattle.edit_collapse.specs.Collapse.{least_opposite, with_opposites, with_one_cancelled, cancelled_times, with_cancelled, Cancels}
use Rattle.edit_acts.proofs.Counting.{len-without}

-- ---- the first face that has an opposite is a face
pub first_made : {X Y : Type 0} (P : X → Type 0) (test : X → Bool) (make : X → Option Y) (xs : List X) (y : Y) → AllByRecursion P xs → slice_get (filter_map make (filter test xs)) 0 ≡ Some y →
    (x : X) × P x × (make x ≡ Some y)
first_made P test make [] y h e = cc
first_made {X} {Y} P test make (x ∷ xs) y h e = by_test (first_made P test make xs y h.1) (test x) e
  where
    by_test : (slice_get (filter_map make (filter test xs)) 0 ≡ Some y → (x : X) × P x × (make x ≡ Some y)) → (b : Bool) →
        slice_get (filter_map make (cond b (x ∷ filter test xs) (filter test xs))) 0 ≡ Some y → (x : X) × P x × (make x ≡ Some y)
    by_test rest false e = rest e
    by_test rest true e = by_made rest (make x) refl e
      where
        by_made : (slice_get (filter_map make (filter test xs)) 0 ≡ Some y → (x : X) × P x × (make x ≡ Some y)) → (o : Option Y) → make x ≡ o →
            slice_get (cons_option o (filter_map make (filter test xs))) 0 ≡ Some y → (x : X) × P x × (make x ≡ Some y)
        by_made rest None m e = rest e
        by_made rest (Some z) m e = let same : Some z ≡ Some y = cc in (x, h.0, m ∙ same)

-- what is made of a face and its opposite begins with the face
begins_with : (f k g : ℕ) (o : Option ℕ) → option_map {U = ℕ × ℕ} (λ opposite. (k, opposite)) o ≡ Some (f, g) → k ≡ f
begins_with f k g (Some opposite) e = let kept : ℕ × ℕ = (k, opposite) in let given : ℕ × ℕ = (f, g) in let same : kept ≡ given = cc in ap (λ (t : ℕ × ℕ). t.0) same
begins_with f k g None e = absurd cc

first_is_live : (m : Mesh) (a f g : ℕ) → slice_get (with_opposites m a) 0 ≡ Some (f, g) → IsLiveFace m f
first_is_live m a f g e =
    let live : AllByRecursion (λ (x : ℕ × Corners). IsLiveFace m x.0) (finite.entries m.faces) =
    all_weaker (λ x. find nat_cmp x.0 (finite.entries m.faces) ≡ Some x.1) (λ x. IsLiveFace m x.0) (finite.entries m.faces) (λ x h. ap is_some (get-entries m.faces x.0 ∙ h)) (each_found (finite.entries m.faces) (entries_sorted m.faces)) in
    let found = first_made (λ (x : ℕ × Corners). IsLiveFace m x.0) (λ x. has_corner x.1 a) (λ x. option_map {U = ℕ × ℕ} (λ opposite. (x.0, opposite)) (least_opposite m x.1)) (finite.entries m.faces) (f, g) live e in
    subst (IsLiveFace m) (begins_with f (found.0).0 g (least_opposite m (found.0).1) found.2) found.1

-- ---- each time there are fewer faces
pub len-remove_le : {X : Type 0} (m : FinMap nat_cmp X) (k : ℕ) → finite.len (finite.remove m k) ≤ finite.len m
len-remove_le m k = rw (len-remove nat_cmp_total m k) (elim (finite.contains_key m k) as (λ b. cond b (finite.len m - 1) (finite.len m) ≤ finite.len m) [ true ↦ omega arith | false ↦ omega arith ])

fewer : (m : Mesh) (f g : ℕ) → IsLiveFace m f → finite.len (without_faces m (f ∷ g ∷ [])).faces + 1 ≤ finite.len m.faces
fewer m f g live =
    let one = len-without m.faces f live in
    let two = len-remove_le (finite.remove m.faces f) g in
    omega (arith, one, two)

-- ---- where none is left, nothing more is done
same_once : (m : Mesh) (a : ℕ) → with_opposites m a ≡ [] → with_one_cancelled a m ≡ m
same_once m a none = ap (λ two. option_map_or (λ (t : ℕ × ℕ). without_faces m (t.0 ∷ t.1 ∷ [])) (slice_get two 0) m) none

same_often : (n : ℕ) (m : Mesh) (a : ℕ) → with_opposites m a ≡ [] → cancelled_times n a m ≡ m
same_often zero m a none = refl
same_often (suc n) m a none = ap (cancelled_times n a) (same_once m a none) ∙ same_often n m a none

cancels_times : (n : ℕ) (m : Mesh) (a : ℕ) → finite.len m.faces ≤ n → Cancels a m (cancelled_times n a m)
cancels_times zero m a few = by_list (with_opposites m a) refl
  where
    by_list : (two : List (ℕ × ℕ)) → with_opposites m a ≡ two → Cancels a m m
    by_list [] e = Cancels.none_left e
    by_list (x ∷ xs) e = let f = fewer m x.0 x.1 (first_is_live m a x.0 x.1 (ap (λ l. slice_get l 0) e)) in absurd (omega (arith, f, few))
cancels_times (suc n) m a few = by_list (λ k least. cancels_times n k a least) (with_opposites m a) refl
  where
    by_list : ((k : Mesh) → finite.len k.faces ≤ n → Cancels a k (cancelled_times n a k)) → (two : List (ℕ × ℕ)) → with_opposites m a ≡ two → Cancels a m (cancelled_times (suc n) a m)
    by_list rest [] e = subst (Cancels a m) (sym (same_often (suc n) m a e)) (Cancels.none_left e)
    by_list rest (x ∷ xs) e =
        let at : slice_get (with_opposites m a) 0 ≡ Some (x.0, x.1) = ap (λ l. slice_get l 0) e in
        let f = fewer m x.0 x.1 (first_is_live m a x.0 x.1 at) in
        let next : with_one_cancelled a m ≡ without_faces m (x.0 ∷ x.1 ∷ []) = ap (λ o. option_map_or (λ (t : ℕ × ℕ). without_faces m (t.0 ∷ t.1 ∷ [])) o m) at in
        Cancels.one_more x.0 x.1 at
        (subst (λ k. Cancels a (without_faces m (x.0 ∷ x.1 ∷ [])) (cancelled_times n a k)) (sym next)
        (rest (without_faces m (x.0 ∷ x.1 ∷ [])) (omega (arith, f, few))))

pub cancels_all : (m : Mesh) (a : ℕ) → Cancels a m (with_cancelled m a)
cancels_all m a = cancels_times (finite.len m.faces) m a (omega arith)
