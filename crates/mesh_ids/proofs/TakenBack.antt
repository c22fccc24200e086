-- A mesh that is numbered anew takes its ids back.
use Rattle.std.proofs.Common.{◌≡◌, ℕ, zero, suc, ◌+◌, ◌-◌, ◌<◌, ◌≤◌, true, false, List, [], ◌∷◌, length, map, drop, get_or, Some, refl, sym, ap, ◌∙◌, arith, inl, inr}
use Rattle.std.specs.Prelude.{nat_le}
use Rattle.std.specs.List.{AllByRecursion, enumerate_from, filter}
use Rattle.std.specs.Ordering.{nat_cmp}
use Rattle.std.specs.FinMap as finite
use Rattle.std.specs.FinMap.{FinMap, get-entries, entries_sorted, same_entries_map}
use Rattle.std.specs.FinMap.Entries.{find}
use Rattle.std.proofs.lemmas.Bool.{cases_lt}
use Rattle.std.proofs.lemmas.Bool.Decides.{nat_tests}
use Rattle.mesh_base.specs.declared.Corners.{Corners}
use Rattle.mesh_base.specs.declared.limits.Limits.{Limits}
use Rattle.mesh_base.specs.declared.limits.Scale.TheVariants.{Large}
use Rattle.mesh_base.specs.Changes.{corners_of}
use Rattle.mesh_base.specs.Mesh.{Mesh, IsSound, IsLiveVertex, HasCorners, is_solid}
use Rattle.mesh_base.proofs.Finite.{none_in_empty}
use Rattle.mesh_base.proofs.Listed.{at_live, each_found}
use Rattle.mesh_base.proofs.ListedPairs.{all_weaker}
use Rattle.mesh_base.proofs.Ordered.{entries-of_sorted}
use Rattle.mesh_shape.proofs.Lists.{sorted_numbers}
use Rattle.obj_text.specs.Laws.{renumbered}
use Rattle.obj_text.specs.Written.{rank_among, rank, ranks, points_in_order, faces_by_rank}
use Rattle.obj_text.proofs.RanksInOrder.{keeps_order_lem}
use Rattle.mesh_ids.specs.NewIds.{new_id, vertex_id, face_id, renamed, with_vertex_ids, with_face_ids}
use Rattle.mesh_ids.specs.Laws.{IdsAreTakenBack}
use Rattle.mesh_ids.proofs.Taken.{entries_moved}

-- the first of what is left of a list, and the rest
first_left : (all : List ℕ) (low x : ℕ) (rest : List ℕ) → drop low all ≡ x ∷ rest → (get_or all low 0 ≡ x) × (drop (suc low) all ≡ rest)
first_left [] zero x rest at = absurd cc
first_left [] (suc low) x rest at = absurd cc
first_left (y ∷ ys) zero x rest at = let same : y ≡ x = cc in let left : ys ≡ rest = cc in (same, left)
first_left (y ∷ ys) (suc low) x rest at = first_left ys low x rest at

-- ---- ids that are the numbers from 1 on

module _ {X : Type 0} where
  abbrev keys_of : List (ℕ × X) → List ℕ
  keys_of es = map (λ e. e.0) es

  abbrev values_of : List (ℕ × X) → List X
  values_of es = map (λ e. e.1) es

  -- none of them is up to one that is less than all
  none_up_to : (low k : ℕ) (xs : List X) → k < low → rank_among (keys_of (enumerate_from low xs)) k ≡ 0
  none_up_to low k [] less = refl
  none_up_to low k (x ∷ xs) less =
      let beyond : nat_le low k ≡ false = grind (arith, nat_tests, less) in
      rw beyond (none_up_to (low + 1) k xs (omega (arith, less)))

  -- so many are up to one of them
  up_to : (low k : ℕ) (xs : List X) → low ≤ k → k < low + length xs → rank_among (keys_of (enumerate_from low xs)) k + low ≡ k + 1
  up_to low k [] least most = absurd (omega (arith, least, most))
  up_to low k (x ∷ xs) least most =
      let here : nat_le low k ≡ true = grind (arith, nat_tests, least) in
      elim (cases_lt low k) [
        | inl less ↦ let rest = up_to (low + 1) k xs (omega (arith, less)) (omega (arith, most)) in rw here (omega (arith, rest))
        | inr last ↦ let rest = none_up_to (low + 1) k xs (omega (arith, last)) in rw (here, rest) (omega (arith, least, last))
      ]

  within : (low : ℕ) (xs : List X) → AllByRecursion (λ e. (low ≤ e.0) × (e.0 < low + length xs)) (enumerate_from low xs)
  within low [] = tt
  within low (x ∷ xs) = (
    (omega arith, omega arith),
    all_weaker (λ (e : ℕ × X). (low + 1 ≤ e.0) × (e.0 < (low + 1) + length xs)) (λ (e : ℕ × X). (low ≤ e.0) × (e.0 < low + suc (length xs))) (enumerate_from (low + 1) xs)
        (λ e h. let least = h.0 in let most = h.1 in (omega (arith, least), omega (arith, most))) (within (low + 1) xs),
  )

  -- ---- what is numbered so takes ids in turn

  taken : (id : ℕ → ℕ) (all : List ℕ) (low number : ℕ) (es : List (ℕ × X)) → number ≡ low + 1 → drop low all ≡ keys_of es → AllByRecursion (λ e. id e.0 ≡ get_or all (e.0 - 1) 0) (enumerate_from number (values_of es))
      → map (λ e. (id e.0, e.1)) (enumerate_from number (values_of es)) ≡ es
  taken id all low number [] is at h = refl
  taken id all low number (e ∷ es) is at h =
      let there = first_left all low e.0 (keys_of es) at in
      let place : number - 1 ≡ low = omega (arith, is) in
      let here : id number ≡ e.0 = h.0 ∙ ap (λ n. get_or all n 0) place ∙ there.0 in
      let rest = taken id all (suc low) (number + 1) es (omega (arith, is)) there.1 h.1 in
      λ i. (here i, e.1) ∷ rest i

  -- the entries of a map, from those with its values that are numbered from 1 on
  pub retaken : (old entries : FinMap nat_cmp X) → finite.entries old ≡ enumerate_from 1 (values_of (finite.entries entries)) → map (λ e. (new_id (finite.keys old) (finite.keys entries) e.0, e.1)) (finite.entries old) ≡ finite.entries entries
  retaken old entries counted =
      let es = finite.entries entries in
      let numbers = enumerate_from 1 (values_of es) in
      let ids = finite.keys entries in
      let own : AllByRecursion (λ e. new_id (keys_of numbers) ids e.0 ≡ get_or ids (e.0 - 1) 0) numbers =
      all_weaker (λ (e : ℕ × X). (1 ≤ e.0) × (e.0 < 1 + length (values_of es))) (λ (e : ℕ × X). new_id (keys_of numbers) ids e.0 ≡ get_or ids (e.0 - 1) 0) numbers
      (λ e h. let up = up_to 1 e.0 (values_of es) h.0 h.1 in ap (λ r. get_or ids (r - 1) 0) (let same : rank_among (keys_of numbers) e.0 ≡ e.0 = omega (arith, up) in same)) (within 1 (values_of es)) in
      ap (λ (l : List (ℕ × X)). map (λ e. (new_id (keys_of l) ids e.0, e.1)) l) counted ∙ taken (new_id (keys_of numbers) ids) ids 0 1 es (omega arith) refl own

  pub again : (entries : FinMap nat_cmp X) → finite.from_entries (finite.entries entries) ≡ entries
  again entries = same_entries_map _ entries (entries-of_sorted (finite.entries entries) (entries_sorted entries))

  keys_kept : (id : ℕ → ℕ) (es : List (ℕ × X)) → keys_of (map (λ e. (id e.0, e.1)) es) ≡ map id (keys_of es)
  keys_kept id [] = refl
  keys_kept id (e ∷ es) = ap (λ ids. id e.0 ∷ ids) (keys_kept id es)

twice : (f g : ℕ → ℕ) (xs : List ℕ) → map f (map g xs) ≡ map (λ x. f (g x)) xs
twice f g [] = refl
twice f g (x ∷ xs) = ap (λ ys. f (g x) ∷ ys) (twice f g xs)

fixed : (f : ℕ → ℕ) (xs : List ℕ) → map f xs ≡ xs → AllByRecursion (λ x. f x ≡ x) xs
fixed f [] e = tt
fixed f (x ∷ xs) e =
    let here : f x ≡ x = cc in
    let rest : map f xs ≡ xs = cc in
    (here, fixed f xs rest)

-- ---- a mesh that is numbered anew, within some limits

module _ (m : Mesh) (sound : IsSound m) (limits : Limits) where
  abbrev numbered : Mesh
  numbered = record (renumbered Large m) { limits = limits }

  abbrev back : ℕ → ℕ
  back v = vertex_id numbered (finite.keys m.points) v

  points_counted : finite.entries numbered.points ≡ enumerate_from 1 (points_in_order m)
  points_counted = entries-of_sorted (enumerate_from 1 (points_in_order m)) (sorted_numbers 1 (points_in_order m))

  faces_counted : finite.entries numbered.faces ≡ enumerate_from 1 (map corners_of (faces_by_rank m))
  faces_counted = entries-of_sorted (enumerate_from 1 (map corners_of (faces_by_rank m))) (sorted_numbers 1 (map corners_of (faces_by_rank m)))

  points_back : map (λ e. (back e.0, e.1)) (finite.entries numbered.points) ≡ finite.entries m.points
  points_back = retaken numbered.points m.points points_counted

  -- each vertex has its id again
  ids_back : map (λ v. back (rank m v)) (finite.keys m.points) ≡ finite.keys m.points
  ids_back =
      sym (twice back (rank m) (finite.keys m.points))
      ∙ ap (map back) (sym (keeps_order_lem Large m))
      ∙ sym (keys_kept back (finite.entries numbered.points))
      ∙ ap keys_of points_back

  id_back : (v : ℕ) → IsLiveVertex m v → back (rank m v) ≡ v
  id_back v live = at_live (λ v. back (rank m v) ≡ v) m.points v (fixed (λ v. back (rank m v)) (finite.keys m.points) ids_back) live

  corners_back : (f : ℕ) (c : Corners) → HasCorners m f c → renamed back (corners_of (ranks m c)) ≡ c
  corners_back f c is =
      let live = sound.is_mesh.live_corners f c is in
      λ i. record { first = id_back c.first live.0 i; second = id_back c.second live.1 i; third = id_back c.third live.2 i }

  corners_along : (low : ℕ) (es : List (ℕ × Corners)) → AllByRecursion (λ e. HasCorners m e.0 e.1) es
      → map (λ e. (e.0, renamed back e.1)) (enumerate_from low (map corners_of (map (λ e. ranks m e.1) es))) ≡ enumerate_from low (values_of es)
  corners_along low [] h = refl
  corners_along low (e ∷ es) h = λ i. (low, corners_back e.0 e.1 h.0 i) ∷ corners_along (low + 1) es h.1 i

  each_has : AllByRecursion (λ e. HasCorners m e.0 e.1) (finite.entries m.faces)
  each_has = all_weaker (λ (e : ℕ × Corners). find nat_cmp e.0 (finite.entries m.faces) ≡ Some e.1) (λ (e : ℕ × Corners). HasCorners m e.0 e.1) (finite.entries m.faces)
      (λ e found. get-entries m.faces e.0 ∙ found) (each_found (finite.entries m.faces) (entries_sorted m.faces))

  abbrev named : Mesh
  named = with_vertex_ids numbered (finite.keys m.points) m.next_vertex

  faces_named : finite.entries named.faces ≡ enumerate_from 1 (values_of (finite.entries m.faces))
  faces_named =
      entries_moved numbered.faces (λ k. k) (λ k l live-k live-l less. less) (renamed back)
      ∙ ap (map (λ e. (e.0, renamed back e.1))) faces_counted
      ∙ corners_along 1 (finite.entries m.faces) each_has

  faces_back : map (λ e. (face_id named (finite.keys m.faces) e.0, e.1)) (finite.entries named.faces) ≡ finite.entries m.faces
  faces_back = retaken named.faces m.faces faces_named

  -- no vertex is solid
  none_solid : (vs : List ℕ) → filter (is_solid numbered) vs ≡ []
  none_solid [] = refl
  none_solid (v ∷ vs) = rw (none_in_empty (Unit {0}) v) (none_solid vs)

  solids_named : named.solid ≡ finite.empty
  solids_named = ap (λ (vs : List ℕ). finite.from_entries {R = nat_cmp} (map (λ v. (back v, tt)) vs)) (none_solid (finite.keys numbered.points))

  -- it takes the ids of the mesh, and is that mesh again, but for its limits and solid vertices
  pub taken_back : with_face_ids named (finite.keys m.faces) m.next_face ≡ record m { solid = finite.empty; limits = limits }
  taken_back =
      let points = ap finite.from_entries points_back ∙ again m.points in
      let faces = ap finite.from_entries faces_back ∙ again m.faces in
      λ i. record { points = points i; faces = faces i; solid = solids_named i; next_vertex = m.next_vertex; next_face = m.next_face; limits = limits }

pub ids_are_taken_back_lem : IdsAreTakenBack
ids_are_taken_back_lem m limits sound = taken_back m sound limits
