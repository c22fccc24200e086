-- Lists of good shape are written as their mesh is, and read again.
use Rattle.std.proofs.Common.{◌≡◌, ℕ, ◌+◌, ◌-◌, ◌<◌, ◌≤◌, List, [], ◌∷◌, ◌++◌, length, map, None, Ok, inl, inr, refl, sym, ap, ◌∙◌, arith}
use Rattle.std.specs.Prelude.{nat_le}
use Rattle.std.specs.List.{AllByRecursion, enumerate_from, flat_map}
use Rattle.std.specs.FinMap as finite
use Rattle.std.proofs.lemmas.Bool.{cases_Bool, leb-true, leb-false}
use Rattle.std.proofs.lemmas.List.Folds.{flat_map-map}
use Rattle.grid_base.specs.declared.Point.{Point}
use Rattle.grid_base.specs.Points.{position_of}
use Rattle.mesh_base.specs.Mesh.{Mesh}
use Rattle.mesh_base.specs.Changes.{corners_of}
use Rattle.mesh_base.specs.declared.limits.Scale.{Scale}
use Rattle.mesh_base.specs.Given.{mesh_under}
use Rattle.mesh_base.proofs.Ordered.{entries-of_sorted}
use Rattle.mesh_shape.specs.Shape.{HasNoFault, fault_but_balance, no_vertex_from, bad_corner}
use Rattle.mesh_shape.proofs.Lists.{none_of, none_mapped, all_vertices, between, no_fault_but_balance, sorted_numbers, sound-mesh_under}
use Rattle.obj_text.specs.Obj.{Lists, lists_of}
use Rattle.obj_text.specs.Written.{rank_among, rank, ranks, mesh_text, ranked_lists}
use Rattle.obj_text.specs.ListsWritten.{point_line, triangle_line, lists_text}
use Rattle.obj_text.specs.ListLaws.{ListsAreWrittenAsMesh, ListsAreRead}
use Rattle.obj_text.proofs.Again.{written_is_read_lem}

-- ---- any mesh is written as its lists are

written_as_lists : (decimals : ℕ) (m : Mesh) → lists_text decimals (ranked_lists m) ≡ mesh_text decimals m
written_as_lists decimals m =
    let points = finite.entries m.points in
    let faces = finite.entries m.faces in
    ap (λ (t : List ℕ). t ++ flat_map triangle_line (map (λ e. ranks m e.1) faces)) (flat_map-map (point_line decimals) (λ e. position_of e.1) points)
    ∙ ap (λ (t : List ℕ). flat_map (λ e. point_line decimals (position_of e.1)) points ++ t) (flat_map-map triangle_line (λ e. ranks m e.1) faces)

-- ---- the lists of the mesh that lists make are these

-- how many numbers there are from k up to v
rank_from : {X : Type 0} (k : ℕ) (xs : List X) (v : ℕ) → v < k + length xs → rank_among (map (λ e. e.0) (enumerate_from k xs)) v ≡ v + 1 - k
rank_from k [] v lt = omega arith
rank_from k (x ∷ xs) v lt =
    let rest : rank_among (map (λ e. e.0) (enumerate_from (k + 1) xs)) v ≡ v + 1 - (k + 1) = rank_from (k + 1) xs v (omega arith) in
    elim (cases_Bool (nat_le k v)) [
      | inl up ↦ let le = leb-true k v up in rw up (omega arith)
      | inr beyond ↦ let gt = leb-false k v beyond in rw beyond (omega arith)
    ]

places_of_numbered : (k : ℕ) (points : List Point) → map (λ e. position_of e.1) (enumerate_from k points) ≡ map position_of points
places_of_numbered k [] = refl
places_of_numbered k (p ∷ points) = ap (λ ps. position_of p ∷ ps) (places_of_numbered (k + 1) points)

module _ (scale : Scale) (points : List Point) (faces : List (List ℕ)) where
  abbrev made : Mesh
  made = mesh_under scale points faces

  rank_is : (v : ℕ) → v ≤ length points → rank made v ≡ v
  rank_is v le =
      let found = rank_from 1 points v (omega arith) in
      let back : v + 1 - 1 ≡ v = omega arith in
      ap (λ es. rank_among (map (λ e. e.0) es) v) (entries-of_sorted (enumerate_from 1 points) (sorted_numbers 1 points)) ∙ found ∙ back

  ranks_are : (f : List ℕ) → length f ≡ 3 → bad_corner (length points) (corners_of f) ≡ None → ranks made (corners_of f) ≡ f
  ranks_are [] h good = absurd (omega arith)
  ranks_are (a ∷ []) h good = absurd (omega arith)
  ranks_are (a ∷ b ∷ []) h good = absurd (omega arith)
  ranks_are (a ∷ b ∷ c ∷ d ∷ more) h good = absurd (omega arith)
  ranks_are (a ∷ b ∷ c ∷ []) h good =
      let n = length points in
      let all = all_vertices n (corners_of (a ∷ b ∷ c ∷ [])) good in
      rw (rank_is a (between n a all.0).1, rank_is b (between n b all.1).1, rank_is c (between n c all.2).1) refl

  faces_of_numbered : (k n : ℕ) (fs : List (List ℕ)) → AllByRecursion (λ f. length f ≡ 3) fs → no_vertex_from (length points) n fs ≡ None → map (λ e. ranks made e.1) (enumerate_from k (map corners_of fs)) ≡ fs
  faces_of_numbered k n [] sizes h = refl
  faces_of_numbered k n (f ∷ fs) sizes h =
      let parts = none_of _ (no_vertex_from (length points) (n + 1) fs) h in
      let first : ranks made (corners_of f) ≡ f = ranks_are f sizes.0 (none_mapped _ _ parts.0) in
      ap (λ (g : List ℕ). g ∷ map (λ e. ranks made e.1) (enumerate_from (k + 1) (map corners_of fs))) first ∙ ap (λ (gs : List (List ℕ)). f ∷ gs) (faces_of_numbered (k + 1) (n + 1) fs sizes.1 parts.1)

  ranked_are_given : HasNoFault scale points faces → AllByRecursion (λ f. length f ≡ 3) faces → ranked_lists made ≡ record { points = map position_of points; faces = faces }
  ranked_are_given good sizes =
      let none_wrong = no_fault_but_balance scale (length points) faces (none_of (fault_but_balance scale (length points) faces) _ good).0 in
      let there = entries-of_sorted (enumerate_from 1 points) (sorted_numbers 1 points) in
      let sides = entries-of_sorted (enumerate_from 1 (map corners_of faces)) (sorted_numbers 1 (map corners_of faces)) in
      let ps : map (λ e. position_of e.1) (finite.entries made.points) ≡ map position_of points = ap (λ es. map (λ e. position_of e.1) es) there ∙ places_of_numbered 1 points in
      let fs : map (λ e. ranks made e.1) (finite.entries made.faces) ≡ faces = ap (λ es. map (λ e. ranks made e.1) es) sides ∙ faces_of_numbered 1 1 faces sizes none_wrong.corners in
      λ i. record { points = ps i; faces = fs i }

-- ---- the laws

pub lists_are_written_as_mesh_lem : ListsAreWrittenAsMesh
lists_are_written_as_mesh_lem scale points faces decimals good sizes =
    ap (lists_text decimals) (sym (ranked_are_given scale points faces good sizes)) ∙ written_as_lists decimals (mesh_under scale points faces)

pub lists_are_read_lem : ListsAreRead
lists_are_read_lem scale points faces decimals good sizes places =
    ap (lists_of decimals) (lists_are_written_as_mesh_lem scale points faces decimals good sizes)
    ∙ written_is_read_lem (mesh_under scale points faces) decimals (sound-mesh_under scale points faces good) places
    ∙ ap (λ (l : Lists). Ok l) (ranked_are_given scale points faces good sizes)
