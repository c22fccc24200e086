-- Meshes whose ids are dense are those that their files give.
use Rattle.std.proofs.Common.{◌≡◌, ℕ, suc, ◌+◌, ◌≤◌, ◌<◌, ◌==◌, true, T, is_some, List, [], ◌∷◌, length, map, Some, refl, sym, ap, ◌∙◌, arith}
use Rattle.std.specs.Prelude.{IsSome}
use Rattle.std.specs.List.{AllByRecursion, enumerate_from}
use Rattle.std.specs.Ordering.{nat_cmp}
use Rattle.std.specs.FinMap as finite
use Rattle.std.specs.FinMap.{FinMap, entries_sorted, get-entries, len-entries, same_entries_map}
use Rattle.std.specs.FinMap.Entries.{find, is_sorted, below_all}
use Rattle.std.proofs.lemmas.Bool.{ltb-true}
use Rattle.std.proofs.lemmas.Bool.Decides.{nat_tests}
use Rattle.std.proofs.lemmas.List.{length-map}
use Rattle.mesh_base.specs.declared.Corners.{Corners}
use Rattle.mesh_base.specs.declared.limits.Scale.TheVariants.{Large}
use Rattle.mesh_base.specs.Changes.{corners_of, with_solid}
use Rattle.mesh_base.specs.Limits.{limits_of}
use Rattle.mesh_base.specs.Mesh.{Mesh, IsSound, IsLiveVertex}
use Rattle.mesh_base.proofs.Listed.{and_first, and_second, at_live, each_found}
use Rattle.mesh_base.proofs.ListedPairs.{all_weaker}
use Rattle.mesh_base.proofs.Ordered.{entries-of_sorted}
use Rattle.mesh_base.proofs.WalkSteps.{both_of, less_true}
use Rattle.mesh_shape.proofs.Lists.{sorted_numbers, len_numbered}
use Rattle.obj_text.specs.Laws.{renumbered}
use Rattle.obj_text.specs.Written.{rank, ranks, points_in_order, faces_by_rank}
use Rattle.obj_text.proofs.RanksInOrder.{keeps_order_lem}
use Rattle.mesh_rows.specs.Making.{with_solids}
use Rattle.track_held.specs.Heads.{unmarked, as_read, has_dense_ids, MeshesAreMadeDense, DenseMeshesAreRead}

-- ---- rising ids of which none is left out

module _ {X : Type 0} where
  pub above : (k : ℕ) (es : List (ℕ × X)) → T (below_all nat_cmp k es) → AllByRecursion (λ e. k + 1 ≤ e.0) es
  above k [] h = tt
  above k (e ∷ es) h =
      let parts = both_of _ _ h in
      let less : k < e.0 = ltb-true _ _ (less_true k e.0 parts.0) in
      (omega (arith, less), above k es parts.1)

  -- between two numbers there are no more of them than there is room for
  crowd : (low high : ℕ) (es : List (ℕ × X)) → T (is_sorted nat_cmp es) → AllByRecursion (λ e. low ≤ e.0) es → AllByRecursion (λ e. e.0 < high) es → low ≤ high → low + length es ≤ high
  crowd low high [] s from below le = omega (arith, le)
  crowd low high (e ∷ es) s from below le =
      let parts = both_of (below_all nat_cmp e.0 es) (is_sorted nat_cmp es) s in
      let least = from.0 in
      let most = below.0 in
      let rest = crowd (e.0 + 1) high es parts.1 (above e.0 es parts.0) below.1 (omega (arith, most)) in
      omega (arith, least, rest)

  -- where there are as many, they are numbered one after another
  dense : (low : ℕ) (es : List (ℕ × X)) → T (is_sorted nat_cmp es) → AllByRecursion (λ e. low ≤ e.0) es → AllByRecursion (λ e. e.0 < low + length es) es → es ≡ enumerate_from low (map (λ e. e.1) es)
  dense low [] s from below = refl
  dense low (e ∷ es) s from below =
      let parts = both_of (below_all nat_cmp e.0 es) (is_sorted nat_cmp es) s in
      let least = from.0 in
      let most = below.0 in
      let later = above e.0 es parts.0 in
      let count = crowd (e.0 + 1) (low + suc (length es)) es parts.1 later below.1 (omega (arith, most)) in
      let same : e.0 ≡ low = omega (arith, least, count) in
      let next = all_weaker (λ (x : ℕ × X). e.0 + 1 ≤ x.0) (λ (x : ℕ × X). low + 1 ≤ x.0) es (λ x h. omega (arith, h, same)) later in
      let ends = all_weaker (λ (x : ℕ × X). x.0 < low + suc (length es)) (λ (x : ℕ × X). x.0 < (low + 1) + length es) es (λ x h. omega (arith, h)) below.1 in
      let rest = dense (low + 1) es parts.1 next ends in
      λ i. (same i, e.1) ∷ rest i

  -- each entry of a map is found
  pub each_live : (entries : FinMap nat_cmp X) → AllByRecursion (λ e. finite.get entries e.0 ≡ Some e.1) (finite.entries entries)
  each_live entries = all_weaker (λ (e : ℕ × X). find nat_cmp e.0 (finite.entries entries) ≡ Some e.1) (λ (e : ℕ × X). finite.get entries e.0 ≡ Some e.1) (finite.entries entries)
      (λ e found. get-entries entries e.0 ∙ found) (each_found (finite.entries entries) (entries_sorted entries))

  -- the ids of a map with as many entries as ids were given
  numbered : (entries : FinMap nat_cmp X) (next : ℕ) → ((k : ℕ) → IsSome (finite.get entries k) → (1 ≤ k) × (k < next)) → next ≡ finite.len entries + 1 → finite.entries entries ≡ enumerate_from 1 (map (λ e. e.1) (finite.entries entries))
  numbered entries next ids count =
      let es = finite.entries entries in
      let many : next ≡ length es + 1 = count ∙ ap (λ n. n + 1) (len-entries entries) in
      let live = each_live entries in
      dense 1 es (entries_sorted entries)
      (all_weaker (λ (e : ℕ × X). finite.get entries e.0 ≡ Some e.1) (λ (e : ℕ × X). 1 ≤ e.0) es (λ e found. (ids e.0 (ap is_some found)).0) live)
      (all_weaker (λ (e : ℕ × X). finite.get entries e.0 ≡ Some e.1) (λ (e : ℕ × X). e.0 < 1 + length es) es (λ e found. let below = (ids e.0 (ap is_some found)).1 in omega (arith, below, many)) live)

  -- and the map is that of its values, numbered from 1
  made_again : (entries : FinMap nat_cmp X) (values : List X) → values ≡ map (λ e. e.1) (finite.entries entries) → finite.entries entries ≡ enumerate_from 1 (map (λ e. e.1) (finite.entries entries)) → finite.from_entries (enumerate_from 1 values) ≡ entries
  made_again entries values are counted = same_entries_map _ entries (entries-of_sorted (enumerate_from 1 values) (sorted_numbers 1 values) ∙ ap (enumerate_from 1) are ∙ sym counted)

fixed : (f : ℕ → ℕ) (xs : List ℕ) → map f xs ≡ xs → AllByRecursion (λ x. f x ≡ x) xs
fixed f [] e = tt
fixed f (x ∷ xs) e =
    let here : f x ≡ x = cc in
    let rest : map f xs ≡ xs = cc in
    (here, fixed f xs rest)

-- ---- a mesh with dense ids

module _ (m : Mesh) (sound : IsSound m) (is_dense : has_dense_ids m ≡ true) where
  next_vertex : m.next_vertex ≡ finite.len m.points + 1
  next_vertex = let first = and_first (m.next_vertex == finite.len m.points + 1) (m.next_face == finite.len m.faces + 1) is_dense in grind (arith, nat_tests, first)

  next_face : m.next_face ≡ finite.len m.faces + 1
  next_face = let second = and_second (m.next_vertex == finite.len m.points + 1) (m.next_face == finite.len m.faces + 1) is_dense in grind (arith, nat_tests, second)

  vertices_counted : finite.entries m.points ≡ enumerate_from 1 (points_in_order m)
  vertices_counted = numbered m.points m.next_vertex sound.is_mesh.vertex_ids next_vertex

  faces_counted : finite.entries m.faces ≡ enumerate_from 1 (map (λ e. e.1) (finite.entries m.faces))
  faces_counted = numbered m.faces m.next_face sound.is_mesh.face_ids next_face

  points_again : (renumbered Large m).points ≡ m.points
  points_again = made_again m.points (points_in_order m) refl vertices_counted

  -- each vertex has its rank as its id
  own_ranks : map (rank m) (finite.keys m.points) ≡ finite.keys m.points
  own_ranks = sym (keeps_order_lem Large m) ∙ ap (λ points. finite.keys points) points_again

  own_rank : (v : ℕ) → IsLiveVertex m v → rank m v ≡ v
  own_rank v live = at_live (λ v. rank m v ≡ v) m.points v (fixed (rank m) (finite.keys m.points) own_ranks) live

  own_corners : (f : ℕ) (c : Corners) → finite.get m.faces f ≡ Some c → corners_of (ranks m c) ≡ c
  own_corners f c is =
      let live = sound.is_mesh.live_corners f c is in
      λ i. record { first = own_rank c.first live.0 i; second = own_rank c.second live.1 i; third = own_rank c.third live.2 i }

  corners_along : (es : List (ℕ × Corners)) → AllByRecursion (λ e. finite.get m.faces e.0 ≡ Some e.1) es → map corners_of (map (λ e. ranks m e.1) es) ≡ map (λ e. e.1) es
  corners_along [] h = refl
  corners_along (e ∷ es) h = λ i. own_corners e.0 e.1 h.0 i ∷ corners_along es h.1 i

  faces_again : (renumbered Large m).faces ≡ m.faces
  faces_again = made_again m.faces (map corners_of (faces_by_rank m)) (corners_along (finite.entries m.faces) (each_live m.faces)) faces_counted

  read_within : as_read m ≡ unmarked m
  read_within =
      let vertices : length (points_in_order m) + 1 ≡ m.next_vertex = ap (λ n. n + 1) (length-map (finite.entries m.points) (λ e. e.1) ∙ sym (len-entries m.points)) ∙ sym next_vertex in
      let faces : length (faces_by_rank m) + 1 ≡ m.next_face = ap (λ n. n + 1) (length-map (finite.entries m.faces) (λ e. ranks m e.1) ∙ sym (len-entries m.faces)) ∙ sym next_face in
      λ i. record { points = points_again i; faces = faces_again i; solid = finite.empty; next_vertex = vertices i; next_face = faces i; limits = m.limits }

pub dense_as_read : (m : Mesh) → IsSound m → has_dense_ids m ≡ true → as_read m ≡ unmarked m
dense_as_read m sound is_dense = read_within m sound is_dense

pub dense_meshes_are_read : DenseMeshesAreRead
dense_meshes_are_read m sound limits is_dense = (λ i. record (renumbered Large m) { limits = sym limits i }) ∙ read_within m sound is_dense

-- ---- a mesh that is made

solids_leave_ids : (m : Mesh) (vs : List ℕ) → has_dense_ids (with_solids m vs) ≡ has_dense_ids m
solids_leave_ids m [] = refl
solids_leave_ids m (v ∷ vs) = solids_leave_ids (with_solid m v) vs

pub meshes_are_made_dense : MeshesAreMadeDense
meshes_are_made_dense scale points faces solids =
    let made = len_numbered points in
    let sides = len_numbered (map corners_of faces) ∙ length-map faces corners_of in
    solids_leave_ids _ solids ∙ rw (made, sides) (grind (arith, nat_tests))
