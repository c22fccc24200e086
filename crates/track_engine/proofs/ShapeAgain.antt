-- The lists of a written mesh are of good shape: its mesh, numbered anew, is sound.
use Rattle.std.proofs.Common.{◌≡◌, ℕ, zero, suc, ◌+◌, ◌<◌, ◌≤◌, true, ◌==◌, ◌&&◌, T, List, [], ◌∷◌, length, map, Some, None, is_some, refl, ap, sym, ◌∙◌, subst, arith, inl, inr}
use Rattle.std.specs.Prelude.{nat_le, slice_get}
use Rattle.std.specs.List.{enumerate_from, AllByRecursion}
use Rattle.std.specs.Ordering.{nat_cmp}
use Rattle.std.specs.Cmp.{nat_cmp_total}
use Rattle.std.specs.FinMap as finite
use Rattle.std.specs.FinMap.{get-entries, get-from_entries, entries_sorted, len-entries}
use Rattle.std.specs.FinMap.Entries.{find, is_sorted, below_all}
use Rattle.std.proofs.lemmas.Bool.{cases_Bool, eqb-true, eq-eqb, ne_eqb, le-leb, ltb-true, false≢true}
use Rattle.std.proofs.lemmas.List.{length-map}
use Rattle.std.proofs.lemmas.List.Sums.{length-filter, count_by-le-length}
use Rattle.grid_base.specs.declared.Point.{Point}
use Rattle.grid_base.specs.Points.{position_of}
use Rattle.mesh_base.specs.declared.Corners.{Corners}
use Rattle.mesh_base.specs.declared.Scale.{Scale}
use Rattle.mesh_base.specs.Mesh.{Mesh, IsSound, IsLiveVertex, HasCorners, AreLive, AreDifferent, equal_up_to_rotation}
use Rattle.mesh_base.specs.Changes.{corners_of}
use Rattle.mesh_base.specs.Sides.{IsClosed}
use Rattle.mesh_base.proofs.Finite.{none_in_empty}
use Rattle.mesh_base.proofs.Listed.{each_found}
use Rattle.mesh_base.proofs.WalkSteps.{both_of, less_true}
use Rattle.mesh_shape.specs.Shape.{shape_fault}
use Rattle.mesh_shape.proofs.Lists.{numbered, len_numbered, of_live, get_map, is_live}
use Rattle.mesh_shape.proofs.Faults.{no_fault}
use Rattle.obj_text.specs.Written.{rank, ranks, ranked_lists}
use Rattle.obj_text.specs.Laws.{renumbered}
use Rattle.obj_text.proofs.RankBounds.{rank_is_some}
use Rattle.obj_text.proofs.RanksInOrder.{rank_once}
use Rattle.mesh_base.proofs.MeshLaws.{few_live_vertices, few_live_faces, few_vertices_of, few_faces_of}
use Rattle.track_engine.specs.Kept.{FitsScale}

-- ---- lists
-- what holds of each holds of the one at an index
all_at : {X : Type 0} (P : X → Type 0) (xs : List X) (i : ℕ) (x : X) → AllByRecursion P xs → slice_get xs i ≡ Some x → P x
all_at P [] i x h e = absurd cc
all_at P (y ∷ xs) zero x h e = let same : y ≡ x = cc in subst P same h.0
all_at P (y ∷ xs) (suc i) x h e = all_at P xs i x h.1 e

-- what a numbered list has at a number
got : {A : Type 0} (xs : List A) (q : ℕ) (x : A) → finite.get (finite.from_entries {R = nat_cmp} (enumerate_from 1 xs)) q ≡ Some x → (i : ℕ) × (q ≡ i + 1) × (slice_get xs i ≡ Some x)
got xs zero x h = let live = of_live xs zero (ap is_some h) in absurd (omega arith)
got xs (suc i) x h = (i, omega arith, sym (numbered 1 i (suc i) xs (omega arith)) ∙ sym (get-from_entries nat_cmp_total (enumerate_from 1 xs) (suc i)) ∙ h)

module _ {X : Type 0} where
  above_at : (k : ℕ) (es : List (ℕ × X)) → T (below_all nat_cmp k es) → (j : ℕ) (e : ℕ × X) → slice_get es j ≡ Some e → k < e.0
  above_at k [] h j e at = absurd cc
  above_at k (x ∷ es) h zero e at =
      let less : k < x.0 = ltb-true _ _ (less_true k x.0 (both_of _ _ h).0) in
      let same : x ≡ e = cc in
      let P : ℕ × X → Type 0 = λ y. k < y.0 in subst P same less
  above_at k (x ∷ es) h (suc j) e at = above_at k es (both_of _ _ h).1 j e at

  -- a key stands at one place
  one_place : (es : List (ℕ × X)) → T (is_sorted nat_cmp es) → (i j : ℕ) (e d : ℕ × X) → slice_get es i ≡ Some e → slice_get es j ≡ Some d → e.0 ≡ d.0 → i ≡ j
  one_place [] s i j e d at-e at-d same = absurd cc
  one_place (x ∷ es) s zero zero e d at-e at-d same = refl
  one_place (x ∷ es) s zero (suc j) e d at-e at-d same =
      let less = above_at x.0 es (both_of (below_all nat_cmp x.0 es) (is_sorted nat_cmp es) s).0 j d at-d in
      let first : x ≡ e = cc in
      let is : x.0 ≡ e.0 = ap (λ (y : ℕ × X). y.0) first in
      absurd (omega arith)
  one_place (x ∷ es) s (suc i) zero e d at-e at-d same =
      let less = above_at x.0 es (both_of (below_all nat_cmp x.0 es) (is_sorted nat_cmp es) s).0 i e at-e in
      let first : x ≡ d = cc in
      let is : x.0 ≡ d.0 = ap (λ (y : ℕ × X). y.0) first in
      absurd (omega arith)
  one_place (x ∷ es) s (suc i) (suc j) e d at-e at-d same = ap suc (one_place es (both_of (below_all nat_cmp x.0 es) (is_sorted nat_cmp es) s).1 i j e d at-e at-d same)

is_number : (n v : ℕ) → 1 ≤ v → v ≤ n → (nat_le 1 v && nat_le v n) ≡ true
is_number n v some few = rw (le-leb 1 v some, le-leb v n few) refl

-- ---- the renumbered mesh
module _ (scale : Scale) (m : Mesh) (sound : IsSound m) where
  abbrev again : Mesh
  again = renumbered scale m

  abbrev ranked : Corners → Corners
  ranked c = corners_of (ranks m c)

  abbrev points : List Point
  points = map (λ e. e.1) (finite.entries m.points)

  abbrev faces : List (List ℕ)
  faces = map (λ e. ranks m e.1) (finite.entries m.faces)

  same_test : (u v : ℕ) → IsLiveVertex m u → IsLiveVertex m v → (rank m u == rank m v) ≡ (u == v)
  same_test u v live-u live-v = elim (cases_Bool (u == v)) [
    | inl same ↦ eq-eqb _ _ (ap (rank m) (eqb-true u v same)) ∙ sym same
    | inr other ↦ ne_eqb _ _ (λ same. false≢true (sym other ∙ eq-eqb u v (rank_once m u v live-u live-v same))) ∙ sym other
  ]

  pub rank_lives : (v : ℕ) → IsLiveVertex m v → IsLiveVertex again (rank m v)
  rank_lives v live =
      let keys = finite.keys m.points in
      let some = rank_is_some m v live in
      let few : rank m v ≤ length points = omega (arith, length-filter (λ u. nat_le u v) keys, count_by-le-length (λ u. nat_le u v) keys, length-map (finite.entries m.points) (λ e. e.0), length-map (finite.entries m.points) (λ e. e.1)) in
      is_live points (rank m v) (is_number (length points) (rank m v) some few)

  -- a face is that of an entry, by the ranks of its corners
  record IsRanked (f : ℕ) (c : Corners) : Type 0 where
    i : ℕ
    f-is : f ≡ i + 1
    entry : ℕ × Corners
    at : slice_get (finite.entries m.faces) i ≡ Some entry
    there : HasCorners m entry.0 entry.1
    corners-are : c ≡ ranked entry.1

  is_ranked : (f : ℕ) (c : Corners) → HasCorners again f c → IsRanked f c
  is_ranked f c has =
      let es = finite.entries m.faces in
      let here = got (map corners_of faces) f c has in
      let list = get_map corners_of faces here.0 c here.2 in
      let from = get_map (λ (e : ℕ × Corners). ranks m e.1) es here.0 list.0 list.1 in
      record {
        i = here.0;
        f-is = here.1;
        entry = from.0;
        at = from.1;
        there = get-entries m.faces (from.0).0 ∙ all_at (λ e. find nat_cmp e.0 es ≡ Some e.1) es here.0 from.0 (each_found es (entries_sorted m.faces)) from.1;
        corners-are = list.2 ∙ ap corners_of from.2;
      }

  live_at : (f : ℕ) (c : Corners) (r : IsRanked f c) → AreLive m r.entry.1
  live_at f c r = sound.is_mesh.live_corners r.entry.0 r.entry.1 r.there

  corners_live : (f : ℕ) (c : Corners) → HasCorners again f c → AreLive again c
  corners_live f c has =
      let r = is_ranked f c has in
      let live = live_at f c r in
      let k : Corners = r.entry.1 in
      subst (AreLive again) (sym r.corners-are) (rank_lives k.first live.0, rank_lives k.second live.1, rank_lives k.third live.2)

  corners_different : (f : ℕ) (c : Corners) → HasCorners again f c → AreDifferent c
  corners_different f c has =
      let r = is_ranked f c has in
      let live = live_at f c r in
      let k : Corners = r.entry.1 in
      let apart = sound.is_mesh.different_corners r.entry.0 k r.there in
      let different : AreDifferent (ranked k) = record {
        first_second = λ e. apart.first_second (rank_once m k.first k.second live.0 live.1 e);
        second_third = λ e. apart.second_third (rank_once m k.second k.third live.1 live.2 e);
        third_first = λ e. apart.third_first (rank_once m k.third k.first live.2 live.0 e);
      } in
      subst AreDifferent (sym r.corners-are) different

  equal_again : (c d : Corners) → AreLive m c → AreLive m d → equal_up_to_rotation (ranked c) (ranked d) ≡ equal_up_to_rotation c d
  equal_again c d lc ld =
      rw (
        same_test c.first d.first lc.0 ld.0,
        same_test c.second d.second lc.1 ld.1,
        same_test c.third d.third lc.2 ld.2,
        same_test c.second d.first lc.1 ld.0,
        same_test c.third d.second lc.2 ld.1,
        same_test c.first d.third lc.0 ld.2,
        same_test c.third d.first lc.2 ld.0,
        same_test c.first d.second lc.0 ld.1,
        same_test c.second d.third lc.1 ld.2,
      ) refl

  faces_different : (f g : ℕ) (c d : Corners) → HasCorners again f c → HasCorners again g d → equal_up_to_rotation c d ≡ true → f ≡ g
  faces_different f g c d has-c has-d equal =
      let r = is_ranked f c has-c in
      let s = is_ranked g d has-d in
      let moved : equal_up_to_rotation (ranked r.entry.1) (ranked s.entry.1) ≡ true =
      ap (λ x. equal_up_to_rotation x (ranked s.entry.1)) (sym r.corners-are) ∙ ap (λ y. equal_up_to_rotation c y) (sym s.corners-are) ∙ equal in
      let same = sound.is_mesh.different_faces r.entry.0 s.entry.0 r.entry.1 s.entry.1 r.there s.there (sym (equal_again r.entry.1 s.entry.1 (live_at f c r) (live_at g d s)) ∙ moved) in
      let place = one_place (finite.entries m.faces) (entries_sorted m.faces) r.i s.i r.entry s.entry r.at s.at same in
      r.f-is ∙ ap (λ i. i + 1) place ∙ sym s.f-is

  pub sound_again : FitsScale scale m → IsSound again
  sound_again fits =
      let few_points = few_live_vertices m sound in
      let few_faces = few_live_faces m sound in
      let points_length : length points ≡ finite.len m.points = length-map (finite.entries m.points) (λ e. e.1) ∙ sym (len-entries m.points) in
      let faces_length : length faces ≡ finite.len m.faces = length-map (finite.entries m.faces) (λ e. ranks m e.1) ∙ sym (len-entries m.faces) in
      let corners_length : length (map corners_of faces) ≡ length faces = length-map faces corners_of in
      let points_held = len_numbered points in
      let faces_held = len_numbered (map corners_of faces) in
      record {
        is_mesh = record {
          vertex_ids = λ v e. of_live points v e;
          face_ids = λ f e. let ids = of_live (map corners_of faces) f e in omega (arith, ids);
          solid_ids = λ v h. let none = none_in_empty (Unit {0}) v in cc;
          live_corners = corners_live;
          different_corners = corners_different;
          different_faces = faces_different;
        };
        limits = record {
          greatest = (few_vertices_of scale, few_faces_of scale);
          vertices = omega (arith, fits.vertices);
          faces = omega (arith, fits.faces);
          vertex_ids = omega arith;
          face_ids = omega arith;
        };
      }

  -- the lists that are written have no fault
  pub shape_again : FitsScale scale m → IsClosed again → shape_fault scale (length (ranked_lists m).points) (ranked_lists m).faces ≡ None
  shape_again fits closed =
      let alike : length (ranked_lists m).points ≡ length points = length-map (finite.entries m.points) (λ e. position_of e.1) ∙ sym (length-map (finite.entries m.points) (λ e. e.1)) in
      ap (λ n. shape_fault scale n faces) alike ∙ no_fault scale points faces (sound_again fits) closed
