-- A mesh whose vertices and faces get other ids in the same order is measured as it was.
use Rattle.std.proofs.Common.{◌≡◌, ℕ, ◌+◌, ◌<◌, ◌==◌, ◌&&◌, ◌||◌, not, Bool, true, false, if◌then◌else◌, List, [], ◌∷◌, length, map, ℤ, pos, ◌+ℤ◌, ◌-ℤ◌, ◌*◌, Option, None, Some, IsSome, refl, sym, ap, subst, ◌∙◌}
use Rattle.std.specs.Prelude.{nat_lt, MatchBool}
use Rattle.std.specs.Option.{option_map, unwrap_or}
use Rattle.std.specs.List.{AllByRecursion, filter, list_any}
use Rattle.std.specs.Ordering.{nat_cmp}
use Rattle.std.specs.FinMap as finite
use Rattle.std.specs.FinMap.{get-entries, entries_sorted, len-entries}
use Rattle.std.specs.FinMap.Entries.{find}
use Rattle.std.proofs.lemmas.Bool.{false≢true}
use Rattle.std.proofs.lemmas.List.{length-map}
use Rattle.grid_base.specs.declared.Point.{Point}
use Rattle.mesh_base.specs.declared.ids.Corners.{Corners}
use Rattle.mesh_base.specs.Mesh.{Mesh, IsSound, IsLiveVertex, IsLiveFace, HasCorners, AreLive}
use Rattle.mesh_base.specs.Sides.{follows, has_corner, faces_where, faces_at, runs}
use Rattle.mesh_base.specs.Pairs.{is_edge, is_crowded, edges, id_pairs}
use Rattle.mesh_base.specs.Placements.{rest_positions, position_or_origin}
use Rattle.mesh_base.specs.Changes.{corner_list}
use Rattle.mesh_base.proofs.Listed.{each_found}
use Rattle.mesh_base.proofs.ListedPairs.{all_weaker, all_mapped, all_flat_mapped}
use Rattle.edit_base.specs.Classes.{classes}
use Rattle.edit_base.specs.Edges.{corners_at}
use Rattle.edit_pinch.specs.Pinch.{share_second, fans}
use Rattle.mesh_ids.specs.NewIds.{MayTake, vertex_id, face_id, renamed, with_vertex_ids, with_face_ids}
use Rattle.mesh_ids.proofs.Renaming.{find_moved, each_live}
use Rattle.mesh_ids.proofs.Taken.{entries_moved, same_entries}
use Rattle.mesh_ids.proofs.Turns.{new_rises}
use Rattle.mesh_measure.specs.Volume.{determinant, face_volume, face_sum, volume6}
use Rattle.mesh_measure.specs.Shape.{share_vertex, components, has_face, faced_ids, euler, has_crowded_edge, has_parted_vertex, half_of, genus}
use Rattle.log_text.specs.declared.NewIds.{NewIds}
use Rattle.log_text.specs.declared.LogLine.TheVariants as line
use Rattle.log_run.specs.Fits.{FitsLater, LineFits}
use Rattle.log_run.specs.States.{LogState, with_line}
use Rattle.track_measure.specs.declared.measures.MeasureLine.TheVariants.{Measure}
use Rattle.track_measure.specs.MeasureLines.{shape_of, measure_of}
use Rattle.track_measure.specs.Laws.{VertexIdsChangeNoMeasure, FaceIdsChangeNoMeasure}
use Rattle.track_measure.proofs.OtherIds.{filter_moved, any_moved, all_kept, once, pairs_moved, as_many_classes}

-- the vertices and faces of a mesh by other ids in the same order
record HasOtherIds (f g : ℕ → ℕ) (m n : Mesh) : Type 0 where
  pub points : finite.entries n.points ≡ map (λ e. (f e.0, e.1)) (finite.entries m.points)
  pub faces : finite.entries n.faces ≡ map (λ e. (g e.0, renamed f e.1)) (finite.entries m.faces)
  pub f-rises : (u v : ℕ) → IsLiveVertex m u → IsLiveVertex m v → u < v → f u < f v
  pub g-rises : (k l : ℕ) → IsLiveFace m k → IsLiveFace m l → k < l → g k < g l

-- the keys of entries at other keys
keys_moved : {X Y : Type 0} (id : ℕ → ℕ) (value : X → Y) (es : List (ℕ × X)) → map (λ (e : ℕ × Y). e.0) (map (λ e. (id e.0, value e.1)) es) ≡ map id (map (λ e. e.0) es)
keys_moved id value [] = refl
keys_moved id value (e ∷ es) = ap (λ l. id e.0 ∷ l) (keys_moved id value es)

-- a sum over faces
sum_moved : (id : ℕ → ℕ) (other : Corners → Corners) (F G : Corners → ℤ) (es : List (ℕ × Corners)) → AllByRecursion (λ e. F (other e.1) ≡ G e.1) es → face_sum F (map (λ e. (id e.0, other e.1)) es) ≡ face_sum G es
sum_moved id other F G [] all = refl
sum_moved id other F G (e ∷ es) all = let rest = sum_moved id other F G es all.1 in λ i. all.0 i +ℤ rest i

module _ (f g : ℕ → ℕ) (m n : Mesh) (sound : IsSound m) (is : HasOtherIds f g m n) where
  abbrev IsVertex : ℕ → Type 0
  IsVertex v = IsLiveVertex m v

  abbrev IsFace : ℕ → Type 0
  IsFace k = IsLiveFace m k

  f-once : (u v : ℕ) → IsVertex u → IsVertex v → (f u == f v) ≡ (u == v)
  f-once u v = once IsVertex f is.f-rises u v

  g-once : (k l : ℕ) → IsFace k → IsFace l → (g k == g l) ≡ (k == l)
  g-once k l = once IsFace g is.g-rises k l

  abbrev points : List (ℕ × Point)
  points = finite.entries m.points

  abbrev faces : List (ℕ × Corners)
  faces = finite.entries m.faces

  points_live : AllByRecursion (λ e. IsVertex e.0) points
  points_live = each_live m.points points (each_found points (entries_sorted m.points))

  faces_found : AllByRecursion (λ e. find nat_cmp e.0 faces ≡ Some e.1) faces
  faces_found = each_found faces (entries_sorted m.faces)

  faces_live : AllByRecursion (λ e. IsFace e.0) faces
  faces_live = each_live m.faces faces faces_found

  -- ---- what stands at ids

  same_point : (o : Option Point) → option_map (λ p. p) o ≡ o
  same_point None = refl
  same_point (Some p) = refl

  point_moved : (v : ℕ) → IsVertex v → finite.get n.points (f v) ≡ finite.get m.points v
  point_moved v live =
      get-entries n.points (f v) ∙ ap (find nat_cmp (f v)) is.points
      ∙ find_moved IsVertex f f-once (λ (p : Point). p) v points live points_live
      ∙ same_point _ ∙ sym (get-entries m.points v)

  at_rest : (v : ℕ) → IsVertex v → rest_positions n (f v) ≡ rest_positions m v
  at_rest v live = ap position_or_origin (point_moved v live)

  face_moved : (k : ℕ) → IsFace k → finite.get n.faces (g k) ≡ option_map (renamed f) (finite.get m.faces k)
  face_moved k live =
      get-entries n.faces (g k) ∙ ap (find nat_cmp (g k)) is.faces
      ∙ find_moved IsFace g g-once (renamed f) k faces live faces_live
      ∙ ap (option_map (renamed f)) (sym (get-entries m.faces k))

  corners_live : (k : ℕ) (c : Corners) → HasCorners m k c → AreLive m c
  corners_live k c has = sound.is_mesh.live_corners k c has

  entries_live : AllByRecursion (λ e. AreLive m e.1) faces
  entries_live = all_weaker (λ e. find nat_cmp e.0 faces ≡ Some e.1) (λ e. AreLive m e.1) faces (λ e h. corners_live e.0 e.1 (get-entries m.faces e.0 ∙ h)) faces_found

  abbrev no_corners : Corners
  no_corners = record { first = 0; second = 0; third = 0 }

  -- a live face has corners
  face_has : (k : ℕ) → IsFace k → (c : Corners) × HasCorners m k c
  face_has k live = by_answer (finite.get m.faces k) refl live
    where
      by_answer : (o : Option Corners) → finite.get m.faces k ≡ o → IsSome o → (c : Corners) × HasCorners m k c
      by_answer None e none = absurd (false≢true none)
      by_answer (Some c) e some = (c, e)

  corners_of : (k : ℕ) → IsFace k → AreLive m (corners_at m k) × (corners_at n (g k) ≡ renamed f (corners_at m k))
  corners_of k live =
      let has = face_has k live in
      let old : corners_at m k ≡ has.0 = ap (λ o. unwrap_or o no_corners) has.1 in
      let new : corners_at n (g k) ≡ renamed f has.0 = ap (λ o. unwrap_or o no_corners) (face_moved k live ∙ ap (option_map (renamed f)) has.1) in
      (subst (AreLive m) (sym old) (corners_live k has.0 has.1), new ∙ ap (renamed f) (sym old))

  -- ---- corners

  corner_moved : (c : Corners) (u : ℕ) → AreLive m c → IsVertex u → has_corner (renamed f c) (f u) ≡ has_corner c u
  corner_moved c u live live-u = rw (f-once c.first u live.0 live-u, f-once c.second u live.1 live-u, f-once c.third u live.2 live-u) refl

  follows_moved : (c : Corners) (u v : ℕ) → AreLive m c → IsVertex u → IsVertex v → follows (renamed f c) (f u) (f v) ≡ follows c u v
  follows_moved c u v live live-u live-v =
      rw (f-once c.first u live.0 live-u, f-once c.second v live.1 live-v, f-once c.second u live.1 live-u, f-once c.third v live.2 live-v, f-once c.third u live.2 live-u, f-once c.first v live.0 live-v) refl

  shares : (k l : ℕ) → IsFace k → IsFace l → share_vertex n (g k) (g l) ≡ share_vertex m k l
  shares k l live-k live-l =
      let a = corners_of k live-k in
      let b = corners_of l live-l in
      let c = corners_at m k in
      let d = corners_at m l in
      (λ i. list_any (λ u. has_corner (b.1 i) u) (corner_list (a.1 i)))
      ∙ any_moved (has_corner (renamed f d)) (has_corner d) f (corner_list c)
      (corner_moved d c.first b.0 a.0.0, (corner_moved d c.second b.0 a.0.1, (corner_moved d c.third b.0 a.0.2, tt)))

  shares_second : (v : ℕ) → IsVertex v → (k l : ℕ) → IsFace k → IsFace l → share_second n (f v) (g k) (g l) ≡ share_second m v k l
  shares_second v live k l live-k live-l =
      let a = corners_of k live-k in
      let b = corners_of l live-l in
      let c = corners_at m k in
      let d = corners_at m l in
      let other : Corners → ℕ → ℕ → Bool = λ e w u. not (u == w) && has_corner e u in
      let at : (u : ℕ) → IsVertex u → other (renamed f d) (f v) (f u) ≡ other d v u = λ u live-u.
      let same = f-once u v live-u live in
      let has = corner_moved d u b.0 live-u in
      λ i. not (same i) && has i in
      (λ i. list_any (other (b.1 i) (f v)) (corner_list (a.1 i)))
      ∙ any_moved (other (renamed f d) (f v)) (other d v) f (corner_list c) (at c.first a.0.0, (at c.second a.0.1, (at c.third a.0.2, tt)))

  -- ---- lists

  abbrev vertex_ids : List ℕ
  vertex_ids = finite.keys m.points

  vertices_live : AllByRecursion IsVertex vertex_ids
  vertices_live = all_mapped IsVertex (λ e. e.0) points points_live

  vertices_moved : finite.keys n.points ≡ map f vertex_ids
  vertices_moved = ap (map (λ e. e.0)) is.points ∙ keys_moved f (λ (p : Point). p) points

  faces_moved : finite.keys n.faces ≡ map g (finite.keys m.faces)
  faces_moved = ap (map (λ e. e.0)) is.faces ∙ keys_moved g (renamed f) faces

  -- the faces whose corners pass
  where_moved : (new old : Corners → Bool) → AllByRecursion (λ e. new (renamed f e.1) ≡ old e.1) faces → faces_where new n ≡ map g (faces_where old m)
  where_moved new old all =
      ap (λ es. map (λ e. e.0) (filter (λ e. new e.1) es)) is.faces
      ∙ ap (map (λ e. e.0)) (filter_moved (λ e. new e.1) (λ e. old e.1) (λ e. (g e.0, renamed f e.1)) faces all)
      ∙ keys_moved g (renamed f) (filter (λ e. old e.1) faces)

  at_moved : (v : ℕ) → IsVertex v → faces_at n (f v) ≡ map g (faces_at m v)
  at_moved v live = where_moved (λ c. has_corner c (f v)) (λ c. has_corner c v) (all_weaker (λ e. AreLive m e.1) (λ e. has_corner (renamed f e.1) (f v) ≡ has_corner e.1 v) faces (λ e l. corner_moved e.1 v l live) entries_live)

  runs_moved : (u v : ℕ) → IsVertex u → IsVertex v → runs n (f u) (f v) ≡ runs m u v
  runs_moved u v live-u live-v =
      ap length (where_moved (λ c. follows c (f u) (f v)) (λ c. follows c u v) (all_weaker (λ e. AreLive m e.1) (λ e. follows (renamed f e.1) (f u) (f v) ≡ follows e.1 u v) faces (λ e l. follows_moved e.1 u v l live-u live-v) entries_live))
      ∙ length-map (faces_where (λ c. follows c u v) m) g

  -- ---- edges

  abbrev AreVertices : ℕ × ℕ → Type 0
  AreVertices e = IsVertex e.0 × IsVertex e.1

  abbrev both_ids : ℕ × ℕ → ℕ × ℕ
  both_ids e = (f e.0, f e.1)

  pairs_live : AllByRecursion AreVertices (id_pairs vertex_ids)
  pairs_live = all_flat_mapped AreVertices (λ u. map (λ v. (u, v)) (filter (λ v. nat_lt u v) vertex_ids)) vertex_ids
      (all_weaker IsVertex (λ u. AllByRecursion AreVertices (map (λ v. (u, v)) (filter (λ v. nat_lt u v) vertex_ids))) vertex_ids
      (λ u live. all_mapped AreVertices (λ v. (u, v)) (filter (λ v. nat_lt u v) vertex_ids)
      (all_weaker IsVertex (λ v. AreVertices (u, v)) (filter (λ v. nat_lt u v) vertex_ids) (λ v l. (live, l)) (all_kept IsVertex (λ v. nat_lt u v) vertex_ids vertices_live))) vertices_live)

  edge_moved : (u v : ℕ) → IsVertex u → IsVertex v → is_edge n (f u) (f v) ≡ is_edge m u v
  edge_moved u v live-u live-v =
      let there = runs_moved u v live-u live-v in
      let back = runs_moved v u live-v live-u in
      λ i. nat_lt 0 (there i + back i)

  crowded_moved : (u v : ℕ) → IsVertex u → IsVertex v → is_crowded n (f u) (f v) ≡ is_crowded m u v
  crowded_moved u v live-u live-v =
      let there = runs_moved u v live-u live-v in
      let back = runs_moved v u live-v live-u in
      λ i. nat_lt 1 (there i) || nat_lt 1 (back i)

  edges_live : AllByRecursion AreVertices (edges m)
  edges_live = all_kept AreVertices (λ e. is_edge m e.0 e.1) (id_pairs vertex_ids) pairs_live

  edges_moved : edges n ≡ map both_ids (edges m)
  edges_moved =
      ap (λ ids. filter (λ e. is_edge n e.0 e.1) (id_pairs ids)) vertices_moved
      ∙ ap (filter (λ e. is_edge n e.0 e.1)) (pairs_moved IsVertex f is.f-rises vertex_ids vertex_ids vertices_live vertices_live)
      ∙ filter_moved (λ e. is_edge n e.0 e.1) (λ e. is_edge m e.0 e.1) both_ids (id_pairs vertex_ids)
      (all_weaker AreVertices (λ e. is_edge n (f e.0) (f e.1) ≡ is_edge m e.0 e.1) (id_pairs vertex_ids) (λ e l. edge_moved e.0 e.1 l.0 l.1) pairs_live)

  -- ---- what is measured

  volume_same : volume6 n ≡ volume6 m
  volume_same =
      ap (face_sum (face_volume (rest_positions n))) is.faces
      ∙ sum_moved g (renamed f) (face_volume (rest_positions n)) (face_volume (rest_positions m)) faces
      (all_weaker (λ e. AreLive m e.1) (λ e. face_volume (rest_positions n) (renamed f e.1) ≡ face_volume (rest_positions m) e.1) faces (λ e l.
      let a = at_rest e.1.first l.0 in
      let b = at_rest e.1.second l.1 in
      let c = at_rest e.1.third l.2 in
      λ i. determinant (a i) (b i) (c i)) entries_live)

  components_same : components n ≡ components m
  components_same =
      ap (λ ks. length (classes (share_vertex n) ks)) faces_moved
      ∙ as_many_classes IsFace g g-once (share_vertex m) (share_vertex n) shares (finite.keys m.faces) (all_mapped IsFace (λ e. e.0) faces faces_live)

  faced_same : length (faced_ids n) ≡ length (faced_ids m)
  faced_same =
      ap (λ ids. length (filter (has_face n) ids)) vertices_moved
      ∙ ap length (filter_moved (has_face n) (has_face m) f vertex_ids (all_weaker IsVertex (λ v. has_face n (f v) ≡ has_face m v) vertex_ids
      (λ v live. ap (nat_lt 0) (ap length (at_moved v live) ∙ length-map (faces_at m v) g)) vertices_live))
      ∙ length-map (faced_ids m) f

  edges_same : length (edges n) ≡ length (edges m)
  edges_same = ap length edges_moved ∙ length-map (edges m) both_ids

  many_faces : finite.len n.faces ≡ finite.len m.faces
  many_faces = len-entries n.faces ∙ ap length is.faces ∙ length-map faces (λ e. (g e.0, renamed f e.1)) ∙ sym (len-entries m.faces)

  euler_same : euler n ≡ euler m
  euler_same = λ i. pos (faced_same i) -ℤ pos (edges_same i) +ℤ pos (many_faces i)

  crowded_same : has_crowded_edge n ≡ has_crowded_edge m
  crowded_same =
      ap (list_any (λ e. is_crowded n e.0 e.1)) edges_moved
      ∙ any_moved (λ e. is_crowded n e.0 e.1) (λ e. is_crowded m e.0 e.1) both_ids (edges m)
      (all_weaker AreVertices (λ e. is_crowded n (f e.0) (f e.1) ≡ is_crowded m e.0 e.1) (edges m) (λ e l. crowded_moved e.0 e.1 l.0 l.1) edges_live)

  fans_same : (v : ℕ) → IsVertex v → length (fans n (f v)) ≡ length (fans m v)
  fans_same v live =
      ap (λ ks. length (classes (share_second n (f v)) ks)) (at_moved v live)
      ∙ as_many_classes IsFace g g-once (share_second m v) (share_second n (f v)) (shares_second v live) (faces_at m v)
      (all_mapped IsFace (λ e. e.0) (filter (λ e. has_corner e.1 v) faces) (all_kept (λ e. IsFace e.0) (λ e. has_corner e.1 v) faces faces_live))

  parted_same : has_parted_vertex n ≡ has_parted_vertex m
  parted_same =
      ap (list_any (λ v. nat_lt 1 (length (fans n v)))) vertices_moved
      ∙ any_moved (λ v. nat_lt 1 (length (fans n v))) (λ v. nat_lt 1 (length (fans m v))) f vertex_ids
      (all_weaker IsVertex (λ v. nat_lt 1 (length (fans n (f v))) ≡ nat_lt 1 (length (fans m v))) vertex_ids (λ v live. ap (nat_lt 1) (fans_same v live)) vertices_live)

  genus_same : genus n ≡ genus m
  genus_same = λ i. if crowded_same i || parted_same i then None else half_of (pos (2 * components_same i) -ℤ euler_same i)

  shape_same : shape_of n ≡ shape_of m
  shape_same = λ i. record { components = components_same i; euler = euler_same i }

  measure_same : (k : ℕ) → measure_of k n ≡ measure_of k m
  measure_same k = λ i. Measure k (volume_same i) (shape_same i) (genus_same i)

-- ---- where vertices, and where faces, take new ids

vertices_other : (m : Mesh) (ids : List ℕ) (next : ℕ) → MayTake (finite.len m.points) ids next → HasOtherIds (vertex_id m ids) (λ k. k) m (with_vertex_ids m ids next)
vertices_other m ids next may = record {
  points = entries_moved m.points (vertex_id m ids) (new_rises m.points ids next may) (λ (p : Point). p);
  faces = entries_moved m.faces (λ k. k) (λ k l live-k live-l lt. lt) (renamed (vertex_id m ids));
  f-rises = new_rises m.points ids next may;
  g-rises = λ k l live-k live-l lt. lt;
}

faces_other : (m : Mesh) (ids : List ℕ) (next : ℕ) → MayTake (finite.len m.faces) ids next → HasOtherIds (λ v. v) (face_id m ids) m (with_face_ids m ids next)
faces_other m ids next may = record {
  points = sym (same_entries (finite.entries m.points));
  faces = entries_moved m.faces (face_id m ids) (new_rises m.faces ids next may) (λ (c : Corners). c);
  f-rises = λ u v live-u live-v lt. lt;
  g-rises = new_rises m.faces ids next may;
}

-- ---- a line of new ids

-- what fits behind other lines, where a line fits that is not the first
later_fits : (has_line : Bool) (Fits : Type 0) → MatchBool has_line Fits ⊥ → Fits
later_fits true Fits fits = fits
later_fits false Fits fits = absurd fits

module _ (s : LogState) (new : NewIds) (sound : IsSound s.replay.mesh) where
  abbrev m : Mesh
  m = s.replay.mesh

  vertices_taken : LineFits s (line.Vertices new) → HasOtherIds (vertex_id m new.ids) (λ k. k) m (with_vertex_ids m new.ids new.next)
  vertices_taken fits = vertices_other m new.ids new.next (later_fits s.has_line (FitsLater s (line.Vertices new)) fits).2

  faces_taken : LineFits s (line.Faces new) → HasOtherIds (λ v. v) (face_id m new.ids) m (with_face_ids m new.ids new.next)
  faces_taken fits = faces_other m new.ids new.next (later_fits s.has_line (FitsLater s (line.Faces new)) fits).2

  -- the shape stays
  pub vertices_keep : LineFits s (line.Vertices new) → shape_of (with_line s (line.Vertices new)).replay.mesh ≡ shape_of m
  vertices_keep fits = shape_same (vertex_id m new.ids) (λ k. k) m (with_vertex_ids m new.ids new.next) sound (vertices_taken fits)

  pub faces_keep : LineFits s (line.Faces new) → shape_of (with_line s (line.Faces new)).replay.mesh ≡ shape_of m
  faces_keep fits = shape_same (λ v. v) (face_id m new.ids) m (with_face_ids m new.ids new.next) sound (faces_taken fits)

pub vertices_change_none : VertexIdsChangeNoMeasure
vertices_change_none s new k sound fits =
    let m : Mesh = s.replay.mesh in
    measure_same (vertex_id m new.ids) (λ k. k) m (with_vertex_ids m new.ids new.next) sound (vertices_taken s new sound fits) k

pub faces_change_none : FaceIdsChangeNoMeasure
faces_change_none s new k sound fits =
    let m : Mesh = s.replay.mesh in
    measure_same (λ v. v) (face_id m new.ids) m (with_face_ids m new.ids new.next) sound (faces_taken s new sound fits) k
