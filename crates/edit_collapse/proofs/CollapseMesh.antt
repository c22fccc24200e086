-- What a collapse leaves: a closed and sound mesh, whatever the point at which the edge's first end is put.
use Rattle.std.proofs.Common.{◌≡◌, ◌≢◌, ◌⊎◌, inr, ⊎_elim, ℕ, ◌<◌, ◌≤◌, Bool, true, false, cond, not, ◌&&◌, ◌||◌, ◌==◌, List, [], ◌∷◌, length, Some, None, IsSome, is_some, slice_get, map, if◌then◌else◌, refl, sym, ap, subst, ◌∙◌, arith}
use Rattle.mesh_base.proofs.Tests.{untied}
use Rattle.std.proofs.lemmas.Bool.{false≢true}
use Rattle.std.proofs.lemmas.Bool.Decides.{nat_tests}
use Rattle.std.specs.List.{filter, fold, AllByRecursion}
use Rattle.std.specs.Ordering.{nat_cmp, eq_by_cmp}
use Rattle.std.specs.Cmp.{nat_cmp_total, unsigned_tied}
use Rattle.std.specs.FinMap as finite
use Rattle.std.specs.FinMap.{get-remove, get-insert, get-entries}
use Rattle.std.specs.FinMap.Entries.{find}
use Rattle.grid_base.specs.declared.Point.{Point}
use Rattle.mesh_base.specs.declared.ids.Corners.{Corners}
use Rattle.mesh_base.specs.Mesh.{Mesh, is_solid, IsSound, IsLiveVertex, IsLiveFace, HasCorners, AreLive}
use Rattle.mesh_base.specs.Sides.{has_corner, follows, ids_where, IsClosed}
use Rattle.mesh_base.specs.Changes.{without_vertex}
use Rattle.mesh_base.specs.Limits.{is_over_limits}
use Rattle.mesh_base.proofs.Finite.{live_after_remove, live_after_insert, live_stays, live_but_removed, live_inserted}
use Rattle.mesh_base.proofs.ListedPairs.{all_filtered, all_always}
use Rattle.edit_base.specs.Edges.{doubles_a_face}
use Rattle.edit_collapse.specs.Collapse.{joined_faces, has_face, without_bare, has_solid_end, placed, placed_if_left, collapse_mesh}
use Rattle.edit_acts.proofs.Sound.{not_over}
use Rattle.edit_acts.proofs.Undoubled.{undoubled}
use Rattle.edit_collapse.proofs.Carried.{moved, moved_either}
use Rattle.edit_collapse.proofs.Joined.{Stage, first_held, second_held, third_held}
use Rattle.edit_collapse.proofs.JoinedFaces.{lacks_b, is_renamed, different_left, joined, joined_solid, joined_is_closed}
use Rattle.mesh_base.specs.declared.limits.Limits.{Limits}
use Rattle.grid_base.specs.declared.TheConstants.{VERTICES_MAX, FACES_MAX}

-- ---- vertices are dropped
pub dropped_faces : (vs : List ℕ) (n : Mesh) → (fold without_vertex n vs).faces ≡ n.faces
dropped_faces [] n = refl
dropped_faces (v ∷ vs) n = dropped_faces vs (without_vertex n v)

pub dropped_next : (vs : List ℕ) (n : Mesh) → ((fold without_vertex n vs).next_vertex ≡ n.next_vertex) × ((fold without_vertex n vs).next_face ≡ n.next_face) × ((fold without_vertex n vs).limits ≡ n.limits)
dropped_next [] n = (refl, refl, refl)
dropped_next (v ∷ vs) n = dropped_next vs (without_vertex n v)

pub dropped_live : (vs : List ℕ) (n : Mesh) (v : ℕ) → IsLiveVertex (fold without_vertex n vs) v → IsLiveVertex n v
dropped_live [] n v live = live
dropped_live (w ∷ vs) n v live = (live_after_remove n.points w v (dropped_live vs (without_vertex n w) v live)).1

-- a vertex that is left stays where it is
pub dropped_points : (vs : List ℕ) (n : Mesh) (v : ℕ) → IsLiveVertex (fold without_vertex n vs) v → finite.get (fold without_vertex n vs).points v ≡ finite.get n.points v
dropped_points [] n v live = refl
dropped_points (w ∷ vs) n v live =
    let apart = (live_after_remove n.points w v (dropped_live vs (without_vertex n w) v live)).0 in
    dropped_points vs (without_vertex n w) v live
    ∙ get-remove nat_cmp_total n.points w v ∙ ap (λ t. cond t None (finite.get n.points v)) (unsigned_tied v w ∙ untied v w apart)

-- and keeps its mark
pub dropped_marks : (vs : List ℕ) (n : Mesh) (v : ℕ) → IsLiveVertex (fold without_vertex n vs) v → is_solid (fold without_vertex n vs) v ≡ is_solid n v
dropped_marks [] n v live = refl
dropped_marks (w ∷ vs) n v live =
    let apart = (live_after_remove n.points w v (dropped_live vs (without_vertex n w) v live)).0 in
    dropped_marks vs (without_vertex n w) v live
    ∙ ap is_some (get-remove nat_cmp_total n.solid w v ∙ ap (λ t. cond t None (finite.get n.solid v)) (unsigned_tied v w ∙ untied v w apart))

-- and what goes loses its mark: where each solid vertex was live, it is so afterwards
dropped_solid : (vs : List ℕ) (n : Mesh) → ((v : ℕ) → is_solid n v ≡ true → IsLiveVertex n v) → (v : ℕ) → is_solid (fold without_vertex n vs) v ≡ true → IsLiveVertex (fold without_vertex n vs) v
dropped_solid [] n were = were
dropped_solid (w ∷ vs) n were = dropped_solid vs (without_vertex n w) (λ v solid. let old = live_after_remove n.solid w v solid in live_but_removed n.points w v old.0 (were v old.1))

dropped_others : (vs : List ℕ) (n : Mesh) (v : ℕ) → AllByRecursion (λ w. v ≢ w) vs → finite.get (fold without_vertex n vs).points v ≡ finite.get n.points v
dropped_others [] n v h = refl
dropped_others (w ∷ vs) n v h =
    dropped_others vs (without_vertex n w) v h.1
    ∙ get-remove nat_cmp_total n.points w v ∙ ap (λ t. cond t None (finite.get n.points v)) (unsigned_tied v w ∙ untied v w h.0)

-- ---- a vertex is put at a point, if it is left
pub placed_points : (s : Bool) (n : Mesh) (v : ℕ) (at : Point) → (placed s n v at).points ≡ finite.insert n.points v at
placed_points true n v at = refl
placed_points false n v at = refl

pub placed_faces : (s t : Bool) (n : Mesh) (v : ℕ) (at : Point) → (if t then placed s n v at else n).faces ≡ n.faces
placed_faces true true n v at = refl
placed_faces false true n v at = refl
placed_faces s false n v at = refl

pub placed_next : (s t : Bool) (n : Mesh) (v : ℕ) (at : Point) → ((if t then placed s n v at else n).next_vertex ≡ n.next_vertex) × ((if t then placed s n v at else n).next_face ≡ n.next_face) × ((if t then placed s n v at else n).limits ≡ n.limits)
placed_next true true n v at = (refl, refl, refl)
placed_next false true n v at = (refl, refl, refl)
placed_next s false n v at = (refl, refl, refl)

placed_live : (s t : Bool) (n : Mesh) (v : ℕ) (at : Point) (w : ℕ) → IsLiveVertex n w → IsLiveVertex (if t then placed s n v at else n) w
placed_live s true n v at w live = subst (λ ps. IsSome (finite.get ps w)) (sym (placed_points s n v at)) (live_stays n.points v at w live)
placed_live s false n v at w live = live

pub was_live : (s : Bool) (n : Mesh) (v : ℕ) (at : Point) (w : ℕ) → IsLiveVertex (placed_if_left s n v at) w → IsLiveVertex n w
was_live s n v at w live = by_test (finite.contains_key n.points v) refl live
  where
    by_test : (t : Bool) → finite.contains_key n.points v ≡ t → IsLiveVertex (if t then placed s n v at else n) w → IsLiveVertex n w
    by_test true there live = ⊎_elim (λ same. subst (IsLiveVertex n) (sym same) there) (λ old. old) (live_after_insert n.points v at w (subst (λ ps. IsSome (finite.get ps w)) (placed_points s n v at) live))
    by_test false there live = live

-- where it is solid then, it was so or is the one that is put there
placed_solid : (s : Bool) (n : Mesh) (v : ℕ) (at : Point) (w : ℕ) → is_solid (placed s n v at) w ≡ true → (w ≡ v) ⊎ (is_solid n w ≡ true)
placed_solid true n v at w h = live_after_insert n.solid v tt w h
placed_solid false n v at w h = inr h

marks_live : (s : Bool) (n : Mesh) (v : ℕ) (at : Point) → ((w : ℕ) → is_solid n w ≡ true → IsLiveVertex n w) → (w : ℕ) → is_solid (placed_if_left s n v at) w ≡ true → IsLiveVertex (placed_if_left s n v at) w
marks_live s n v at were = by_test (finite.contains_key n.points v) refl
  where
    by_test : (t : Bool) → finite.contains_key n.points v ≡ t → (w : ℕ) → is_solid (if t then placed s n v at else n) w ≡ true → IsLiveVertex (if t then placed s n v at else n) w
    by_test true there w solid = placed_live s true n v at w (⊎_elim (λ same. subst (IsLiveVertex n) (sym same) there) (λ old. were w old) (placed_solid s n v at w solid))
    by_test false there w solid = were w solid

-- every other vertex keeps its mark
pub placed_marks : (s : Bool) (n : Mesh) (v : ℕ) (at : Point) (w : ℕ) → w ≢ v → is_solid (placed_if_left s n v at) w ≡ is_solid n w
placed_marks s n v at w apart = by_tests s (finite.contains_key n.points v)
  where
    by_tests : (s t : Bool) → is_solid (if t then placed s n v at else n) w ≡ is_solid n w
    by_tests true true = ap is_some (get-insert nat_cmp_total n.solid v tt w ∙ ap (λ t. cond t (Some tt) (finite.get n.solid w)) (unsigned_tied w v ∙ untied w v apart))
    by_tests false true = refl
    by_tests s false = refl

-- where it is made solid, and is left, it is solid
pub placed_mark : (n : Mesh) (v : ℕ) (at : Point) → IsLiveVertex n v → is_solid (placed_if_left true n v at) v ≡ true
placed_mark n v at live = ap (λ t. is_solid (if t then placed true n v at else n) v) live ∙ live_inserted n.solid v tt

pub placed_here : (s : Bool) (n : Mesh) (v : ℕ) (at : Point) (w : ℕ) → w ≡ v → IsLiveVertex n v → finite.get (placed_if_left s n v at).points w ≡ Some at
placed_here s n v at w same live =
    ap (λ t. finite.get (if t then placed s n v at else n).points w) live
    ∙ ap (λ ps. finite.get ps w) (placed_points s n v at)
    ∙ get-insert nat_cmp_total n.points v at w ∙ ap (λ t. cond t (Some at) (finite.get n.points w)) (unsigned_tied w v ∙ tied w v same)
  where
    tied : (x y : ℕ) → x ≡ y → (x == y) ≡ true
    tied x y k = grind (arith, nat_tests)

pub placed_elsewhere : (s : Bool) (n : Mesh) (v : ℕ) (at : Point) (w : ℕ) → w ≢ v → finite.get (placed_if_left s n v at).points w ≡ finite.get n.points w
placed_elsewhere s n v at w apart = by_test (finite.contains_key n.points v)
  where
    by_test : (t : Bool) → finite.get (if t then placed s n v at else n).points w ≡ finite.get n.points w
    by_test true = ap (λ ps. finite.get ps w) (placed_points s n v at) ∙ get-insert nat_cmp_total n.points v at w ∙ ap (λ t. cond t (Some at) (finite.get n.points w)) (unsigned_tied w v ∙ untied w v apart)
    by_test false = refl

-- ---- a vertex with a face
some_id : (test : Corners → Bool) (es : List (ℕ × Corners)) (k : ℕ) (c : Corners) → find nat_cmp k es ≡ Some c → test c ≡ true → is_some (slice_get (ids_where test es) 0) ≡ true
some_id test [] k c h t = cc
some_id test (e ∷ es) k c h t = by_test (λ is. some_id test es k c is t) (test e.1) refl
  where
    by_test : (find nat_cmp k es ≡ Some c → is_some (slice_get (ids_where test es) 0) ≡ true) → (s : Bool) → test e.1 ≡ s →
        is_some (slice_get (map (λ x. x.0) (cond s (e ∷ filter (λ x. test x.1) es) (filter (λ x. test x.1) es))) 0) ≡ true
    by_test rest true s = refl
    by_test rest false s = by_key (eq_by_cmp nat_cmp k e.0) h
      where
        by_key : (t : Bool) → cond t (Some e.1) (find nat_cmp k es) ≡ Some c → is_some (slice_get (ids_where test es) 0) ≡ true
        by_key true is = let same : e.1 ≡ c = cc in absurd (false≢true (sym s ∙ ap test same ∙ t))
        by_key false is = rest is

pub has_face_of : (n : Mesh) (f : ℕ) (c : Corners) (v : ℕ) → HasCorners n f c → has_corner c v ≡ true → has_face n v ≡ true
has_face_of n f c v there held = some_id (λ x. has_corner x v) (finite.entries n.faces) f c (sym (get-entries n.faces f) ∙ there) held

-- ---- the result
module _ (m : Mesh) (a b : ℕ) (at : Point) (sound : IsSound m) (closed : IsClosed m) (apart : a ≢ b) where
  abbrev three : Mesh
  three = joined_faces m a b

  abbrev four : Mesh
  four = without_bare m b three

  abbrev bare_vertices : List ℕ
  bare_vertices = filter (λ v. (v == b) || (has_face m v && not (has_face three v))) (finite.keys three.points)

  abbrev solid : Bool
  solid = has_solid_end m a b

  stage : Stage m a b three []
  stage = joined m a b sound apart closed

  pub same_faces : (collapse_mesh m a b at).faces ≡ three.faces
  same_faces = placed_faces solid (finite.contains_key four.points a) four a at ∙ dropped_faces bare_vertices three

  pub there_before : (f : ℕ) (c : Corners) → HasCorners (collapse_mesh m a b at) f c → HasCorners three f c
  there_before f c there = ap (λ fs. finite.get fs f) (sym same_faces) ∙ there

  -- a closed one
  pub collapse_is_closed : IsClosed (collapse_mesh m a b at)
  collapse_is_closed u v = subst (λ fs. length (ids_where (λ c. follows c u v) (finite.entries fs)) ≡ length (ids_where (λ c. follows c v u) (finite.entries fs))) (sym same_faces) (joined_is_closed m a b sound apart closed u v)

  -- a corner of a face is no vertex that is dropped
  pub corner_stays : (f : ℕ) (c : Corners) (v : ℕ) → HasCorners three f c → has_corner c v ≡ true → finite.get four.points v ≡ finite.get m.points v
  corner_stays f c v there held =
      dropped_others bare_vertices three v
      (all_filtered (λ w. v ≢ w) (λ w. (w == b) || (has_face m w && not (has_face three w))) (finite.keys three.points)
      (all_always (λ w. ((w == b) || (has_face m w && not (has_face three w))) ≡ true → v ≢ w) (finite.keys three.points)
      (λ w t same. false≢true (sym off ∙ subst (λ x. ((x == b) || (has_face m x && not (has_face three x))) ≡ true) (sym same) t))))
      ∙ ap (λ ps. finite.get ps v) stage.points
    where
      not_b : v ≢ b
      not_b same = false≢true (sym (lacks_b m a b sound apart three stage f c there) ∙ subst (λ x. has_corner c x ≡ true) same held)

      neither : (p q r : Bool) → p ≡ false → r ≡ true → (p || (q && not r)) ≡ false
      neither false true true e g = refl
      neither false false true e g = refl
      neither true q r e g = absurd cc
      neither false q false e g = absurd (false≢true g)

      off : ((v == b) || (has_face m v && not (has_face three v))) ≡ false
      off = neither (v == b) (has_face m v) (has_face three v) (untied v b not_b) (has_face_of three f c v there held)

  module _ (a_live : IsLiveVertex m a) where
    moved_live : (v : ℕ) → IsLiveVertex m v → IsLiveVertex m (moved b a v)
    moved_live v live = ⊎_elim (λ e. subst (IsLiveVertex m) (sym e.1) a_live) (λ e. subst (IsLiveVertex m) (sym e.1) live) (moved_either b a v)

    pub were_live : (f : ℕ) (c : Corners) → HasCorners three f c → AreLive m c
    were_live f c there =
        let old = stage.came f c there in
        let live = sound.is_mesh.live_corners old.face old.from old.there in
        subst (AreLive m) (sym (is_renamed m a b sound apart three stage f c there)) (moved_live old.from.first live.0, moved_live old.from.second live.1, moved_live old.from.third live.2)

    pub left_at : (f : ℕ) (c : Corners) (v : ℕ) → HasCorners three f c → has_corner c v ≡ true → IsLiveVertex m v → IsLiveVertex four v
    left_at f c v there held live = ap is_some (corner_stays f c v there held) ∙ live

    are_live : (f : ℕ) (c : Corners) → HasCorners three f c → AreLive (collapse_mesh m a b at) c
    are_live f c there =
        let live = were_live f c there in
        let t = finite.contains_key four.points a in (
          placed_live solid t four a at c.first (left_at f c c.first there (first_held c c.first refl) live.0),
          placed_live solid t four a at c.second (left_at f c c.second there (second_held c c.second refl) live.1),
          placed_live solid t four a at c.third (left_at f c c.third there (third_held c c.third refl) live.2),
        )

    next_ids : ((collapse_mesh m a b at).next_vertex ≡ m.next_vertex) × ((collapse_mesh m a b at).next_face ≡ three.next_face) × ((collapse_mesh m a b at).limits ≡ m.limits)
    next_ids =
        let ended = placed_next solid (finite.contains_key four.points a) four a at in
        let dropped = dropped_next bare_vertices three in
        (ended.0 ∙ dropped.0 ∙ stage.next, ended.1 ∙ dropped.1, ended.2 ∙ dropped.2 ∙ stage.limits)

    -- a sound one
    pub collapse_is_sound : doubles_a_face three ≡ false → is_over_limits (collapse_mesh m a b at) ≡ false → IsSound (collapse_mesh m a b at)
    collapse_is_sound undoubled_faces fits = record {
      is_mesh = record {
        vertex_ids = λ v live. subst (λ k. (1 ≤ v) × (v < k)) (sym next_ids.0) (sound.is_mesh.vertex_ids v (subst (λ ps. IsSome (finite.get ps v)) stage.points (dropped_live bare_vertices three v (was_live solid four a at v live))));
        face_ids = λ f live. let old : IsLiveFace three f = subst (λ fs. IsSome (finite.get fs f)) same_faces live in
            subst (λ k. (1 ≤ f) × (f < k)) (sym next_ids.1) (stage.ids f old, stage.below f old);
        solid_ids = marks_live solid four a at (dropped_solid bare_vertices three (joined_solid m a b sound apart closed));
        live_corners = λ f c there. are_live f c (there_before f c there);
        different_corners = λ f c there. different_left m a b sound apart three stage f c (there_before f c there);
        different_faces = λ f g c d there there' same. undoubled three undoubled_faces f g c d (there_before f c there) (there_before g d there') same;
      };
      limits = not_over (collapse_mesh m a b at) fits
          (subst (λ k. 1 ≤ k) (sym next_ids.0) sound.limits.vertex_ids.0)
          (subst (λ k. 1 ≤ k) (sym next_ids.1) stage.first)
          (subst (λ (l : Limits). (l.vertices ≤ VERTICES_MAX) × (l.faces ≤ FACES_MAX)) (sym next_ids.2) sound.limits.greatest);
    }

    -- where the corners of its faces stand
    pub placed_at_a : (f : ℕ) (c : Corners) (v : ℕ) → HasCorners three f c → has_corner c v ≡ true → v ≡ a → finite.get (collapse_mesh m a b at).points v ≡ Some at
    placed_at_a f c v there held same = placed_here solid four a at v same (left_at f c a there (subst (λ x. has_corner c x ≡ true) same held) a_live)

    pub stays_placed : (f : ℕ) (c : Corners) (v : ℕ) → HasCorners three f c → has_corner c v ≡ true → v ≢ a → finite.get (collapse_mesh m a b at).points v ≡ finite.get m.points v
    stays_placed f c v there held not_a = placed_elsewhere solid four a at v not_a ∙ corner_stays f c v there held
