-- The fourth act: only corners of the faces at the two ends can lose their last face, so no other vertex need be looked at.
use Rattle.std.proofs.Common.{◌≡◌, ◌≢◌, ⊎_elim, ℕ, ◌+◌, Bool, true, false, cond, if◌then◌else◌, ◌&&◌, ◌||◌, ◌==◌, not, nat_lt, ◌<◌, List, [], ◌∷◌, map, slice_get, Option, Some, None, is_some, refl, sym, ap, ◌∙◌, arith}
use Rattle.std.proofs.lemmas.Bool.{false≢true, eqb-true}
use Rattle.std.proofs.lemmas.Bool.Decides.{nat_tests}
use Rattle.std.proofs.lemmas.List.Folds.{list_any-append}
use Rattle.std.proofs.lemmas.Map.Views.{any-filter_same}
use Rattle.std.specs.Option.{option_map, unwrap_or}
use Rattle.std.specs.List.{filter, flat_map, fold, list_any, AllByRecursion}
use Rattle.std.specs.Ordering.{nat_cmp, eq_by_cmp}
use Rattle.std.specs.Cmp.{nat_cmp_total, unsigned_tied}
use Rattle.std.specs.FinMap as finite
use Rattle.std.specs.FinMap.{same_map, nat_cmp-IsAntisymmetric, get-remove, contains_key-keys}
use Rattle.grid_base.specs.declared.Point.{Point}
use Rattle.mesh_base.specs.declared.ids.Corners.{Corners}
use Rattle.mesh_base.specs.Mesh.{Mesh, is_solid, IsSound, IsLiveVertex, HasCorners}
use Rattle.mesh_base.specs.Pairs.{is_edge}
use Rattle.mesh_base.specs.Sides.{has_corner, follows, runs, IsClosed}
use Rattle.mesh_base.specs.Changes.{without_vertex, corner_list}
use Rattle.mesh_base.proofs.Listed.{all_filter, at_key, running_face, and_first, and_second, or_either}
use Rattle.mesh_base.proofs.ListedPairs.{all_weaker}
use Rattle.mesh_base.proofs.Finite.{live_after_remove, live_but_removed}
use Rattle.mesh_base.proofs.Tests.{or_first, or_second, both_ways, test_either_way}
use Rattle.edit_collapse.specs.Collapse.{joined_faces, has_face, without_bare}
use Rattle.edit_collapse.proofs.CollapseMesh.{dropped_faces, dropped_next, has_face_of}
use Rattle.edit_collapse.proofs.JoinedFaces.{joined, joined_solid, lacks_b}
use Rattle.edit_collapse.specs.Tried.{corners_near, others_than, without_if_bare}
use Rattle.edit_collapse.proofs.Acts.{faces_kept_at, each_at, one_stays}
use Rattle.edit_collapse.proofs.Three.{three_cut, two_stays}

-- the list has the number
abbrev has : List ℕ → ℕ → Bool
has vs v = list_any (λ w. w == v) vs

-- ---- vertices are dropped, each or if it is bare
both_dropped : {A : Type 0} (p q : Bool) (o : Option A) → cond q None (cond p None o) ≡ cond (p || q) None o
both_dropped true true o = refl
both_dropped true false o = refl
both_dropped false q o = refl

got_dropped : (vs : List ℕ) (n : Mesh) (v : ℕ) → finite.get (fold without_vertex n vs).points v ≡ cond (has vs v) None (finite.get n.points v)
got_dropped [] n v = refl
got_dropped (w ∷ vs) n v =
    got_dropped vs (without_vertex n w) v
    ∙ ap (λ o. cond (has vs v) None o) (get-remove nat_cmp_total n.points w v ∙ ap (λ t. cond t None (finite.get n.points v)) (unsigned_tied v w ∙ test_either_way v w))
    ∙ both_dropped (w == v) (has vs v) (finite.get n.points v)

marks_dropped : (vs : List ℕ) (n : Mesh) (v : ℕ) → finite.get (fold without_vertex n vs).solid v ≡ cond (has vs v) None (finite.get n.solid v)
marks_dropped [] n v = refl
marks_dropped (w ∷ vs) n v =
    marks_dropped vs (without_vertex n w) v
    ∙ ap (λ o. cond (has vs v) None o) (get-remove nat_cmp_total n.solid w v ∙ ap (λ t. cond t None (finite.get n.solid v)) (unsigned_tied v w ∙ test_either_way v w))
    ∙ both_dropped (w == v) (has vs v) (finite.get n.solid v)

same_faces_once : (n : Mesh) (w : ℕ) → (without_if_bare n w).faces ≡ n.faces
same_faces_once n w = by_test (not (has_face n w) && is_some (finite.get n.points w))
  where
    by_test : (t : Bool) → (if t then without_vertex n w else n).faces ≡ n.faces
    by_test true = refl
    by_test false = refl

same_next_once : (n : Mesh) (w : ℕ) → ((without_if_bare n w).next_vertex ≡ n.next_vertex) × ((without_if_bare n w).next_face ≡ n.next_face) × ((without_if_bare n w).limits ≡ n.limits)
same_next_once n w = by_test (not (has_face n w) && is_some (finite.get n.points w))
  where
    by_test : (t : Bool) → ((if t then without_vertex n w else n).next_vertex ≡ n.next_vertex) × ((if t then without_vertex n w else n).next_face ≡ n.next_face) × ((if t then without_vertex n w else n).limits ≡ n.limits)
    by_test true = (refl, refl, refl)
    by_test false = (refl, refl, refl)

-- what is told of each vertex, after one is dropped if it is bare
module _ {A : Type 0} (n : Mesh) (w v : ℕ) (told : ℕ → Option A) where
  rests : (u : Bool) → (w == v) ≡ u → (h : Bool) → (u ≡ true → has_face n v ≡ h) → (u ≡ true → h ≡ true) → told v ≡ cond (u && not (has_face n v)) None (told v)
  rests true e h is one = sym (ap (λ t. cond (not t) None (told v)) (is refl ∙ one refl))
  rests false e h is one = refl

  absent : (u : Bool) → (w == v) ≡ u → told w ≡ None → (t : Bool) → told v ≡ cond (u && t) None (told v)
  absent true e none true = ap told (sym (eqb-true w v e)) ∙ none
  absent true e none false = refl
  absent false e none t = refl

  goes : (u : Bool) → (w == v) ≡ u → has_face n w ≡ false → cond u None (told v) ≡ cond (u && not (has_face n v)) None (told v)
  goes true e bare = sym (ap (λ t. cond (not t) None (told v)) (ap (has_face n) (sym (eqb-true w v e)) ∙ bare))
  goes false e bare = refl

got_once : (n : Mesh) (w v : ℕ) → finite.get (without_if_bare n w).points v ≡ cond ((w == v) && not (has_face n v)) None (finite.get n.points v)
got_once n w v = by_tests (has_face n w) refl (finite.get n.points w) refl
  where
    removed : finite.get (without_vertex n w).points v ≡ cond (w == v) None (finite.get n.points v)
    removed = get-remove nat_cmp_total n.points w v ∙ ap (λ t. cond t None (finite.get n.points v)) (unsigned_tied v w ∙ test_either_way v w)

    by_tests : (t : Bool) → has_face n w ≡ t → (o : Option Point) → finite.get n.points w ≡ o → finite.get (if not t && is_some o then without_vertex n w else n).points v ≡ cond ((w == v) && not (has_face n v)) None (finite.get n.points v)
    by_tests true f o e = rests n w v (finite.get n.points) (w == v) refl true (λ same. ap (has_face n) (sym (eqb-true w v same)) ∙ f) (λ same. refl)
    by_tests false f None e = absent n w v (finite.get n.points) (w == v) refl e (not (has_face n v))
    by_tests false f (Some p) e = removed ∙ goes n w v (finite.get n.points) (w == v) refl f

-- each solid vertex is live
abbrev AreMarksLive : Mesh → Type 0
AreMarksLive n = (v : ℕ) → is_solid n v ≡ true → IsLiveVertex n v

marks_live_once : (n : Mesh) (w : ℕ) → AreMarksLive n → AreMarksLive (without_if_bare n w)
marks_live_once n w live = by_test (not (has_face n w) && is_some (finite.get n.points w))
  where
    by_test : (t : Bool) → AreMarksLive (if t then without_vertex n w else n)
    by_test true v solid = let old = live_after_remove n.solid w v solid in live_but_removed n.points w v old.0 (live v old.1)
    by_test false v solid = live v solid

marks_live_all : (vs : List ℕ) (n : Mesh) → AreMarksLive n → AreMarksLive (fold without_if_bare n vs)
marks_live_all [] n live = live
marks_live_all (w ∷ vs) n live = marks_live_all vs (without_if_bare n w) (marks_live_once n w live)

mark_once : (n : Mesh) (w v : ℕ) → AreMarksLive n → finite.get (without_if_bare n w).solid v ≡ cond ((w == v) && not (has_face n v)) None (finite.get n.solid v)
mark_once n w v live = by_tests (has_face n w) refl (finite.get n.points w) refl
  where
    removed : finite.get (without_vertex n w).solid v ≡ cond (w == v) None (finite.get n.solid v)
    removed = get-remove nat_cmp_total n.solid w v ∙ ap (λ t. cond t None (finite.get n.solid v)) (unsigned_tied v w ∙ test_either_way v w)

    no_mark : finite.get n.points w ≡ None → finite.get n.solid w ≡ None
    no_mark none = by_answer (finite.get n.solid w) refl
      where
        by_answer : (o : Option (Unit {0})) → finite.get n.solid w ≡ o → o ≡ None
        by_answer None e = refl
        by_answer (Some u) e = absurd (false≢true (sym (ap is_some none) ∙ live w (ap is_some e)))

    by_tests : (t : Bool) → has_face n w ≡ t → (o : Option Point) → finite.get n.points w ≡ o → finite.get (if not t && is_some o then without_vertex n w else n).solid v ≡ cond ((w == v) && not (has_face n v)) None (finite.get n.solid v)
    by_tests true f o e = rests n w v (finite.get n.solid) (w == v) refl true (λ same. ap (has_face n) (sym (eqb-true w v same)) ∙ f) (λ same. refl)
    by_tests false f None e = absent n w v (finite.get n.solid) (w == v) refl (no_mark e) (not (has_face n v))
    by_tests false f (Some p) e = removed ∙ goes n w v (finite.get n.solid) (w == v) refl f

both_bare : {A : Type 0} (p q h : Bool) (o : Option A) → cond (q && h) None (cond (p && h) None o) ≡ cond ((p || q) && h) None o
both_bare true true true o = refl
both_bare true true false o = refl
both_bare true false true o = refl
both_bare true false false o = refl
both_bare false q h o = refl

same_faces : (vs : List ℕ) (n : Mesh) → (fold without_if_bare n vs).faces ≡ n.faces
same_faces [] n = refl
same_faces (w ∷ vs) n = same_faces vs (without_if_bare n w) ∙ same_faces_once n w

same_next : (vs : List ℕ) (n : Mesh) → ((fold without_if_bare n vs).next_vertex ≡ n.next_vertex) × ((fold without_if_bare n vs).next_face ≡ n.next_face) × ((fold without_if_bare n vs).limits ≡ n.limits)
same_next [] n = (refl, refl, refl)
same_next (w ∷ vs) n = let rest = same_next vs (without_if_bare n w) in let once = same_next_once n w in (rest.0 ∙ once.0, rest.1 ∙ once.1, rest.2 ∙ once.2)

-- whether a vertex has a face stands in the faces alone
abbrev face_in : finite.FinMap nat_cmp Corners → ℕ → Bool
face_in fs v = is_some (slice_get (map (λ (e : ℕ × Corners). e.0) (filter (λ e. has_corner e.1 v) (finite.entries fs))) 0)

got_bare : (vs : List ℕ) (n : Mesh) (v : ℕ) → finite.get (fold without_if_bare n vs).points v ≡ cond (has vs v && not (has_face n v)) None (finite.get n.points v)
got_bare [] n v = refl
got_bare (w ∷ vs) n v =
    got_bare vs (without_if_bare n w) v
    ∙ (λ i. cond (has vs v && not (face_in (same_faces_once n w i) v)) None (got_once n w v i))
    ∙ both_bare (w == v) (has vs v) (not (has_face n v)) (finite.get n.points v)

marks_bare : (vs : List ℕ) (n : Mesh) (v : ℕ) → AreMarksLive n → finite.get (fold without_if_bare n vs).solid v ≡ cond (has vs v && not (has_face n v)) None (finite.get n.solid v)
marks_bare [] n v live = refl
marks_bare (w ∷ vs) n v live =
    marks_bare vs (without_if_bare n w) v (marks_live_once n w live)
    ∙ (λ i. cond (has vs v && not (face_in (same_faces_once n w i) v)) None (mark_once n w v live i))
    ∙ both_bare (w == v) (has vs v) (not (has_face n v)) (finite.get n.solid v)

-- ---- which vertices have a face
pub some_face : (n : Mesh) (v : ℕ) → has_face n v ≡ true → (e : ℕ × Corners) × HasCorners n e.0 e.1 × (has_corner e.1 v ≡ true)
some_face n v h = first (faces_kept_at v n) (each_at v n) h
  where
    first : (es : List (ℕ × Corners)) → AllByRecursion (λ (e : ℕ × Corners). HasCorners n e.0 e.1 × (has_corner e.1 v ≡ true)) es → is_some (slice_get (map (λ (e : ℕ × Corners). e.0) es) 0) ≡ true → (e : ℕ × Corners) × HasCorners n e.0 e.1 × (has_corner e.1 v ≡ true)
    first [] all h = absurd (false≢true h)
    first (e ∷ es) all h = (e, (all.0).0, (all.0).1)

-- ---- the corners near a vertex
three_tests : (c : Corners) (v : ℕ) → has (corner_list c) v ≡ has_corner c v
three_tests c v = by_tests (c.first == v) (c.second == v) (c.third == v)
  where
    by_tests : (p q r : Bool) → (p || (q || (r || false))) ≡ (p || q || r)
    by_tests true true true = refl
    by_tests true true false = refl
    by_tests true false true = refl
    by_tests true false false = refl
    by_tests false true r = refl
    by_tests false false true = refl
    by_tests false false false = refl

near_entries : (m : Mesh) (v : ℕ) (es : List (ℕ × Corners)) → AllByRecursion (λ (e : ℕ × Corners). HasCorners m e.0 e.1) es →
    has (flat_map (λ f. unwrap_or (option_map corner_list (finite.get m.faces f)) []) (map (λ e. e.0) es)) v ≡ list_any (λ (e : ℕ × Corners). has_corner e.1 v) es
near_entries m v [] h = refl
near_entries m v (e ∷ es) h =
    list_any-append (λ w. w == v) (unwrap_or (option_map corner_list (finite.get m.faces e.0)) []) (flat_map (λ f. unwrap_or (option_map corner_list (finite.get m.faces f)) []) (map (λ x. x.0) es))
    ∙ (λ i. has (unwrap_or (option_map corner_list (h.0 i)) []) v || near_entries m v es h.1 i)
    ∙ ap (λ t. t || list_any (λ (x : ℕ × Corners). has_corner x.1 v) es) (three_tests e.1 v)

near_is : (m : Mesh) (u v : ℕ) → has (corners_near m u) v ≡ list_any (λ (e : ℕ × Corners). has_corner e.1 v) (faces_kept_at u m)
near_is m u v = near_entries m v (faces_kept_at u m) (all_weaker (λ (e : ℕ × Corners). HasCorners m e.0 e.1 × (has_corner e.1 u ≡ true)) (λ (e : ℕ × Corners). HasCorners m e.0 e.1) (faces_kept_at u m) (λ e h. h.0) (each_at u m))

any_of : (test : ℕ × Corners → Bool) (es : List (ℕ × Corners)) → AllByRecursion (λ (e : ℕ × Corners). test e ≡ true → list_any test es ≡ true) es
any_of test [] = tt
any_of test (x ∷ es) = (
  λ e. or_first (test x) (list_any test es) e,
  all_weaker (λ (y : ℕ × Corners). test y ≡ true → list_any test es ≡ true) (λ (y : ℕ × Corners). test y ≡ true → list_any test (x ∷ es) ≡ true) es (λ y h e. or_second (test x) (list_any test es) (h e)) (any_of test es),
)

-- a corner of a face at u is near
pub near_has : (m : Mesh) (u v f : ℕ) (c : Corners) → HasCorners m f c → has_corner c u ≡ true → has_corner c v ≡ true → has (corners_near m u) v ≡ true
near_has m u v f c there at_u at_v =
    near_is m u v
    ∙ at_key (λ (e : ℕ × Corners). has_corner e.1 u ≡ true → has_corner e.1 v ≡ true → list_any (λ (x : ℕ × Corners). has_corner x.1 v) (faces_kept_at u m) ≡ true) m.faces f c
    (all_filter (λ (e : ℕ × Corners). has_corner e.1 v ≡ true → list_any (λ (x : ℕ × Corners). has_corner x.1 v) (faces_kept_at u m) ≡ true) (λ e. has_corner e.1 u) (finite.entries m.faces) (any_of (λ (x : ℕ × Corners). has_corner x.1 v) (faces_kept_at u m)))
    there at_u at_v

-- what is near had a face
near_had : (m : Mesh) (u v : ℕ) → has (corners_near m u) v ≡ true → has_face m v ≡ true
near_had m u v h = found (faces_kept_at u m) (each_at u m) (sym (near_is m u v) ∙ h)
  where
    found : (es : List (ℕ × Corners)) → AllByRecursion (λ (e : ℕ × Corners). HasCorners m e.0 e.1 × (has_corner e.1 u ≡ true)) es → list_any (λ (e : ℕ × Corners). has_corner e.1 v) es ≡ true → has_face m v ≡ true
    found [] all h = absurd (false≢true h)
    found (e ∷ es) all h = ⊎_elim (λ here. has_face_of m e.0 e.1 v (all.0).0 here) (λ rest. found es all.1 rest) (or_either (has_corner e.1 v) (list_any (λ (x : ℕ × Corners). has_corner x.1 v) es) h)

-- ---- the fourth act
module _ (m : Mesh) (a b : ℕ) (sound : IsSound m) (closed : IsClosed m) (apart : a ≢ b) (edge : is_edge m a b ≡ true) where
  abbrev three : Mesh
  three = joined_faces m a b

  abbrev near_first : List ℕ
  near_first = corners_near m a

  abbrev near_second : List ℕ
  near_second = corners_near m b

  abbrev test : ℕ → Bool
  test v = (v == b) || (has_face m v && not (has_face three v))

  -- b has no face any more
  b_bare : has_face three b ≡ false
  b_bare = by_test (has_face three b) refl
    where
      by_test : (t : Bool) → has_face three b ≡ t → has_face three b ≡ false
      by_test true e = let at = some_face three b e in absurd (false≢true (sym (lacks_b m a b sound apart three (joined m a b sound apart closed) (at.0).0 (at.0).1 at.1) ∙ at.2))
      by_test false e = e

  -- a face that holds neither stays
  stays : (f : ℕ) (c : Corners) → HasCorners m f c → has_corner c a ≡ false → has_corner c b ≡ false → HasCorners three f c
  stays f c there no_a no_b =
      (three_cut m a b).others f c (two_stays m a b sound apart f c (one_stays m a b sound apart f c there (ap (λ t. t && has_corner c b) no_a)) no_b) no_a

  held_ends : (c : Corners) (u v : ℕ) → follows c u v ≡ true → (has_corner c u ≡ true) × (has_corner c v ≡ true)
  held_ends c u v h = ⊎_elim
      (λ two. ⊎_elim
      (λ e. (first u (and_first (c.first == u) (c.second == v) e), second v (and_second (c.first == u) (c.second == v) e)))
      (λ e. (second u (and_first (c.second == u) (c.third == v) e), third v (and_second (c.second == u) (c.third == v) e)))
      (or_either (c.first == u && c.second == v) (c.second == u && c.third == v) two))
      (λ e. (third u (and_first (c.third == u) (c.first == v) e), first v (and_second (c.third == u) (c.first == v) e)))
      (or_either ((c.first == u && c.second == v) || (c.second == u && c.third == v)) (c.third == u && c.first == v) h)
    where
      first : (w : ℕ) → (c.first == w) ≡ true → has_corner c w ≡ true
      first w e = or_first ((c.first == w) || (c.second == w)) (c.third == w) (or_first (c.first == w) (c.second == w) e)

      second : (w : ℕ) → (c.second == w) ≡ true → has_corner c w ≡ true
      second w e = or_first ((c.first == w) || (c.second == w)) (c.third == w) (or_second (c.first == w) (c.second == w) e)

      third : (w : ℕ) → (c.third == w) ≡ true → has_corner c w ≡ true
      third w e = or_second ((c.first == w) || (c.second == w)) (c.third == w) e

  -- each end is near the other
  ends_near : (has near_first b ≡ true) × (has near_second a ≡ true)
  ends_near =
      let face = running_face m a b (first_runs (runs m a b) (runs m b a) edge (closed a b)) in
      let ends = held_ends (face.0).1 a b face.1 in
      (near_has m a b (face.0).0 (face.0).1 face.2 ends.0 ends.1, near_has m b a (face.0).0 (face.0).1 face.2 ends.1 ends.0)
    where
      first_runs : (x y : ℕ) → nat_lt 0 (x + y) ≡ true → x ≡ y → 0 < x
      first_runs x y e same = grind (arith, nat_tests)

  -- the two lists of vertices that go are one
  one_list : (v : ℕ) → ((has near_first v || has near_second v) && not (has_face three v)) ≡ test v
  one_list v = by_face (has_face three v) refl
    where
      by_face : (t : Bool) → has_face three v ≡ t → ((has near_first v || has near_second v) && not t) ≡ ((v == b) || (has_face m v && not t))
      by_face true e = both_ways ((has near_first v || has near_second v) && false) ((v == b) || (has_face m v && false))
          (λ h. absurd (false≢true (and_second (has near_first v || has near_second v) false h)))
          (λ h. ⊎_elim
          (λ is. absurd (false≢true (sym b_bare ∙ ap (has_face three) (sym (eqb-true v b is)) ∙ e)))
          (λ none. absurd (false≢true (and_second (has_face m v) false none)))
          (or_either (v == b) (has_face m v && false) h))
      by_face false e = both_ways ((has near_first v || has near_second v) && true) ((v == b) || (has_face m v && true))
          (λ h. or_second (v == b) (has_face m v && true) (with_true (has_face m v) (⊎_elim (λ x. near_had m a v x) (λ x. near_had m b v x) (or_either (has near_first v) (has near_second v) (and_first (has near_first v || has near_second v) true h)))))
          (λ h. with_true (has near_first v || has near_second v) (⊎_elim
          (λ is. or_first (has near_first v) (has near_second v) (ap (has near_first) (eqb-true v b is) ∙ ends_near.0))
          (λ had. is_near (some_face m v (and_first (has_face m v) true had)))
          (or_either (v == b) (has_face m v && true) h)))
        where
          with_true : (p : Bool) → p ≡ true → (p && true) ≡ true
          with_true true h = refl
          with_true false h = h

          is_near : ((x : ℕ × Corners) × HasCorners m x.0 x.1 × (has_corner x.1 v ≡ true)) → (has near_first v || has near_second v) ≡ true
          is_near at = by_ends (has_corner (at.0).1 a) refl (has_corner (at.0).1 b) refl
            where
              by_ends : (p : Bool) → has_corner (at.0).1 a ≡ p → (q : Bool) → has_corner (at.0).1 b ≡ q → (has near_first v || has near_second v) ≡ true
              by_ends true p q k = or_first (has near_first v) (has near_second v) (near_has m a v (at.0).0 (at.0).1 at.1 p at.2)
              by_ends false p true q = or_second (has near_first v) (has near_second v) (near_has m b v (at.0).0 (at.0).1 at.1 q at.2)
              by_ends false p false q = absurd (false≢true (sym e ∙ has_face_of three (at.0).0 (at.0).1 v (stays (at.0).0 (at.0).1 at.1 p q) at.2))

  -- so each end need be looked at only near the other
  without_ends : (v : ℕ) → (has (others_than a near_first) v || has (others_than b near_second) v) ≡ (has near_first v || has near_second v)
  without_ends v =
      (λ i. left_out a near_first i || left_out b near_second i)
      ∙ by_ends (v == a) refl (v == b) refl
    where
      left_out : (u : ℕ) (vs : List ℕ) → has (others_than u vs) v ≡ (not (v == u) && has vs v)
      left_out u vs = any-filter_same (λ w. w == v) (λ w. not (w == u)) (not (v == u)) (λ w e. ap (λ x. not (x == u)) (eqb-true w v e)) vs

      by_ends : (p : Bool) → (v == a) ≡ p → (q : Bool) → (v == b) ≡ q → ((not p && has near_first v) || (not q && has near_second v)) ≡ (has near_first v || has near_second v)
      by_ends true e true f = absurd (apart (sym (eqb-true v a e) ∙ eqb-true v b f))
      by_ends true e false f = let near : has near_second v ≡ true = ap (has near_second) (eqb-true v a e) ∙ ends_near.1 in near ∙ sym (or_second (has near_first v) (has near_second v) near)
      by_ends false e true f = let near : has near_first v ≡ true = ap (has near_first) (eqb-true v b f) ∙ ends_near.0 in or_first (has near_first v) false near ∙ sym (or_first (has near_first v) (has near_second v) near)
      by_ends false e false f = refl

  abbrev one_by_one : Mesh
  one_by_one = fold without_if_bare three (others_than a near_first)

  abbrev local : Mesh
  local = fold without_if_bare one_by_one (others_than b near_second)

  keys_have : (v : ℕ) (ks : List ℕ) → has ks v ≡ list_any (eq_by_cmp nat_cmp v) ks
  keys_have v [] = refl
  keys_have v (k ∷ ks) = λ i. (test_either_way k v ∙ sym (unsigned_tied v k)) i || keys_have v ks i

  -- only what is there goes
  only_there : {A : Type 0} (t : Bool) (o : Option A) (u : Bool) → (is_some o ≡ true → u ≡ true) → cond (t && u) None o ≡ cond t None o
  only_there true None true e = refl
  only_there true None false e = refl
  only_there true (Some p) true e = refl
  only_there true (Some p) false e = absurd (false≢true (e refl))
  only_there false o u e = refl

  bare_marks : (v : ℕ) → finite.get (without_bare m b three).solid v ≡ cond (test v) None (finite.get three.solid v)
  bare_marks v =
      marks_dropped (filter test (finite.keys three.points)) three v
      ∙ ap (λ t. cond t None (finite.get three.solid v))
      (any-filter_same (λ w. w == v) test (test v) (λ w e. ap test (eqb-true w v e)) (finite.keys three.points))
      ∙ only_there (test v) (finite.get three.solid v) (has (finite.keys three.points) v) (λ solid. keys_have v (finite.keys three.points) ∙ sym (contains_key-keys three.points v) ∙ joined_solid m a b sound apart closed v solid)

  local_marks : (v : ℕ) → finite.get local.solid v ≡ cond (test v) None (finite.get three.solid v)
  local_marks v =
      let live : AreMarksLive three = joined_solid m a b sound apart closed in
      marks_bare (others_than b near_second) one_by_one v (marks_live_all (others_than a near_first) three live)
      ∙ (λ i. cond (has (others_than b near_second) v && not (face_in (same_faces (others_than a near_first) three i) v)) None (marks_bare (others_than a near_first) three v live i))
      ∙ both_bare (has (others_than a near_first) v) (has (others_than b near_second) v) (not (has_face three v)) (finite.get three.solid v)
      ∙ ap (λ t. cond t None (finite.get three.solid v)) (ap (λ t. t && not (has_face three v)) (without_ends v) ∙ one_list v)

  bare_got : (v : ℕ) → finite.get (without_bare m b three).points v ≡ cond (test v) None (finite.get three.points v)
  bare_got v =
      got_dropped (filter test (finite.keys three.points)) three v
      ∙ ap (λ t. cond t None (finite.get three.points v))
      (any-filter_same (λ w. w == v) test (test v) (λ w e. ap test (eqb-true w v e)) (finite.keys three.points))
      ∙ only_there (test v) (finite.get three.points v) (has (finite.keys three.points) v) (λ live. keys_have v (finite.keys three.points) ∙ sym (contains_key-keys three.points v) ∙ live)

  local_got : (v : ℕ) → finite.get local.points v ≡ cond (test v) None (finite.get three.points v)
  local_got v =
      got_bare (others_than b near_second) one_by_one v
      ∙ (λ i. cond (has (others_than b near_second) v && not (face_in (same_faces (others_than a near_first) three i) v)) None (got_bare (others_than a near_first) three v i))
      ∙ both_bare (has (others_than a near_first) v) (has (others_than b near_second) v) (not (has_face three v)) (finite.get three.points v)
      ∙ ap (λ t. cond t None (finite.get three.points v)) (ap (λ t. t && not (has_face three v)) (without_ends v) ∙ one_list v)

  pub bare_is : local ≡ without_bare m b three
  bare_is =
      let dropped : List ℕ = filter test (finite.keys three.points) in
      let points : local.points ≡ (without_bare m b three).points = same_map nat_cmp_total nat_cmp-IsAntisymmetric local.points (without_bare m b three).points (λ v. local_got v ∙ sym (bare_got v)) in
      let marks : local.solid ≡ (without_bare m b three).solid = same_map nat_cmp_total nat_cmp-IsAntisymmetric local.solid (without_bare m b three).solid (λ v. local_marks v ∙ sym (bare_marks v)) in
      let faces = same_faces (others_than b near_second) one_by_one ∙ same_faces (others_than a near_first) three ∙ sym (dropped_faces dropped three) in
      let first = same_next (others_than a near_first) three in
      let second = same_next (others_than b near_second) one_by_one in
      let all = dropped_next dropped three in
      let vertex = second.0 ∙ first.0 ∙ sym all.0 in
      let face = second.1 ∙ first.1 ∙ sym all.1 in
      let limits = second.2 ∙ first.2 ∙ sym all.2 in
      λ i. record { points = points i; faces = faces i; solid = marks i; next_vertex = vertex i; next_face = face i; limits = limits i }
