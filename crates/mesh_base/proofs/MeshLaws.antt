-- Each change keeps the laws of a mesh and its limits.
use Rattle.std.proofs.Common.{◌≡◌, ◌≢◌, ℕ, ◌+◌, ◌-◌, ◌<◌, ◌≤◌, Bool, true, false, cond, Some, IsSome, is_some, List, [], ◌∷◌, ◌==◌, ◌&&◌, ◌||◌, refl, sym, ap, subst, ◌∙◌, ⊎_elim, arith}
use Rattle.std.specs.Ordering.{nat_cmp, eq_by_cmp}
use Rattle.std.specs.List.{filter}
use Rattle.std.specs.Map.{keys_of}
use Rattle.std.specs.FinMap.Entries.{find}
use Rattle.std.proofs.lemmas.Bool.Decides.{nat_tests}
use Rattle.grid_base.specs.declared.TheConstants.{VERTICES_MAX, FACES_MAX, ID_MAX, TEXT_MAX}
use Rattle.mesh_base.specs.declared.limits.Scale.{Scale}
use Rattle.mesh_base.specs.declared.limits.Scale.TheVariants.{Standard, Large}
use Rattle.mesh_base.specs.Limits.{limits_of, text_most}
use Rattle.mesh_base.specs.Sides.{ids_where, faces_at, has_corner}
use Rattle.std.specs.Cmp.{nat_cmp_total}
use Rattle.std.specs.FinMap as map
use Rattle.std.specs.FinMap.{len-insert, len-remove, get-entries}
use Rattle.grid_base.specs.declared.Point.{Point}
use Rattle.mesh_base.specs.declared.ids.Corners.{Corners}
use Rattle.mesh_base.specs.Mesh.{Mesh, IsMesh, IsSound, AreLive, AreDifferent, IsLiveVertex, HasCorners, equal_up_to_rotation}
use Rattle.mesh_base.specs.Changes.{with_vertex, with_face, without_face, without_vertex, with_point, with_solid, IsFresh}
use Rattle.mesh_base.proofs.Tests.{or_first, or_second, or_either, not_both}
use Rattle.mesh_base.proofs.Finite.{got_after_insert, live_after_insert, live_stays, got_after_remove, live_after_remove, live_but_removed, live_inserted}

-- an insertion adds one at most, and none at a key that is there
pub len-insert_le : {X : Type 0} (m : map.FinMap nat_cmp X) (k : ℕ) (v : X) → map.len (map.insert m k v) ≤ map.len m + 1
len-insert_le m k v = rw (len-insert nat_cmp_total m k v) (elim (map.contains_key m k) as (λ b. cond b (map.len m) (map.len m + 1) ≤ map.len m + 1) [ true ↦ omega arith | false ↦ omega arith ])

len-insert_there : {X : Type 0} (m : map.FinMap nat_cmp X) (k : ℕ) (v : X) → IsSome (map.get m k) → map.len (map.insert m k v) ≡ map.len m
len-insert_there m k v there = len-insert nat_cmp_total m k v ∙ ap (λ b. cond b (map.len m) (map.len m + 1)) there

len-remove_le : {X : Type 0} (m : map.FinMap nat_cmp X) (k : ℕ) → map.len (map.remove m k) ≤ map.len m
len-remove_le m k = rw (len-remove nat_cmp_total m k) (elim (map.contains_key m k) as (λ b. cond b (map.len m - 1) (map.len m) ≤ map.len m) [ true ↦ omega arith | false ↦ omega arith ])

-- a mesh has no more vertices and faces than the greatest limits allow
pub few_live_vertices : (m : Mesh) → IsSound m → map.len m.points ≤ VERTICES_MAX
few_live_vertices m s = omega (arith, s.limits.vertices, s.limits.greatest.0)

pub few_live_faces : (m : Mesh) → IsSound m → map.len m.faces ≤ FACES_MAX
few_live_faces m s = omega (arith, s.limits.faces, s.limits.greatest.1)

-- no scale goes beyond the greatest limits
pub few_vertices_of : (scale : Scale) → (limits_of scale).vertices ≤ VERTICES_MAX
few_vertices_of Standard = omega arith
few_vertices_of Large = omega arith

pub few_faces_of : (scale : Scale) → (limits_of scale).faces ≤ FACES_MAX
few_faces_of Standard = omega arith
few_faces_of Large = omega arith

pub small_texts_of : (scale : Scale) → text_most scale ≤ TEXT_MAX
small_texts_of Standard = omega arith
small_texts_of Large = omega arith

is_live : {X : Type 0} (m : map.FinMap nat_cmp X) (k : ℕ) (v : X) → map.get m k ≡ Some v → IsSome (map.get m k)
is_live m k v h = ap is_some h

-- a vertex is moved
pub sound-with_point : (m : Mesh) (v : ℕ) (p : Point) → IsSound m → IsLiveVertex m v → IsSound (with_point m v p)
sound-with_point m v p s live = record {
  is_mesh = record {
    vertex_ids = λ q h. ⊎_elim (λ e. subst (λ j. (1 ≤ j) × (j < m.next_vertex)) (sym e) (s.is_mesh.vertex_ids v live)) (λ old. s.is_mesh.vertex_ids q old) (live_after_insert m.points v p q h);
    face_ids = s.is_mesh.face_ids;
    solid_ids = λ q h. live_stays m.points v p q (s.is_mesh.solid_ids q h);
    live_corners = λ f c h.
        let old = s.is_mesh.live_corners f c h in
        (live_stays m.points v p c.first old.0, live_stays m.points v p c.second old.1, live_stays m.points v p c.third old.2);
    different_corners = s.is_mesh.different_corners;
    different_faces = s.is_mesh.different_faces;
  };
  limits = record {
    greatest = s.limits.greatest;
    vertices = let e = len-insert_there m.points v p live in omega (arith, s.limits.vertices);
    faces = s.limits.faces;
    vertex_ids = s.limits.vertex_ids;
    face_ids = s.limits.face_ids;
  };
}

-- a vertex is made
pub sound-with_vertex : (m : Mesh) (p : Point) → IsSound m → map.len m.points < m.limits.vertices → m.next_vertex < (ID_MAX + 1) → IsSound (with_vertex m p)
sound-with_vertex m p s few ids = record {
  is_mesh = record {
    vertex_ids = λ q h. ⊎_elim (λ e. let b = s.limits.vertex_ids in omega arith) (λ old. let b = s.is_mesh.vertex_ids q old in omega arith) (live_after_insert m.points m.next_vertex p q h);
    face_ids = s.is_mesh.face_ids;
    solid_ids = λ q h. live_stays m.points m.next_vertex p q (s.is_mesh.solid_ids q h);
    live_corners = λ f c h.
        let old = s.is_mesh.live_corners f c h in
        (live_stays m.points m.next_vertex p c.first old.0, live_stays m.points m.next_vertex p c.second old.1, live_stays m.points m.next_vertex p c.third old.2);
    different_corners = s.is_mesh.different_corners;
    different_faces = s.is_mesh.different_faces;
  };
  limits = record {
    greatest = s.limits.greatest;
    vertices = let e = len-insert_le m.points m.next_vertex p in omega arith;
    faces = s.limits.faces;
    vertex_ids = let b = s.limits.vertex_ids in omega arith;
    face_ids = s.limits.face_ids;
  };
}

-- a face is dropped
pub sound-without_face : (m : Mesh) (f : ℕ) → IsSound m → IsSound (without_face m f)
sound-without_face m f s = record {
  is_mesh = record {
    vertex_ids = s.is_mesh.vertex_ids;
    face_ids = λ g h. s.is_mesh.face_ids g (live_after_remove m.faces f g h).1;
    solid_ids = s.is_mesh.solid_ids;
    live_corners = λ g c h. s.is_mesh.live_corners g c (got_after_remove m.faces f g c h).1;
    different_corners = λ g c h. s.is_mesh.different_corners g c (got_after_remove m.faces f g c h).1;
    different_faces = λ g g' c d h h'. s.is_mesh.different_faces g g' c d (got_after_remove m.faces f g c h).1 (got_after_remove m.faces f g' d h').1;
  };
  limits = record {
    greatest = s.limits.greatest;
    vertices = s.limits.vertices;
    faces = let e = len-remove_le m.faces f in let b = s.limits.faces in omega arith;
    vertex_ids = s.limits.vertex_ids;
    face_ids = s.limits.face_ids;
  };
}

flipped : (a b c d e f : ℕ) → (a == d && b == e && c == f) ≡ true → (d == a && e == b && f == c) ≡ true
flipped a b c d e f h = grind (arith, nat_tests)

-- corners turned once are those that the other turned twice are
flipped_turn : (a b c d e f : ℕ) → (a == d && b == e && c == f) ≡ true → (f == c && d == a && e == b) ≡ true
flipped_turn a b c d e f h = grind (arith, nat_tests)

flipped_back : (a b c d e f : ℕ) → (a == d && b == e && c == f) ≡ true → (e == b && f == c && d == a) ≡ true
flipped_back a b c d e f h = grind (arith, nat_tests)

symmetric : (a b c d e f : ℕ)
    → ((a == d && b == e && c == f) || (b == d && c == e && a == f) || (c == d && a == e && b == f)) ≡ true
    → ((d == a && e == b && f == c) || (e == a && f == b && d == c) || (f == a && d == b && e == c)) ≡ true
symmetric a b c d e f h =
    let first : Bool = d == a && e == b && f == c in
    let second : Bool = e == a && f == b && d == c in
    let third : Bool = f == a && d == b && e == c in
    ⊎_elim
    (λ u. ⊎_elim
    (λ w. or_first (first || second) third (or_first first second (flipped a b c d e f w)))
    (λ w. or_second (first || second) third (flipped_turn b c a d e f w))
    (or_either (a == d && b == e && c == f) (b == d && c == e && a == f) u))
    (λ w. or_first (first || second) third (or_second first second (flipped_back c a b d e f w)))
    (or_either ((a == d && b == e && c == f) || (b == d && c == e && a == f)) (c == d && a == e && b == f) h)

pub equal_symmetric : (c d : Corners) → equal_up_to_rotation c d ≡ true → equal_up_to_rotation d c ≡ true
equal_symmetric c d h = symmetric c.first c.second c.third d.first d.second d.third h

-- a face is made
pub sound-with_face : (m : Mesh) (c : Corners) → IsSound m → IsFresh m c → map.len m.faces < m.limits.faces → m.next_face < (ID_MAX + 1) → IsSound (with_face m c)
sound-with_face m c s fresh few ids =
    let got = got_after_insert m.faces m.next_face c in
    record {
      is_mesh = record {
        vertex_ids = s.is_mesh.vertex_ids;
        face_ids = λ g h. ⊎_elim (λ e. let b = s.limits.face_ids in omega arith) (λ old. let b = s.is_mesh.face_ids g old in omega arith) (live_after_insert m.faces m.next_face c g h);
        solid_ids = s.is_mesh.solid_ids;
        live_corners = λ g d h. ⊎_elim (λ e. subst (AreLive m) e.1 fresh.live) (λ old. s.is_mesh.live_corners g d old) (got g d h);
        different_corners = λ g d h. ⊎_elim (λ e. subst AreDifferent e.1 fresh.different) (λ old. s.is_mesh.different_corners g d old) (got g d h);
        different_faces = λ g g' d d' h h' same. ⊎_elim
            (λ e. ⊎_elim (λ e'. e.0 ∙ sym e'.0) (λ old'. absurd (not_both (equal_symmetric c d' (subst (λ x. equal_up_to_rotation x d' ≡ true) (sym e.1) same)) (fresh.new g' d' old'))) (got g' d' h'))
            (λ old. ⊎_elim (λ e'. absurd (not_both (subst (λ x. equal_up_to_rotation d x ≡ true) (sym e'.1) same) (fresh.new g d old))) (λ old'. s.is_mesh.different_faces g g' d d' old old' same) (got g' d' h'))
            (got g d h);
      };
      limits = record {
        greatest = s.limits.greatest;
        vertices = s.limits.vertices;
        faces = let e = len-insert_le m.faces m.next_face c in omega arith;
        vertex_ids = s.limits.vertex_ids;
        face_ids = let b = s.limits.face_ids in omega arith;
      };
    }

-- where no face passes the test, none that the map has does
none_where : (test : Corners → Bool) (es : List (ℕ × Corners)) → ids_where test es ≡ [] → (f : ℕ) (c : Corners) → find nat_cmp f es ≡ Some c → test c ≡ false
none_where test [] e f c h = cc
none_where test (x ∷ es) e f c h =
    elim (test x.1) as (λ b. test x.1 ≡ b → keys_of (cond b (x ∷ filter (λ y. test y.1) es) (filter (λ y. test y.1) es)) ≡ [] → test c ≡ false) [
      | true ↦ λ t e. cc
      | false ↦ λ t e. elim (eq_by_cmp nat_cmp f x.0) as (λ b. cond b (Some x.1) (find nat_cmp f es) ≡ Some c → test c ≡ false) [
        | true ↦ λ is. let same : x.1 ≡ c = cc in subst (λ y. test y ≡ false) same t
        | false ↦ λ is. none_where test es e f c is
      ] h
    ] refl e

no_corner : (a b c v : ℕ) → ((a == v) || (b == v) || (c == v)) ≡ false → (a ≢ v) × (b ≢ v) × (c ≢ v)
no_corner a b c v h = (λ e. grind (arith, nat_tests), λ e. grind (arith, nat_tests), λ e. grind (arith, nat_tests))

-- a vertex with no face is dropped
pub sound-without_vertex : (m : Mesh) (v : ℕ) → IsSound m → faces_at m v ≡ [] → IsSound (without_vertex m v)
sound-without_vertex m v s bare = record {
  is_mesh = record {
    vertex_ids = λ q h. s.is_mesh.vertex_ids q (live_after_remove m.points v q h).1;
    face_ids = s.is_mesh.face_ids;
    solid_ids = λ q h. let old = live_after_remove m.solid v q h in live_but_removed m.points v q old.0 (s.is_mesh.solid_ids q old.1);
    live_corners = λ f c h.
        let old = s.is_mesh.live_corners f c h in
        let apart = none_where (λ x. has_corner x v) (map.entries m.faces) bare f c (sym (get-entries m.faces f) ∙ h) in
        let away = no_corner c.first c.second c.third v apart in
        (live_but_removed m.points v c.first away.0 old.0, live_but_removed m.points v c.second away.1 old.1, live_but_removed m.points v c.third away.2 old.2);
    different_corners = s.is_mesh.different_corners;
    different_faces = s.is_mesh.different_faces;
  };
  limits = record {
    greatest = s.limits.greatest;
    vertices = let e = len-remove_le m.points v in let b = s.limits.vertices in omega arith;
    faces = s.limits.faces;
    vertex_ids = s.limits.vertex_ids;
    face_ids = s.limits.face_ids;
  };
}

-- a live vertex is made solid
pub sound-with_solid : (m : Mesh) (v : ℕ) → IsSound m → IsLiveVertex m v → IsSound (with_solid m v)
sound-with_solid m v s live = record {
  is_mesh = record {
    vertex_ids = s.is_mesh.vertex_ids;
    face_ids = s.is_mesh.face_ids;
    solid_ids = λ q h. ⊎_elim (λ e. subst (IsLiveVertex m) (sym e) live) (λ old. s.is_mesh.solid_ids q old) (live_after_insert m.solid v tt q h);
    live_corners = s.is_mesh.live_corners;
    different_corners = s.is_mesh.different_corners;
    different_faces = s.is_mesh.different_faces;
  };
  limits = record {
    greatest = s.limits.greatest;
    vertices = s.limits.vertices;
    faces = s.limits.faces;
    vertex_ids = s.limits.vertex_ids;
    face_ids = s.limits.face_ids;
  };
}

-- a corner that is the next vertex is no corner of a face
pub next_is_new : (m : Mesh) → IsMesh m → (f : ℕ) (d : Corners) → HasCorners m f d → (d.first ≢ m.next_vertex) × (d.second ≢ m.next_vertex) × (d.third ≢ m.next_vertex)
next_is_new m s f d h =
    let live = s.live_corners f d h in (
      (λ e. let b = s.vertex_ids d.first live.0 in omega (arith, e)),
      (λ e. let b = s.vertex_ids d.second live.1 in omega (arith, e)),
      (λ e. let b = s.vertex_ids d.third live.2 in omega (arith, e)),
    )

corner_apart : (a b c d e w : ℕ) → (a ≢ w) → (b ≢ w) → (c ≢ w) → ((a == d && b == e && c == w) || (b == d && c == e && a == w) || (c == d && a == e && b == w)) ≡ false
corner_apart a b c d e w p q r = grind (arith, nat_tests)

-- a face may be made of two live vertices and the vertex made last
pub fresh_at_new : (m : Mesh) (p : Point) (a b : ℕ) → IsSound m → IsLiveVertex m a → IsLiveVertex m b → a ≢ b → IsFresh (with_vertex m p) (record { first = a; second = b; third = m.next_vertex })
fresh_at_new m p a b s live_a live_b apart =
    let below_a = s.is_mesh.vertex_ids a live_a in
    let below_b = s.is_mesh.vertex_ids b live_b in
    record {
      live = (live_stays m.points m.next_vertex p a live_a, live_stays m.points m.next_vertex p b live_b, live_inserted m.points m.next_vertex p);
      different = record { first_second = apart; second_third = omega arith; third_first = omega arith };
      new = λ f d h. let away = next_is_new m s.is_mesh f d h in corner_apart d.first d.second d.third a b m.next_vertex away.0 away.1 away.2;
    }
