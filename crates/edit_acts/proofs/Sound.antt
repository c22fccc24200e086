-- The laws of a mesh after faces are dropped and made, and its limits at the end alone.
use Rattle.std.proofs.Common.{◌≡◌, ◌≢◌, ◌⊎◌, ℕ, ◌+◌, ◌≤◌, Bool, true, false, ◌||◌, ◌&&◌, ◌==◌, nat_lt, List, [], ◌∷◌, refl, sym, subst, ◌∙◌, ⊎_elim, arith}
use Rattle.mesh_base.proofs.Tests.{not_both}
use Rattle.std.proofs.lemmas.Bool.Decides.{nat_tests}
use Rattle.std.specs.FinMap as map
use Rattle.grid_base.specs.declared.TheConstants.{VERTICES_MAX, FACES_MAX, ID_MAX}
use Rattle.grid_base.specs.declared.Point.{Point}
use Rattle.mesh_base.specs.declared.ids.Corners.{Corners}
use Rattle.mesh_base.specs.Mesh.{Mesh, IsMesh, IsWithinLimits, AreLive, AreDifferent, equal_up_to_rotation}
use Rattle.mesh_base.specs.Changes.{with_vertex, with_face, without_face, IsFresh}
use Rattle.mesh_base.specs.Limits.{is_over_limits}
use Rattle.mesh_base.proofs.Finite.{got_after_insert, live_after_insert, live_stays, got_after_remove, live_after_remove}
use Rattle.mesh_base.proofs.MeshLaws.{equal_symmetric}
use Rattle.edit_base.specs.Edges.{AreFresh, corners_from, with_faces}

-- ---- the laws after one change
pub mesh-without_face : (m : Mesh) (f : ℕ) → IsMesh m → IsMesh (without_face m f)
mesh-without_face m f s = record {
  vertex_ids = s.vertex_ids;
  face_ids = λ g h. s.face_ids g (live_after_remove m.faces f g h).1;
  solid_ids = s.solid_ids;
  live_corners = λ g c h. s.live_corners g c (got_after_remove m.faces f g c h).1;
  different_corners = λ g c h. s.different_corners g c (got_after_remove m.faces f g c h).1;
  different_faces = λ g g' c d h h'. s.different_faces g g' c d (got_after_remove m.faces f g c h).1 (got_after_remove m.faces f g' d h').1;
}

pub mesh-with_vertex : (m : Mesh) (p : Point) → IsMesh m → 1 ≤ m.next_vertex → IsMesh (with_vertex m p)
mesh-with_vertex m p s first = record {
  vertex_ids = λ q h. ⊎_elim (λ e. omega arith) (λ old. let b = s.vertex_ids q old in omega arith) (live_after_insert m.points m.next_vertex p q h);
  face_ids = s.face_ids;
  solid_ids = λ q h. live_stays m.points m.next_vertex p q (s.solid_ids q h);
  live_corners = λ f c h.
      let old = s.live_corners f c h in
      (live_stays m.points m.next_vertex p c.first old.0, live_stays m.points m.next_vertex p c.second old.1, live_stays m.points m.next_vertex p c.third old.2);
  different_corners = s.different_corners;
  different_faces = s.different_faces;
}

pub mesh-with_face : (m : Mesh) (c : Corners) → IsMesh m → 1 ≤ m.next_face → IsFresh m c → IsMesh (with_face m c)
mesh-with_face m c s first fresh =
    let got = got_after_insert m.faces m.next_face c in
    record {
      vertex_ids = s.vertex_ids;
      face_ids = λ g h. ⊎_elim (λ e. omega arith) (λ old. let b = s.face_ids g old in omega arith) (live_after_insert m.faces m.next_face c g h);
      solid_ids = s.solid_ids;
      live_corners = λ g d h. ⊎_elim (λ e. subst (AreLive m) e.1 fresh.live) (λ old. s.live_corners g d old) (got g d h);
      different_corners = λ g d h. ⊎_elim (λ e. subst AreDifferent e.1 fresh.different) (λ old. s.different_corners g d old) (got g d h);
      different_faces = λ g g' d d' h h' same. ⊎_elim
          (λ e. ⊎_elim (λ e'. e.0 ∙ sym e'.0) (λ old'. absurd (not_both (equal_symmetric c d' (subst (λ x. equal_up_to_rotation x d' ≡ true) (sym e.1) same)) (fresh.new g' d' old'))) (got g' d' h'))
          (λ old. ⊎_elim (λ e'. absurd (not_both (subst (λ x. equal_up_to_rotation d x ≡ true) (sym e'.1) same) (fresh.new g d old))) (λ old'. s.different_faces g g' d d' old old' same) (got g' d' h'))
          (got g d h);
    }

-- ---- and after several
pub mesh-with_faces : (m : Mesh) (cs : List Corners) → IsMesh m → 1 ≤ m.next_face → AreFresh m cs → IsMesh (with_faces m cs)
mesh-with_faces m [] s first fresh = s
mesh-with_faces m (c ∷ cs) s first fresh = mesh-with_faces (with_face m c) cs (mesh-with_face m c s first fresh.0) (let h : 1 ≤ m.next_face + 1 = omega arith in h) fresh.1

-- what may be made a face may be one after another is made, if the two are not equal
pub still_fresh : (m : Mesh) (c d : Corners) → IsFresh m d → equal_up_to_rotation c d ≡ false → IsFresh (with_face m c) d
still_fresh m c d fresh apart = record {
  live = fresh.live;
  different = fresh.different;
  new = λ f e h. ⊎_elim (λ is. subst (λ x. equal_up_to_rotation x d ≡ false) is.1 apart) (λ old. fresh.new f e old) (got_after_insert m.faces m.next_face c f e h);
}

-- ---- limits
within : (v n : ℕ) → nat_lt n v ≡ false → v ≤ n
within v n h = grind (arith, nat_tests)

pub neither : (a b : Bool) → (a || b) ≡ false → (a ≡ false) × (b ≡ false)
neither true b h = cc
neither false b h = (refl, h)

pub not_over : (m : Mesh) → is_over_limits m ≡ false → 1 ≤ m.next_vertex → 1 ≤ m.next_face → (m.limits.vertices ≤ VERTICES_MAX) × (m.limits.faces ≤ FACES_MAX) → IsWithinLimits m
not_over m h v f greatest =
    let last = neither (nat_lt m.limits.vertices (map.len m.points) || nat_lt m.limits.faces (map.len m.faces) || nat_lt (ID_MAX + 1) m.next_vertex) (nat_lt (ID_MAX + 1) m.next_face) h in
    let third = neither (nat_lt m.limits.vertices (map.len m.points) || nat_lt m.limits.faces (map.len m.faces)) (nat_lt (ID_MAX + 1) m.next_vertex) last.0 in
    let two = neither (nat_lt m.limits.vertices (map.len m.points)) (nat_lt m.limits.faces (map.len m.faces)) third.0 in
    record {
      vertices = within (map.len m.points) m.limits.vertices two.0;
      faces = within (map.len m.faces) m.limits.faces two.1;
      greatest = greatest;
      vertex_ids = (v, within m.next_vertex (ID_MAX + 1) third.1);
      face_ids = (f, within m.next_face (ID_MAX + 1) last.1);
    }

pub limits-with_faces : (m : Mesh) (cs : List Corners) → (with_faces m cs).limits ≡ m.limits
limits-with_faces m [] = refl
limits-with_faces m (c ∷ cs) = limits-with_faces (with_face m c) cs

pub next_face-with_faces : (m : Mesh) (cs : List Corners) → 1 ≤ m.next_face → 1 ≤ (with_faces m cs).next_face
next_face-with_faces m [] h = h
next_face-with_faces m (c ∷ cs) h = next_face-with_faces (with_face m c) cs (let k : 1 ≤ m.next_face + 1 = omega arith in k)

pub next_vertex-with_faces : (m : Mesh) (cs : List Corners) → (with_faces m cs).next_vertex ≡ m.next_vertex
next_vertex-with_faces m [] = refl
next_vertex-with_faces m (c ∷ cs) = next_vertex-with_faces (with_face m c) cs

-- ---- corners that are apart
pub not_rotated : (a b c d e f : ℕ) → (a ≢ d) ⊎ ((b ≢ e) ⊎ (c ≢ f)) → (b ≢ d) ⊎ ((c ≢ e) ⊎ (a ≢ f)) → (c ≢ d) ⊎ ((a ≢ e) ⊎ (b ≢ f)) → equal_up_to_rotation (corners_from a b c) (corners_from d e f) ≡ false
not_rotated a b c d e f first second third = none _ _ _ (one a b c d e f first) (one b c a d e f second) (one c a b d e f third)
  where
    none : (x y z : Bool) → x ≡ false → y ≡ false → z ≡ false → (x || y || z) ≡ false
    none x y z h i j = cc

    one : (a b c d e f : ℕ) → (a ≢ d) ⊎ ((b ≢ e) ⊎ (c ≢ f)) → (a == d && b == e && c == f) ≡ false
    one a b c d e f h = ⊎_elim (λ x. grind (arith, nat_tests)) (λ h. ⊎_elim (λ x. grind (arith, nat_tests)) (λ x. grind (arith, nat_tests)) h) h
