-- The cubes make a mesh within its limits that is closed.
use Rattle.std.proofs.Common.{◌≡◌, ℕ, zero, suc, ◌+◌, ◌*◌, ◌<◌, ◌≤◌, ◌==◌, ◌&&◌, ◌||◌, Bool, true, false, List, Some, None, map, length, nat_lt, slice_get, refl, sym, ap, subst, ◌∙◌, ⊎_elim, arith}
use Rattle.std.proofs.Common.{is_some, cond, ◌⊎◌, inl, inr, lit≤}
use Rattle.std.specs.Prelude.{◌↔◌}
use Rattle.std.specs.List.{enumerate_from, flat_map, range_with_len}
use Rattle.std.specs.FinMap.{get-from_entries}
use Rattle.std.specs.Cmp.{nat_cmp_total}
use Rattle.std.proofs.lemmas.List.{length-map}
use Rattle.std.proofs.lemmas.List.Sums.{sum_by-append}
use Rattle.std.proofs.lemmas.Bool.{eqb-true, eq-eqb}
use Rattle.std.proofs.lemmas.Bool.Decides.{nat_tests}
use Rattle.grid_base.specs.declared.TheConstants.{STANDARD_VERTICES, STANDARD_FACES}
use Rattle.grid_base.specs.Points.{point_at}
use Rattle.mesh_base.specs.declared.ids.Corners.{Corners}
use Rattle.mesh_base.specs.declared.limits.Scale.TheVariants.{Standard}
use Rattle.mesh_base.specs.Mesh.{IsSound, IsLiveVertex, AreLive, AreDifferent, HasCorners, equal_up_to_rotation}
use Rattle.mesh_base.specs.Sides.{follows, IsClosed}
use Rattle.mesh_base.specs.Changes.{corners_of, corner_list}
use Rattle.mesh_base.proofs.Finite.{none_in_empty}
use Rattle.mesh_base.proofs.Tests.{and_first, or_either, both_ways}
use Rattle.mesh_shape.specs.Shape.{runs_in, shape_fault, is_vertex}
use Rattle.mesh_shape.proofs.Lists.{numbered, of_live, get_map, is_live, few_vertices, few_faces}
use Rattle.mesh_shape.proofs.Faults.{runs_given, no_fault}
use Rattle.step_text.specs.Ranges.{IsFrom}
use Rattle.mesh_make.specs.Cubes.{IsRow, corner_offsets, squares, cube_points, cube_faces, cubes_lists, cubes_mesh}
use Rattle.mesh_make.proofs.Growing.{cubes-few}
use Rattle.mesh_make.proofs.Pieces.{HaveLength, length-pieces, in_piece}
use Rattle.mesh_make.proofs.OneCube.{triangles, lifted, cube_faces-lifted, IsOfCube, AreOfCube, corners_of_cube, corners_differ, faces_differ, cube_is_closed}

-- ---- how many there are
pub eight_points : (n : ℕ) → HaveLength 8 (cube_points n)
unfolding corner_offsets
eight_points n = record { each = λ c. refl }

pub twelve_faces : HaveLength 12 cube_faces
unfolding squares
twelve_faces = record { each = λ c. refl }

pub count-points : (n : ℕ) → length (cubes_lists n).points ≡ 8 * (n * n * n)
count-points n = length-pieces 8 (cube_points n) (eight_points n) 0 (n * n * n)

pub count-faces : (n : ℕ) → length (cubes_lists n).faces ≡ 12 * (n * n * n)
count-faces n = length-pieces 12 cube_faces twelve_faces 0 (n * n * n)

-- ---- a face of the mesh is a face of the first cube at some cube
pub record IsFaceAt (n f : ℕ) (c : Corners) : Type 0 where
  pub cube : ℕ
  pub place : ℕ
  pub face : Corners
  pub there : cube < n * n * n
  pub number : f ≡ 12 * cube + place + 1
  pub listed : slice_get triangles place ≡ Some face
  pub corners : c ≡ lifted cube face

face_listed : (n i : ℕ) (l : List ℕ) (f : ℕ) → f ≡ suc i → slice_get (cubes_lists n).faces i ≡ Some l → IsFaceAt n f (corners_of l)
face_listed n i l f is h =
    let at = in_piece 12 cube_faces twelve_faces 0 (n * n * n) i l h in
    let from = get_map (λ t. corner_list (lifted at.number t)) triangles at.place l (sym (ap (λ fs. slice_get fs at.place) (cube_faces-lifted at.number)) ∙ at.item) in
    record {
      cube = at.number;
      place = at.place;
      face = from.0;
      there = omega (arith, at.to);
      number = omega (arith, at.index, is);
      listed = from.1;
      corners = ap corners_of from.2;
    }

pub face_at : (n f : ℕ) (c : Corners) → HasCorners (cubes_mesh n) f c → IsFaceAt n f c
face_at n zero c h = let none = of_live (map corners_of (cubes_lists n).faces) 0 (ap is_some h) in absurd (omega (arith, none.0))
face_at n (suc i) c h =
    let found = sym (numbered 1 i (suc i) (map corners_of (cubes_lists n).faces) (omega arith)) ∙ sym (get-from_entries nat_cmp_total (enumerate_from 1 (map corners_of (cubes_lists n).faces)) (suc i)) ∙ h in
    let from = get_map corners_of (cubes_lists n).faces i c found in
    subst (λ x. IsFaceAt n (suc i) x) (sym from.2) (face_listed n i from.0 (suc i) refl from.1)

-- ---- laws of a mesh
numbered_vertex : (n v : ℕ) → 1 ≤ v → v ≤ n → is_vertex n v ≡ true
numbered_vertex n v h h' = grind (arith, nat_tests)

pub vertices_numbered : (n v : ℕ) → (IsLiveVertex (cubes_mesh n) v ↔ IsFrom 1 (8 * (n * n * n)) v)
vertices_numbered n v =
    let points = map point_at (cubes_lists n).points in
    let count : length points ≡ 8 * (n * n * n) = length-map (cubes_lists n).points point_at ∙ count-points n in
    (λ live. let ids = of_live points v live in (ids.0, omega (arith, ids.1)), λ from. is_live points v (numbered_vertex (length points) v from.0 (omega (arith, from.1))))

vertex_lives : (n cube v : ℕ) → cube < n * n * n → IsOfCube v → IsLiveVertex (cubes_mesh n) (8 * cube + v)
vertex_lives n cube v there of_cube = (vertices_numbered n (8 * cube + v)).1 (omega (arith, of_cube.from), omega (arith, there, of_cube.to))

corners_live : (n f : ℕ) (c : Corners) → HasCorners (cubes_mesh n) f c → AreLive (cubes_mesh n) c
corners_live n f c h =
    let at = face_at n f c h in
    let of_cube = corners_of_cube at.place at.face at.listed in
    subst (AreLive (cubes_mesh n)) (sym at.corners)
    (vertex_lives n at.cube at.face.first at.there of_cube.first, vertex_lives n at.cube at.face.second at.there of_cube.second, vertex_lives n at.cube at.face.third at.there of_cube.third)

different-lifted : (cube : ℕ) (t : Corners) → AreDifferent t → AreDifferent (lifted cube t)
different-lifted cube t differ = record {
  first_second = λ e. differ.first_second (omega arith);
  second_third = λ e. differ.second_third (omega arith);
  third_first = λ e. differ.third_first (omega arith);
}

corners_different : (n f : ℕ) (c : Corners) → HasCorners (cubes_mesh n) f c → AreDifferent c
corners_different n f c h =
    let at = face_at n f c h in
    subst AreDifferent (sym at.corners) (different-lifted at.cube at.face (corners_differ at.place at.face at.listed))

-- equal up to rotation: the first corner of the one is a corner of the other
same_first : (c d : Corners) → equal_up_to_rotation c d ≡ true → (c.first ≡ d.first) ⊎ ((c.second ≡ d.first) ⊎ (c.third ≡ d.first))
same_first c d e =
    ⊎_elim (λ two. ⊎_elim
    (λ one. inl (first_of _ _ _ _ one))
    (λ one. inr (inl (first_of _ _ _ _ one)))
    (or_either (c.first == d.first && c.second == d.second && c.third == d.third) _ two))
    (λ one. inr (inr (first_of _ _ _ _ one)))
    (or_either ((c.first == d.first && c.second == d.second && c.third == d.third) || (c.second == d.first && c.third == d.second && c.first == d.third)) _ e)
  where
    first_of : (a b : ℕ) (p q : Bool) → (a == b && p && q) ≡ true → a ≡ b
    first_of a b p q e = eqb-true a b (and_first (a == b) p (and_first (a == b && p) q e))

-- numbers of two cubes differ
same_cube : (c d v w : ℕ) → IsOfCube v → IsOfCube w → 8 * c + v ≡ 8 * d + w → c ≡ d
same_cube c d v w h h' e = omega (arith, h.from, h.to, h'.from, h'.to)

faces_of_same_cube : (c d : ℕ) (t u : Corners) → AreOfCube t → AreOfCube u → equal_up_to_rotation (lifted c t) (lifted d u) ≡ true → c ≡ d
faces_of_same_cube c d t u h h' e =
    ⊎_elim (λ one. same_cube c d t.first u.first h.first h'.first one)
    (λ rest. ⊎_elim (λ one. same_cube c d t.second u.first h.second h'.first one) (λ one. same_cube c d t.third u.first h.third h'.first one) rest)
    (same_first (lifted c t) (lifted d u) e)

same_number : (b x y : ℕ) → (b + x == b + y) ≡ (x == y)
same_number b x y = both_ways _ _
    (λ e. eq-eqb x y (let is : b + x ≡ b + y = eqb-true (b + x) (b + y) e in omega arith))
    (λ e. eq-eqb (b + x) (b + y) (let is : x ≡ y = eqb-true x y e in omega arith))

equal-lifted : (c : ℕ) (t u : Corners) → equal_up_to_rotation (lifted c t) (lifted c u) ≡ equal_up_to_rotation t u
equal-lifted c t u =
    let p1 = same_number (8 * c) t.first u.first in
    let p2 = same_number (8 * c) t.second u.first in
    let p3 = same_number (8 * c) t.third u.first in
    let q1 = same_number (8 * c) t.first u.second in
    let q2 = same_number (8 * c) t.second u.second in
    let q3 = same_number (8 * c) t.third u.second in
    let r1 = same_number (8 * c) t.first u.third in
    let r2 = same_number (8 * c) t.second u.third in
    let r3 = same_number (8 * c) t.third u.third in
    cc

faces_different : (n f g : ℕ) (c d : Corners) → HasCorners (cubes_mesh n) f c → HasCorners (cubes_mesh n) g d → equal_up_to_rotation c d ≡ true → f ≡ g
faces_different n f g c d h h' e =
    let at = face_at n f c h in
    let at' = face_at n g d h' in
    let lifted_equal : equal_up_to_rotation (lifted at.cube at.face) (lifted at'.cube at'.face) ≡ true = subst (λ x. equal_up_to_rotation x (lifted at'.cube at'.face) ≡ true) at.corners (subst (λ x. equal_up_to_rotation c x ≡ true) at'.corners e) in
    let cubes : at.cube ≡ at'.cube = faces_of_same_cube at.cube at'.cube at.face at'.face (corners_of_cube at.place at.face at.listed) (corners_of_cube at'.place at'.face at'.listed) lifted_equal in
    let equal : equal_up_to_rotation at.face at'.face ≡ true = sym (equal-lifted at'.cube at.face at'.face) ∙ subst (λ x. equal_up_to_rotation (lifted x at.face) (lifted at'.cube at'.face) ≡ true) cubes lifted_equal in
    let places : at.place ≡ at'.place = faces_differ at.place at'.place at.face at'.face at.listed at'.listed equal in
    omega (arith, at.number, at'.number)

-- ---- limits
below : (limit n : ℕ) → n ≤ limit → nat_lt limit n ≡ false
below limit n h = grind (arith, nat_tests)

pub cubes_are_sound : (n : ℕ) → IsRow n → IsSound (cubes_mesh n)
cubes_are_sound n row =
    let points = map point_at (cubes_lists n).points in
    let faces = (cubes_lists n).faces in
    let few = cubes-few n row in
    let count : length points ≡ 8 * (n * n * n) = length-map (cubes_lists n).points point_at ∙ count-points n in
    let count' : length (map corners_of faces) ≡ 12 * (n * n * n) = length-map faces corners_of ∙ count-faces n in
    record {
      is_mesh = record {
        vertex_ids = λ v e. of_live points v e;
        face_ids = λ f e. let ids = of_live (map corners_of faces) f e in omega (arith, ids, length-map faces corners_of);
        solid_ids = λ v h. let none = none_in_empty (Unit {0}) v in cc;
        live_corners = corners_live n;
        different_corners = corners_different n;
        different_faces = faces_different n;
      };
      limits = record {
        vertices = few_vertices Standard points faces (below STANDARD_VERTICES (length points) (omega arith));
        greatest = (lit≤ tt, lit≤ tt);
        faces = few_faces Standard points faces (below STANDARD_FACES (length faces) (omega (arith, count-faces n)));
        vertex_ids = omega arith;
        face_ids = omega (arith, count-faces n);
      };
    }

-- ---- balance
cubes_balance : (start count u v : ℕ) → runs_in (flat_map cube_faces (range_with_len start count)) u v ≡ runs_in (flat_map cube_faces (range_with_len start count)) v u
cubes_balance start zero u v = refl
cubes_balance start (suc count) u v =
    let rest = flat_map cube_faces (range_with_len (start + 1) count) in
    sum_by-append (λ f. cond (follows (corners_of f) u v) 1 0) (cube_faces start) rest
    ∙ ap (λ (k : ℕ). k + runs_in rest u v) (cube_is_closed start u v)
    ∙ ap (λ (k : ℕ). runs_in (cube_faces start) v u + k) (cubes_balance (start + 1) count u v)
    ∙ sym (sum_by-append (λ f. cond (follows (corners_of f) v u) 1 0) (cube_faces start) rest)

pub cubes_are_closed : (n : ℕ) → IsClosed (cubes_mesh n)
cubes_are_closed n u v =
    let points = map point_at (cubes_lists n).points in
    runs_given Standard points (cubes_lists n).faces u v ∙ cubes_balance 0 (n * n * n) u v ∙ sym (runs_given Standard points (cubes_lists n).faces v u)

pub cubes_have_no_fault : (n : ℕ) → IsRow n → shape_fault Standard (length (cubes_lists n).points) (cubes_lists n).faces ≡ None
cubes_have_no_fault n row =
    let points = map point_at (cubes_lists n).points in
    ap (λ (k : ℕ). shape_fault Standard k (cubes_lists n).faces) (sym (length-map (cubes_lists n).points point_at))
    ∙ no_fault Standard points (cubes_lists n).faces (cubes_are_sound n row) (cubes_are_closed n)
