-- No pair of the cubes meets: two cubes are apart on an axis, and a pair of one cube stands as one of the first cube does, moved.
use Rattle.std.proofs.Common.{◌≡◌, ℕ, ◌+◌, ◌*◌, ◌-◌, ◌/◌, ◌%◌, ◌<◌, ◌≤◌, true, false, Some, slice_get, ℤ, pos, negsuc, ◌+ℤ◌, ◌-ℤ◌, ◌≤ℤ◌, ◌<ℤ◌, sym, ap, subst, ◌∙◌, ⊎_elim, arith}
use Rattle.std.specs.Prelude.{neg_ℤ}
use Rattle.std.proofs.lemmas.Int.{ints}
use Rattle.std.proofs.lemmas.Bool.{cases_lt, cases_eq}
use Rattle.std.proofs.Math.Nat.{div-add-mod}
use Rattle.grid_base.specs.declared.Positions.{Positions}
use Rattle.grid_base.specs.Triples.{Triple, plus, minus, dot}
use Rattle.grid_base.specs.Meeting.{MeetAt}
use Rattle.grid_base.proofs.MeetingLaws.{same_triple, Meets-not_below, MoveTogether-never_meet}
use Rattle.grid_base.proofs.SeparationLaws.{NeverMeet-at_end}
use Rattle.mesh_base.specs.declared.ids.Corners.{Corners}
use Rattle.mesh_base.specs.Sides.{runs, follows, has_corner}
use Rattle.mesh_base.specs.Placements.{positions, rest_positions, IsClearMesh}
use Rattle.mesh_base.proofs.Listed.{running_face}
use Rattle.mesh_make.specs.Cubes.{IsRow, least_corner, cubes_mesh}
use Rattle.mesh_make.proofs.OneCube.{triangles, lifted, IsOfCube, AreOfCube, corners_of_cube, follows-lifted, has_corner-lifted}
use Rattle.mesh_make.proofs.Shape.{face_at, cubes_are_closed}
use Rattle.mesh_make.proofs.Standing.{offset, place, IsInSide, offset_in_cube, stands}
use Rattle.mesh_make.proofs.Table.{first_positions, on_side, first_is_clear}

-- where an edge of one cube and a face of another stand
abbrev standing : ℕ → ℕ → ℕ → ℕ → ℕ → Corners → Positions
standing n cube u v other t = record { a = place n cube u; b = place n cube v; c = place n other t.first; d = place n other t.second; e = place n other t.third }

-- ---- one cube: all stand as in the first cube, moved by one shift
moved_alike : (low a b : Triple) → minus (plus low b) b ≡ minus (plus low a) a
moved_alike low a b = same_triple (minus (plus low b) b) (minus (plus low a) a) (part low.x a.x b.x) (part low.y a.y b.y) (part low.z a.z b.z)
  where
    part : (l a b : ℤ) → (l +ℤ b) -ℤ b ≡ (l +ℤ a) -ℤ a
    part l a b = omega (arith, ints)

apart_in_cube : (n cube u v : ℕ) (t : Corners) → ¬ (MeetAt (first_positions u v t)) → ¬ (MeetAt (standing n cube u v cube t))
apart_in_cube n cube u v t apart =
    let low = least_corner n cube in
    NeverMeet-at_end (first_positions u v t) (standing n cube u v cube t) (MoveTogether-never_meet (first_positions u v t) (standing n cube u v cube t) (record {
      b = moved_alike low (offset u) (offset v);
      c = moved_alike low (offset u) (offset t.first);
      d = moved_alike low (offset u) (offset t.second);
      e = moved_alike low (offset u) (offset t.third);
    }) apart)

-- ---- two cubes: one is below the other along an axis
less_by : (x y x' y' : ℤ) → x ≡ x' → y ≡ y' → x' <ℤ y' → x <ℤ y
less_by x y x' y' e f h = omega (arith, ints)

-- a direction that has each vertex of the one cube below each of the other
apart_by : (n cube other u v : ℕ) (t : Corners) (way : Triple) (along : Triple → ℤ) → ((p : Triple) → dot way p ≡ along p) → ((i j : ℕ) → along (place n cube i) <ℤ along (place n other j)) → ¬ (MeetAt (standing n cube u v other t))
apart_by n cube other u v t way along is less = Meets-not_below way (standing n cube u v other t) (record {
  ac = at u t.first;
  ad = at u t.second;
  ae = at u t.third;
  bc = at v t.first;
  bd = at v t.second;
  be = at v t.third;
})
  where
    at : (i j : ℕ) → dot way (place n cube i) <ℤ dot way (place n other j)
    at i j = less_by _ _ _ _ (is (place n cube i)) (is (place n other j)) (less i j)

nearer : (s t : ℕ) (o p : ℤ) → s < t → IsInSide o → IsInSide p → (pos (100 * s) +ℤ o) <ℤ (pos (100 * t) +ℤ p)
nearer s t o p h a b = numbers s t o p h a.high b.low
  where
    numbers : (s t : ℕ) (o p : ℤ) → s < t → o ≤ℤ pos 40 → pos 0 ≤ℤ p → (pos (100 * s) +ℤ o) <ℤ (pos (100 * t) +ℤ p)
    numbers s t o p h a b = omega (arith, ints)

further : (s t : ℕ) (o p : ℤ) → t < s → IsInSide o → IsInSide p → neg_ℤ (pos (100 * s) +ℤ o) <ℤ neg_ℤ (pos (100 * t) +ℤ p)
further s t o p h a b = turned (pos (100 * t) +ℤ p) (pos (100 * s) +ℤ o) (nearer t s p o h b a)
  where
    turned : (x y : ℤ) → x <ℤ y → neg_ℤ y <ℤ neg_ℤ x
    turned x y h = omega (arith, ints)

abbrev way : ℤ → ℤ → ℤ → Triple
way x y z = record { x = x; y = y; z = z }

on_x : (x y z : ℤ) → dot (way (pos 1) (pos 0) (pos 0)) (way x y z) ≡ x
on_x x y z = omega (arith, ints)

on_y : (x y z : ℤ) → dot (way (pos 0) (pos 1) (pos 0)) (way x y z) ≡ y
on_y x y z = omega (arith, ints)

on_z : (x y z : ℤ) → dot (way (pos 0) (pos 0) (pos 1)) (way x y z) ≡ z
on_z x y z = omega (arith, ints)

against_x : (x y z : ℤ) → dot (way (negsuc 0) (pos 0) (pos 0)) (way x y z) ≡ neg_ℤ x
against_x x y z = omega (arith, ints)

against_y : (x y z : ℤ) → dot (way (pos 0) (negsuc 0) (pos 0)) (way x y z) ≡ neg_ℤ y
against_y x y z = omega (arith, ints)

against_z : (x y z : ℤ) → dot (way (pos 0) (pos 0) (negsuc 0)) (way x y z) ≡ neg_ℤ z
against_z x y z = omega (arith, ints)

-- a cube is told by its three places
pub same_places : (n cube other : ℕ) → cube % n ≡ other % n → cube / n % n ≡ other / n % n → cube / n / n ≡ other / n / n → cube ≡ other
same_places n cube other x y z =
    let rows : cube / n ≡ other / n = sym (div-add-mod (cube / n) n) ∙ ap (λ (k : ℕ). n * k + cube / n % n) z ∙ ap (λ (k : ℕ). n * (other / n / n) + k) y ∙ div-add-mod (other / n) n in
    sym (div-add-mod cube n) ∙ ap (λ (k : ℕ). n * k + cube % n) rows ∙ ap (λ (k : ℕ). n * (other / n) + k) x ∙ div-add-mod other n

squeezed : (a b : ℕ) → a ≤ b → b ≤ a → a ≡ b
squeezed a b h h' = omega arith

apart_cubes : (n cube other u v : ℕ) (t : Corners) → (cube ≡ other → ⊥) → ¬ (MeetAt (standing n cube u v other t))
apart_cubes n cube other u v t differ =
    let o = offset_in_cube in
    ⊎_elim (λ less. apart_by n cube other u v t (way (pos 1) (pos 0) (pos 0)) (λ p. p.x) (λ p. on_x p.x p.y p.z) (λ i j. nearer (cube % n) (other % n) (offset i).x (offset j).x less (o i).x (o j).x)) (λ x.
    ⊎_elim (λ more. apart_by n cube other u v t (way (negsuc 0) (pos 0) (pos 0)) (λ p. neg_ℤ p.x) (λ p. against_x p.x p.y p.z) (λ i j. further (cube % n) (other % n) (offset i).x (offset j).x more (o i).x (o j).x)) (λ x'.
    ⊎_elim (λ less. apart_by n cube other u v t (way (pos 0) (pos 1) (pos 0)) (λ p. p.y) (λ p. on_y p.x p.y p.z) (λ i j. nearer (cube / n % n) (other / n % n) (offset i).y (offset j).y less (o i).y (o j).y)) (λ y.
    ⊎_elim (λ more. apart_by n cube other u v t (way (pos 0) (negsuc 0) (pos 0)) (λ p. neg_ℤ p.y) (λ p. against_y p.x p.y p.z) (λ i j. further (cube / n % n) (other / n % n) (offset i).y (offset j).y more (o i).y (o j).y)) (λ y'.
    ⊎_elim (λ less. apart_by n cube other u v t (way (pos 0) (pos 0) (pos 1)) (λ p. p.z) (λ p. on_z p.x p.y p.z) (λ i j. nearer (cube / n / n) (other / n / n) (offset i).z (offset j).z less (o i).z (o j).z)) (λ z.
    ⊎_elim (λ more. apart_by n cube other u v t (way (pos 0) (pos 0) (negsuc 0)) (λ p. neg_ℤ p.z) (λ p. against_z p.x p.y p.z) (λ i j. further (cube / n / n) (other / n / n) (offset i).z (offset j).z more (o i).z (o j).z)) (λ z'.
    absurd (differ (same_places n cube other (squeezed _ _ x' x) (squeezed _ _ y' y) (squeezed _ _ z' z))))
    (cases_lt (other / n / n) (cube / n / n))) (cases_lt (cube / n / n) (other / n / n)))
    (cases_lt (other / n % n) (cube / n % n))) (cases_lt (cube / n % n) (other / n % n)))
    (cases_lt (other % n) (cube % n))) (cases_lt (cube % n) (other % n))

-- ---- an edge of the mesh is an edge of the first cube at some cube
pub record IsSideAt (n u v : ℕ) : Type 0 where
  pub cube : ℕ
  pub spot : ℕ
  pub face : Corners
  pub there : cube < n * n * n
  pub listed : slice_get triangles spot ≡ Some face
  pub start : ℕ
  pub end : ℕ
  pub of_start : IsOfCube start
  pub of_end : IsOfCube end
  pub start_is : u ≡ 8 * cube + start
  pub end_is : v ≡ 8 * cube + end
  pub follow : follows face start end ≡ true

pub side_at : (n u v : ℕ) → 0 < runs (cubes_mesh n) u v → IsSideAt n u v
side_at n u v some =
    let found = running_face (cubes_mesh n) u v some in
    let at = face_at n (found.0).0 (found.0).1 found.2 in
    let of_cube = corners_of_cube at.place at.face at.listed in
    let follow : follows at.face (u - 8 * at.cube) (v - 8 * at.cube) ≡ true = sym (follows-lifted at.cube at.face u v of_cube) ∙ subst (λ c. follows c u v ≡ true) at.corners found.1 in
    let ends : IsOfCube (u - 8 * at.cube) × IsOfCube (v - 8 * at.cube) = on_side (λ x y. IsOfCube x × IsOfCube y) at.face (u - 8 * at.cube) (v - 8 * at.cube) follow (of_cube.first, of_cube.second) (of_cube.second, of_cube.third) (of_cube.third, of_cube.first) in
    record {
      cube = at.cube;
      spot = at.place;
      face = at.face;
      there = at.there;
      listed = at.listed;
      start = u - 8 * at.cube;
      end = v - 8 * at.cube;
      of_start = ends.0;
      of_end = ends.1;
      start_is = omega (arith, (ends.0).from);
      end_is = omega (arith, (ends.1).from);
      follow = follow;
    }

-- ---- each pair
not_corner : (cube v u : ℕ) (t c : Corners) → AreOfCube t → c ≡ lifted cube t → v ≡ 8 * cube + u → has_corner c v ≡ false → has_corner t u ≡ false
not_corner cube v u t c of_cube is is_v h =
    ap (has_corner t) (let same : u ≡ v - 8 * cube = omega arith in same) ∙ sym (has_corner-lifted cube t v of_cube) ∙ ap (λ x. has_corner x v) (sym is) ∙ h

five : (a b c d e a' b' c' d' e' : Triple) → a ≡ a' → b ≡ b' → c ≡ c' → d ≡ d' → e ≡ e' → ◌≡◌ {A = Positions} (record { a = a; b = b; c = c; d = d; e = e }) (record { a = a'; b = b'; c = c'; d = d'; e = e' })
five a b c d e a' b' c' d' e' p q r s t = cc

pub cubes_are_clear : (n : ℕ) → IsRow n → IsClearMesh (cubes_mesh n)
cubes_are_clear n row p pair =
    let m = cubes_mesh n in
    let closed = cubes_are_closed n p.name.a p.name.b in
    let some : 0 < runs m p.name.a p.name.b = omega (arith, closed, pair.edge) in
    let side = side_at n p.name.a p.name.b some in
    let at = face_at n p.name.face p.corners pair.face in
    let of_cube = corners_of_cube at.place at.face at.listed in
    let stand : positions (rest_positions m) p ≡ standing n side.cube side.start side.end at.cube at.face = five _ _ _ _ _ _ _ _ _ _
    (ap (rest_positions m) side.start_is ∙ stands n side.cube side.start row side.there side.of_start)
    (ap (rest_positions m) side.end_is ∙ stands n side.cube side.end row side.there side.of_end)
    (ap (λ (c : Corners). rest_positions m c.first) at.corners ∙ stands n at.cube at.face.first row at.there of_cube.first)
    (ap (λ (c : Corners). rest_positions m c.second) at.corners ∙ stands n at.cube at.face.second row at.there of_cube.second)
    (ap (λ (c : Corners). rest_positions m c.third) at.corners ∙ stands n at.cube at.face.third row at.there of_cube.third) in
    let apart : ¬ (MeetAt (standing n side.cube side.start side.end at.cube at.face)) = ⊎_elim
    (λ is. subst (λ k. ¬ (MeetAt (standing n side.cube side.start side.end k at.face))) is (apart_in_cube n side.cube side.start side.end at.face
    (first_is_clear side.spot at.place side.face at.face side.start side.end side.listed at.listed side.follow
    (not_corner at.cube p.name.a side.start at.face p.corners of_cube at.corners (side.start_is ∙ ap (λ k. 8 * k + side.start) is) pair.not_first)
    (not_corner at.cube p.name.b side.end at.face p.corners of_cube at.corners (side.end_is ∙ ap (λ k. 8 * k + side.end) is) pair.not_second))))
    (λ differ. apart_cubes n side.cube at.cube side.start side.end at.face differ)
    (cases_eq side.cube at.cube) in
    subst (λ f. ¬ (MeetAt f)) (sym stand) apart
