-- One cube alone is a closed mesh, by computing; and the faces of each cube are the same with greater numbers.
use Rattle.std.proofs.Common.{◌≡◌, ℕ, suc, ◌+◌, ◌*◌, ◌-◌, ◌≤◌, ◌==◌, ◌&&◌, Bool, true, cond, List, [], ◌∷◌, Some, None, map, length, slice_get, refl, sym, ap, ◌∙◌, arith}
use Rattle.std.specs.List.{enumerate_from, AllByRecursion}
use Rattle.std.specs.FinMap.{get-from_entries}
use Rattle.std.specs.Cmp.{nat_cmp_total}
use Rattle.std.proofs.lemmas.List.Sums.{sum_by-cons}
use Rattle.std.proofs.lemmas.Bool.{eqb-true, eq-eqb}
use Rattle.grid_base.specs.declared.Point.{Point}
use Rattle.grid_base.specs.Points.{point_at_origin}
use Rattle.mesh_base.specs.declared.ids.Corners.{Corners}
use Rattle.mesh_base.specs.Mesh.{IsSound, AreDifferent, HasCorners, equal_up_to_rotation}
use Rattle.mesh_base.specs.Sides.{follows, has_corner}
use Rattle.mesh_base.specs.Changes.{corners_of, corner_list}
use Rattle.mesh_base.specs.declared.limits.Scale.TheVariants.{Standard}
use Rattle.mesh_base.specs.Given.{Faces, mesh_of}
use Rattle.mesh_base.proofs.Tests.{both_ways}
use Rattle.mesh_shape.specs.Shape.{runs_in, shape_fault}
use Rattle.mesh_shape.proofs.Lists.{numbered, sound-mesh_under}
use Rattle.mesh_shape.proofs.Faults.{runs_given, closed-mesh_under}
use Rattle.mesh_make.specs.Cubes.{squares, cube_faces}

abbrev pub triangle : ℕ → ℕ → ℕ → Corners
triangle a b c = record { first = a; second = b; third = c }

-- the faces of the first cube
abbrev pub triangles : List Corners
triangles =
    triangle 1 4 3 ∷ triangle 1 3 2 ∷ triangle 5 6 7 ∷ triangle 5 7 8 ∷ triangle 1 2 6 ∷ triangle 1 6 5
    ∷ triangle 2 3 7 ∷ triangle 2 7 6 ∷ triangle 3 4 8 ∷ triangle 3 8 7 ∷ triangle 4 1 5 ∷ triangle 4 5 8 ∷ []

-- a face of the first cube at another cube
abbrev pub lifted : ℕ → Corners → Corners
lifted cube t = triangle (8 * cube + t.first) (8 * cube + t.second) (8 * cube + t.third)

pub cube_faces-lifted : (cube : ℕ) → cube_faces cube ≡ map (λ t. corner_list (lifted cube t)) triangles
unfolding squares
cube_faces-lifted cube = refl

-- ---- one cube, of which the points don't matter here
one_points : List Point
one_points =
    point_at_origin ∷ point_at_origin ∷ point_at_origin ∷ point_at_origin
    ∷ point_at_origin ∷ point_at_origin ∷ point_at_origin ∷ point_at_origin ∷ []

abbrev one_faces : Faces
one_faces = map corner_list triangles

one_has_no_fault : shape_fault Standard 8 one_faces ≡ None
one_has_no_fault = refl

one_length : length one_points ≡ 8
unfolding one_points
one_length = refl

one_faultless : shape_fault Standard (length one_points) one_faces ≡ None
one_faultless = ap (λ n. shape_fault Standard n one_faces) one_length ∙ one_has_no_fault

one_is_sound : IsSound (mesh_of one_points one_faces)
one_is_sound = sound-mesh_under Standard one_points one_faces one_faultless

one_is_closed : (u v : ℕ) → runs_in one_faces u v ≡ runs_in one_faces v u
one_is_closed u v = sym (runs_given Standard one_points one_faces u v) ∙ closed-mesh_under Standard one_points one_faces one_faultless u v ∙ runs_given Standard one_points one_faces v u

one_has : (k : ℕ) (t : Corners) → slice_get triangles k ≡ Some t → HasCorners (mesh_of one_points one_faces) (k + 1) t
one_has k t h =
    get-from_entries nat_cmp_total (enumerate_from 1 (map corners_of one_faces)) (k + 1)
    ∙ numbered 1 k (k + 1) (map corners_of one_faces) (omega arith)
    ∙ h

-- a number of a vertex of the first cube
pub record IsOfCube (v : ℕ) : Type 0 where
  pub from : 1 ≤ v
  pub to : v ≤ 8

pub record AreOfCube (t : Corners) : Type 0 where
  pub first : IsOfCube t.first
  pub second : IsOfCube t.second
  pub third : IsOfCube t.third

pub corners_of_cube : (k : ℕ) (t : Corners) → slice_get triangles k ≡ Some t → AreOfCube t
corners_of_cube k t h =
    let live = one_is_sound.is_mesh.live_corners (k + 1) t (one_has k t h) in
    let a = one_is_sound.is_mesh.vertex_ids t.first live.0 in
    let b = one_is_sound.is_mesh.vertex_ids t.second live.1 in
    let c = one_is_sound.is_mesh.vertex_ids t.third live.2 in
    record {
      first = record { from = a.0; to = omega (arith, a.1, one_length) };
      second = record { from = b.0; to = omega (arith, b.1, one_length) };
      third = record { from = c.0; to = omega (arith, c.1, one_length) };
    }

pub corners_differ : (k : ℕ) (t : Corners) → slice_get triangles k ≡ Some t → AreDifferent t
corners_differ k t h = one_is_sound.is_mesh.different_corners (k + 1) t (one_has k t h)

pub faces_differ : (j k : ℕ) (t u : Corners) → slice_get triangles j ≡ Some t → slice_get triangles k ≡ Some u → equal_up_to_rotation t u ≡ true → j ≡ k
faces_differ j k t u h h' same =
    let ids : j + 1 ≡ k + 1 = one_is_sound.is_mesh.different_faces (j + 1) (k + 1) t u (one_has j t h) (one_has k u h') same in
    omega arith

-- ---- another cube
same_number : (b t u : ℕ) → 1 ≤ t → (b + t == u) ≡ (t == u - b)
same_number b t u h = both_ways _ _
    (λ e. eq-eqb t (u - b) (let is : b + t ≡ u = eqb-true (b + t) u e in omega arith))
    (λ e. eq-eqb (b + t) u (let is : t ≡ u - b = eqb-true t (u - b) e in omega arith))

same_lifted : (b x y u v : ℕ) → 1 ≤ x → 1 ≤ y → (b + x == u && b + y == v) ≡ (x == u - b && y == v - b)
same_lifted b x y u v h h' = let p = same_number b x u h in let q = same_number b y v h' in cc

pub follows-lifted : (cube : ℕ) (t : Corners) (u v : ℕ) → AreOfCube t → follows (lifted cube t) u v ≡ follows t (u - 8 * cube) (v - 8 * cube)
follows-lifted cube t u v in_cube =
    let p = same_lifted (8 * cube) t.first t.second u v in_cube.first.from in_cube.second.from in
    let q = same_lifted (8 * cube) t.second t.third u v in_cube.second.from in_cube.third.from in
    let r = same_lifted (8 * cube) t.third t.first u v in_cube.third.from in_cube.first.from in
    cc

pub has_corner-lifted : (cube : ℕ) (t : Corners) (v : ℕ) → AreOfCube t → has_corner (lifted cube t) v ≡ has_corner t (v - 8 * cube)
has_corner-lifted cube t v in_cube =
    let p = same_number (8 * cube) t.first v in_cube.first.from in
    let q = same_number (8 * cube) t.second v in_cube.second.from in
    let r = same_number (8 * cube) t.third v in_cube.third.from in
    cc

-- as many faces of a cube run one way as of the first
runs-lifted : (cube : ℕ) (ts : List Corners) (u v : ℕ) → AllByRecursion AreOfCube ts → runs_in (map (λ t. corner_list (lifted cube t)) ts) u v ≡ runs_in (map corner_list ts) (u - 8 * cube) (v - 8 * cube)
runs-lifted cube [] u v all = refl
runs-lifted cube (t ∷ ts) u v all =
    let one : cond {A = ℕ} (follows (lifted cube t) u v) 1 0 ≡ cond {A = ℕ} (follows t (u - 8 * cube) (v - 8 * cube)) 1 0 = ap (λ (b : Bool). cond {A = ℕ} b 1 0) (follows-lifted cube t u v all.0) in
    let rest = runs-lifted cube ts u v all.1 in
    sum_by-cons (λ f. cond {A = ℕ} (follows (corners_of f) u v) 1 0) (corner_list (lifted cube t)) (map (λ t. corner_list (lifted cube t)) ts)
    ∙ ap (λ (n : ℕ). n + runs_in (map (λ t. corner_list (lifted cube t)) ts) u v) one
    ∙ ap (λ (n : ℕ). cond {A = ℕ} (follows t (u - 8 * cube) (v - 8 * cube)) 1 0 + n) rest
    ∙ sym (sum_by-cons (λ f. cond {A = ℕ} (follows (corners_of f) (u - 8 * cube) (v - 8 * cube)) 1 0) (corner_list t) (map corner_list ts))

all_at : {X : Type 0} (P : X → Type 0) (xs : List X) → ((k : ℕ) (x : X) → slice_get xs k ≡ Some x → P x) → AllByRecursion P xs
all_at P [] h = tt
all_at P (x ∷ xs) h = (h 0 x refl, all_at P xs (λ k y e. h (suc k) y e))

pub cube_is_closed : (cube u v : ℕ) → runs_in (cube_faces cube) u v ≡ runs_in (cube_faces cube) v u
cube_is_closed cube u v =
    let all = all_at AreOfCube triangles corners_of_cube in
    ap (λ fs. runs_in fs u v) (cube_faces-lifted cube) ∙ runs-lifted cube triangles u v all
    ∙ one_is_closed (u - 8 * cube) (v - 8 * cube)
    ∙ sym (runs-lifted cube triangles v u all) ∙ sym (ap (λ fs. runs_in fs v u) (cube_faces-lifted cube))
