-- Where the vertices of the cubes stand.
use Rattle.std.proofs.Common.{◌≡◌, ℕ, zero, suc, ◌+◌, ◌*◌, ◌-◌, ◌/◌, ◌%◌, ◌<◌, ◌≤◌, ℤ, pos, ◌+ℤ◌, ◌≤ℤ◌, List, [], ◌∷◌, Some, map, get_or, slice_get, option_map, lit≤, ap, ◌∙◌, arith}
use Rattle.std.proofs.lemmas.Int.{ints}
use Rattle.std.proofs.lemmas.Option.{slice_get-map, slice_get-get_or}
use Rattle.std.proofs.Math.Nat.{mod-le, div-le_self}
use Rattle.std.specs.Prelude.{unsigned_abs}
use Rattle.std.specs.List.{AllByRecursion, enumerate_from}
use Rattle.std.specs.FinMap.{get-from_entries}
use Rattle.std.specs.Cmp.{nat_cmp_total}
use Rattle.grid_base.specs.declared.TheConstants.{BOX}
use Rattle.grid_base.specs.Triples.{Triple, IsWithin, plus}
use Rattle.grid_base.specs.Points.{point_at}
use Rattle.grid_base.proofs.PointLaws.{position_of-point_at}
use Rattle.mesh_base.specs.Placements.{origin, position_or_origin, rest_positions}
use Rattle.mesh_shape.proofs.Lists.{numbered}
use Rattle.mesh_make.specs.Cubes.{IsRow, at, least_corner, corner_offsets, cube_points, cubes_lists, cubes_mesh}
use Rattle.mesh_make.proofs.Pieces.{of_piece}
use Rattle.mesh_make.proofs.OneCube.{IsOfCube}
use Rattle.mesh_make.proofs.Growing.{cubes-few}
use Rattle.mesh_make.proofs.Shape.{eight_points}

-- how far a vertex of a cube is from the least corner
abbrev pub offset : ℕ → Triple
offset v = get_or corner_offsets (v - 1) origin

-- where a vertex of a cube stands
abbrev pub place : ℕ → ℕ → ℕ → Triple
place n cube v = plus (least_corner n cube) (offset v)

-- ---- a cube is 40 wide
pub record IsInSide (a : ℤ) : Type 0 where
  pub low : pos 0 ≤ℤ a
  pub high : a ≤ℤ pos 40

pub record IsInCube (o : Triple) : Type 0 where
  pub x : IsInSide o.x
  pub y : IsInSide o.y
  pub z : IsInSide o.z

in_side : (a : ℕ) → a ≤ 40 → IsInSide (pos a)
in_side a h = record { low = omega (arith, ints); high = omega (arith, ints) }

in_cube : (x y z : ℕ) → x ≤ 40 → y ≤ 40 → z ≤ 40 → IsInCube (at x y z)
in_cube x y z h h' h'' = record { x = in_side x h; y = in_side y h'; z = in_side z h'' }

each_read : {X : Type 0} (P : X → Type 0) (xs : List X) (i : ℕ) (d : X) → AllByRecursion P xs → P d → P (get_or xs i d)
each_read P [] i d all h = h
each_read P (x ∷ xs) zero d all h = all.0
each_read P (x ∷ xs) (suc i) d all h = each_read P xs i d all.1 h

offsets_in_cube : AllByRecursion IsInCube corner_offsets
unfolding corner_offsets
offsets_in_cube =
    let none : 0 ≤ 40 = lit≤ tt in
    let all : 40 ≤ 40 = lit≤ tt in (
      in_cube 0 0 0 none none none,
      (
        in_cube 40 0 0 all none none,
        (
          in_cube 40 40 0 all all none,
          (
            in_cube 0 40 0 none all none,
            (in_cube 0 0 40 none none all, (in_cube 40 0 40 all none all, (in_cube 40 40 40 all all all, (in_cube 0 40 40 none all all, tt)))),
          ),
        ),
      ),
    )

pub offset_in_cube : (v : ℕ) → IsInCube (offset v)
offset_in_cube v = let none : 0 ≤ 40 = lit≤ tt in each_read IsInCube corner_offsets (v - 1) origin offsets_in_cube (in_cube 0 0 0 none none none)

-- ---- all stand in the box
in_box : (a : ℕ) (o : ℤ) → a ≤ 1728 → IsInSide o → unsigned_abs (pos (100 * a) +ℤ o) ≤ BOX
in_box a o h side = few a o h side.low side.high
  where
    few : (a : ℕ) (o : ℤ) → a ≤ 1728 → pos 0 ≤ℤ o → o ≤ℤ pos 40 → unsigned_abs (pos (100 * a) +ℤ o) ≤ BOX
    few a o h low high = omega (arith, ints)

place_within : (n cube v : ℕ) → cube ≤ 1728 → IsWithin BOX (place n cube v)
place_within n cube v h =
    let o = offset_in_cube v in
    let x = mod-le cube n in
    let y = mod-le (cube / n) n in
    let q = div-le_self cube n in
    let z = div-le_self (cube / n) n in
    record {
      x_fits = in_box (cube % n) (offset v).x (omega arith) o.x;
      y_fits = in_box (cube / n % n) (offset v).y (omega arith) o.y;
      z_fits = in_box (cube / n / n) (offset v).z (omega arith) o.z;
    }

-- ---- the vertices of the mesh
offset_read : (v : ℕ) → IsOfCube v → slice_get corner_offsets (v - 1) ≡ Some (offset v)
unfolding corner_offsets
offset_read v h = slice_get-get_or corner_offsets (v - 1) origin (let few : v - 1 < 8 = omega (arith, h.to, h.from) in few)

point_read : (n cube v : ℕ) → cube < n * n * n → IsOfCube v → slice_get (cubes_lists n).points (8 * cube + (v - 1)) ≡ Some (place n cube v)
point_read n cube v there h =
    of_piece 8 (cube_points n) (eight_points n) 0 (n * n * n) cube (v - 1) (place n cube v) there
    (ap (λ c. slice_get (cube_points n c) (v - 1)) (let same : 0 + cube ≡ cube = omega arith in same)
    ∙ slice_get-map (λ o. plus (least_corner n cube) o) corner_offsets (v - 1)
    ∙ ap (option_map (λ o. plus (least_corner n cube) o)) (offset_read v h))

pub stands : (n cube v : ℕ) → IsRow n → cube < n * n * n → IsOfCube v → rest_positions (cubes_mesh n) (8 * cube + v) ≡ place n cube v
stands n cube v row there h =
    let points = map point_at (cubes_lists n).points in
    let few = cubes-few n row in
    ap position_or_origin
    (get-from_entries nat_cmp_total (enumerate_from 1 points) (8 * cube + v)
    ∙ numbered 1 (8 * cube + (v - 1)) (8 * cube + v) points (omega (arith, h.from))
    ∙ slice_get-map point_at (cubes_lists n).points (8 * cube + (v - 1))
    ∙ ap (option_map point_at) (point_read n cube v there h))
    ∙ position_of-point_at (place n cube v) (place_within n cube v (omega arith))
