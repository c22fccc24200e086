-- Cubes that move as wholes: no vertex leaves the grid's box, and all pairs pass.
use Rattle.std.proofs.Common.{◌≡◌, ℕ, zero, suc, ◌+◌, ◌-◌, ◌*◌, ◌/◌, ◌%◌, ◌<◌, ◌≤◌, true, false, cond, not, List, map, Some, None, refl, ap, sym, subst, ◌∙◌, ⊎_elim, inr, arith}
use Rattle.std.specs.Option.{option_map, unwrap_or}
use Rattle.std.specs.List.{find, range_with_len}
use Rattle.std.specs.FinMap as finite
use Rattle.std.proofs.lemmas.Bool.{cases_eq}
use Rattle.grid_base.specs.declared.TheConstants.{BOX}
use Rattle.grid_base.specs.declared.Shift.{Shift}
use Rattle.grid_base.specs.declared.Positions.{Positions}
use Rattle.grid_base.specs.Triples.{Triple, plus, minus}
use Rattle.grid_base.specs.Points.{displacement_of, is_within}
use Rattle.grid_base.specs.Extents.{IsIn}
use Rattle.grid_base.specs.Separation.{Passes}
use Rattle.grid_base.proofs.PointLaws.{of_within}
use Rattle.mesh_base.specs.declared.ShiftOf.{ShiftOf}
use Rattle.mesh_base.specs.declared.ids.Corners.{Corners}
use Rattle.mesh_base.specs.Mesh.{Mesh, is_solid}
use Rattle.mesh_base.specs.Sides.{runs}
use Rattle.mesh_base.specs.Pairs.{Pair, IsPair}
use Rattle.mesh_base.specs.Placements.{origin, rest_positions, positions, IsClearMesh}
use Rattle.mesh_base.specs.Shifts.{Shifts, shift_at, moved_by}
use Rattle.mesh_base.proofs.Moves.{minus-plus}
use Rattle.pair_paths.proofs.Apart.{passes_apart}
use Rattle.mesh_make.specs.Cubes.{IsRow, cubes_mesh}
use Rattle.mesh_make.specs.CubeSteps.{cube_shift, cube_with, moved_by as cube_moved_by}
use Rattle.mesh_make.proofs.Ranges.{moves_by}
use Rattle.mesh_make.proofs.Growing.{cubes-few}
use Rattle.mesh_make.proofs.OneCube.{IsOfCube, corners_of_cube}
use Rattle.mesh_make.proofs.Shape.{face_at, cubes_are_closed}
use Rattle.mesh_make.proofs.Clear.{side_at}
use Rattle.run_laws.proofs.Places.{spot, spot-more, spot_within, spot_in, box, boxes_apart}
use Rattle.run_laws.proofs.Asking.{given, found}

-- the ids of the vertices of the cubes
abbrev pub ids_of : ℕ → List ℕ
ids_of n = range_with_len 1 (8 * (n * n * n))

-- The mesh is that of the cubes after so many steps: the vertices and the pairs are theirs, none is solid, and each stands where its
-- cube has taken it.
pub record AreMoved (n key steps : ℕ) (m : Mesh) : Type 0 where
  pub ids : finite.keys m.points ≡ ids_of n
  pub pairs : (p : Pair) → IsPair m p → IsPair (cubes_mesh n) p
  pub free : (v : ℕ) → is_solid m v ≡ false
  pub places : (cube v : ℕ) → cube < n * n * n → IsOfCube v → rest_positions m (8 * cube + v) ≡ spot n key steps cube v

-- the shift of a vertex in a step
abbrev pub shift_in : ℕ → ℕ → ℕ → Shift
shift_in key step v = cube_shift key step (cube_with v)

-- ---- vertices by their cube
with_cube : (cube v : ℕ) → IsOfCube v → cube_with (8 * cube + v) ≡ cube + 1
with_cube cube v h = omega (arith, h.from, h.to)

split : (a : ℕ) → 1 ≤ a → a ≡ 8 * ((a - 1) / 8) + ((a - 1) % 8 + 1)
split a h = omega arith

split_cube : (a count : ℕ) → 1 ≤ a → a < 1 + 8 * count → (a - 1) / 8 < count
split_cube a count h h' = omega arith

split_vertex : (a : ℕ) → IsOfCube ((a - 1) % 8 + 1)
split_vertex a = record { from = omega arith; to = omega arith }

numbered_low : (cube v : ℕ) → IsOfCube v → 1 ≤ 8 * cube + v
numbered_low cube v h = omega (arith, h.from)

numbered_high : (cube v count : ℕ) → cube < count → IsOfCube v → 8 * cube + v < 1 + 8 * count
numbered_high cube v count h of = omega (arith, of.to)

-- ---- a step, in which each vertex is asked the shift of its cube
module _ (n key k : ℕ) (row : IsRow n) (few : k < 3) (m : Mesh) (asked : Shifts) (at : AreMoved n key k m) (clear : IsClearMesh m) (asked_is : asked ≡ map (given (shift_in key (suc k))) (ids_of n)) where
  not_many : (cube : ℕ) → cube < n * n * n → cube ≤ 1728
  not_many cube there = let most = cubes-few n row in omega arith

  -- what is asked of a vertex is its cube's way
  own_shift : (cube v : ℕ) → cube < n * n * n → IsOfCube v → shift_at asked (8 * cube + v) ≡ cube_moved_by key (suc k) (cube + 1)
  own_shift cube v there of =
      ap (λ l. shift_at l (8 * cube + v)) asked_is
      ∙ ap (λ o. unwrap_or (option_map (λ (x : ShiftOf). displacement_of x.by) o) origin) (found (shift_in key (suc k)) 1 (8 * (n * n * n)) (8 * cube + v) (numbered_low cube v of) (numbered_high cube v (n * n * n) there of))
      ∙ moves_by key (suc k) (cube_with (8 * cube + v)) ∙ ap (cube_moved_by key (suc k)) (with_cube cube v of)

  -- so it ends where its cube takes it
  pub own_end : (cube v : ℕ) → cube < n * n * n → IsOfCube v → plus (rest_positions m (8 * cube + v)) (shift_at asked (8 * cube + v)) ≡ spot n key (suc k) cube v
  own_end cube v there of =
      ap (λ t. plus t (shift_at asked (8 * cube + v))) (at.places cube v there of)
      ∙ ap (plus (spot n key k cube v)) (own_shift cube v there of) ∙ spot-more n key k cube v

  -- ---- none ends outside the grid's box
  abbrev ends : ShiftOf → Triple
  ends x = plus (rest_positions m x.v) (displacement_of x.by)

  ends_inside : (a : ℕ) → 1 ≤ a → a < 1 + 8 * (n * n * n) → is_within BOX (ends (given (shift_in key (suc k)) a)) ≡ true
  ends_inside a h h' =
      let cube = (a - 1) / 8 in
      let v = (a - 1) % 8 + 1 in
      let there : cube < n * n * n = split_cube a (n * n * n) h h' in
      ap (λ w. is_within BOX (plus (rest_positions m w) (displacement_of (shift_in key (suc k) a)))) (split a h)
      ∙ ap (λ t. is_within BOX (plus t (displacement_of (shift_in key (suc k) a)))) (at.places cube v there (split_vertex a))
      ∙ ap (λ t. is_within BOX (plus (spot n key k cube v) t)) (moves_by key (suc k) (cube + 1))
      ∙ ap (is_within BOX) (spot-more n key k cube v)
      ∙ of_within BOX (spot n key (suc k) cube v) (spot_within n key (suc k) cube v (not_many cube there) (omega arith))

  none_outside : (a c : ℕ) → 1 ≤ a → a + c ≤ 1 + 8 * (n * n * n) → find (λ x. not (is_within BOX (ends x))) (map (given (shift_in key (suc k))) (range_with_len a c)) ≡ None
  none_outside a zero h h' = refl
  none_outside a (suc c) h h' =
      ap (λ b. cond (not b) (Some (given (shift_in key (suc k)) a)) (find (λ x. not (is_within BOX (ends x))) (map (given (shift_in key (suc k))) (range_with_len (a + 1) c)))) (ends_inside a h (omega arith))
      ∙ none_outside (a + 1) c (omega arith) (omega arith)

  pub inside : find (λ x. not (is_within BOX (ends x))) asked ≡ None
  inside = ap (find (λ x. not (is_within BOX (ends x)))) asked_is ∙ none_outside 1 (8 * (n * n * n)) (let some : 1 ≤ 1 = omega arith in some) (omega arith)

  -- ---- each pair passes
  -- a vertex of a cube, by its own number
  way_of : (w cube v : ℕ) → w ≡ 8 * cube + v → cube < n * n * n → IsOfCube v → minus (plus (rest_positions m w) (shift_at asked w)) (rest_positions m w) ≡ cube_moved_by key (suc k) (cube + 1)
  way_of w cube v is there of = minus-plus (rest_positions m w) (shift_at asked w) ∙ ap (shift_at asked) is ∙ own_shift cube v there of

  begins_in : (w cube v : ℕ) → w ≡ 8 * cube + v → (there : cube < n * n * n) → IsOfCube v → IsIn (box n cube (not_many cube there)) (rest_positions m w)
  begins_in w cube v is there of =
      subst (λ (t : Triple). IsIn (box n cube (not_many cube there)) t) (sym (ap (rest_positions m) is ∙ at.places cube v there of)) (spot_in n key k cube v (not_many cube there) (omega arith))

  ends_in : (w cube v : ℕ) → w ≡ 8 * cube + v → (there : cube < n * n * n) → IsOfCube v → IsIn (box n cube (not_many cube there)) (plus (rest_positions m w) (shift_at asked w))
  ends_in w cube v is there of =
      subst (λ (t : Triple). IsIn (box n cube (not_many cube there)) t) (sym (ap (λ x. plus (rest_positions m x) (shift_at asked x)) is ∙ own_end cube v there of)) (spot_in n key (suc k) cube v (not_many cube there) (omega arith))

  pub passes : (depth : ℕ) (p : Pair) → IsPair m p → Passes depth (positions (moved_by m asked).start p) (positions (moved_by m asked).end p)
  passes depth p is =
      let q = at.pairs p is in
      let closed = cubes_are_closed n p.name.a p.name.b in
      let some : 0 < runs (cubes_mesh n) p.name.a p.name.b = omega (arith, closed, q.edge) in
      let side = side_at n p.name.a p.name.b some in
      let face = face_at n p.name.face p.corners q.face in
      let of = corners_of_cube face.place face.face face.listed in
      let c_is : p.corners.first ≡ 8 * face.cube + face.face.first = ap (λ (c : Corners). c.first) face.corners in
      let d_is : p.corners.second ≡ 8 * face.cube + face.face.second = ap (λ (c : Corners). c.second) face.corners in
      let e_is : p.corners.third ≡ 8 * face.cube + face.face.third = ap (λ (c : Corners). c.third) face.corners in
      let start : Positions = positions (moved_by m asked).start p in
      let end : Positions = positions (moved_by m asked).end p in
      ⊎_elim
      (λ same.
      let first = sym (way_of p.name.a side.cube side.start side.start_is side.there side.of_start) in
      let back = ap (λ (c : ℕ). cube_moved_by key (suc k) (c + 1)) (sym same) ∙ first in
      inr (
        record {
          b = way_of p.name.b side.cube side.end side.end_is side.there side.of_end ∙ first;
          c = way_of p.corners.first face.cube face.face.first c_is face.there of.first ∙ back;
          d = way_of p.corners.second face.cube face.face.second d_is face.there of.second ∙ back;
          e = way_of p.corners.third face.cube face.face.third e_is face.there of.third ∙ back;
        },
        clear p is,
      ))
      (λ differ.
      let edge_box = box n side.cube (not_many side.cube side.there) in
      let face_box = box n face.cube (not_many face.cube face.there) in
      passes_apart depth edge_box face_box start end
      (record {
        a = begins_in p.name.a side.cube side.start side.start_is side.there side.of_start;
        b = begins_in p.name.b side.cube side.end side.end_is side.there side.of_end;
        c = begins_in p.corners.first face.cube face.face.first c_is face.there of.first;
        d = begins_in p.corners.second face.cube face.face.second d_is face.there of.second;
        e = begins_in p.corners.third face.cube face.face.third e_is face.there of.third;
      })
      (record {
        a = ends_in p.name.a side.cube side.start side.start_is side.there side.of_start;
        b = ends_in p.name.b side.cube side.end side.end_is side.there side.of_end;
        c = ends_in p.corners.first face.cube face.face.first c_is face.there of.first;
        d = ends_in p.corners.second face.cube face.face.second d_is face.there of.second;
        e = ends_in p.corners.third face.cube face.face.third e_is face.there of.third;
      })
      (boxes_apart n side.cube face.cube (not_many side.cube side.there) (not_many face.cube face.there) differ))
      (cases_eq side.cube face.cube)
