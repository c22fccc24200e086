-- The mesh after moves: where its vertices stand, and what stays.
use Rattle.std.proofs.Common.{◌≡◌, ℕ, ◌+◌, ◌<◌, ◌==◌, ◌&&◌, Bool, true, false, cond, eqb, [], ◌∷◌, Option, Some, None, is_some, map, length, pos, ◌+ℤ◌, ◌-ℤ◌, ◌*ℤ◌, refl, sym, ap, subst, ◌∙◌, arith, lit≤}
use Rattle.std.proofs.lemmas.Int.{ints}
use Rattle.std.specs.Option.{option_map, unwrap_or}
use Rattle.std.specs.List.{find, All, AllByRecursion, IsDistinct}
use Rattle.std.specs.Cmp.{unsigned_tied, nat_cmp_total}
use Rattle.std.specs.FinMap as finite
use Rattle.std.specs.FinMap.{get-insert}
use Rattle.std.proofs.lemmas.List.Elements.{All-head, All-tail, All-weaker}
use Rattle.std.proofs.lemmas.Map.Keys.{IsDistinct-head, IsDistinct-tail}
use Rattle.std.proofs.lemmas.Bool.{false≢true, eqb-true}
use Rattle.std.proofs.lemmas.Bool.Decides.{nat_tests}
use Rattle.grid_base.specs.declared.TheConstants.{BOX}
use Rattle.grid_base.specs.declared.Point.{Point}
use Rattle.grid_base.specs.Triples.{Triple, IsWithin, plus, minus}
use Rattle.grid_base.specs.Points.{displacement_of, is_within, point_at}
use Rattle.grid_base.specs.Meeting.{MeetAt}
use Rattle.grid_base.specs.Motion.{position_at}
use Rattle.grid_base.proofs.PointLaws.{position_of-point_at, within_of}
use Rattle.grid_base.proofs.MeetingLaws.{same_triple, MoveTogether-never_meet}
use Rattle.mesh_base.specs.declared.steps.ShiftOf.{ShiftOf}
use Rattle.mesh_base.specs.Mesh.{Mesh, IsSound, IsLiveVertex}
use Rattle.mesh_base.specs.Sides.{follows, ids_where, runs, IsClosed}
use Rattle.mesh_base.specs.Pairs.{Pair, IsPair}
use Rattle.mesh_base.specs.Placements.{Placement, Motion, origin, position_or_origin, rest_positions, positions, at_fraction, IsClearMesh, IsClearAlong}
use Rattle.mesh_base.specs.Shifts.{Shifts, shift_at, moved_by, end_in_box, with_move, with_moves}
use Rattle.mesh_base.proofs.Tests.{turned_test}
use Rattle.mesh_base.proofs.MeshLaws.{sound-with_point}
use Rattle.mesh_base.proofs.Listed.{edge_live}

-- ---- triples
pub plus-origin : (a : Triple) → plus a origin ≡ a
plus-origin a = same_triple (plus a origin) a (zero a.x) (zero a.y) (zero a.z)
  where
    zero : (x : _) → x +ℤ pos 0 ≡ x
    zero x = omega (arith, ints)

pub minus-plus : (a b : Triple) → minus (plus a b) a ≡ b
minus-plus a b = same_triple (minus (plus a b) a) b (back a.x b.x) (back a.y b.y) (back a.z b.z)
  where
    back : (x y : _) → (x +ℤ y) -ℤ x ≡ y
    back x y = omega (arith, ints)

-- where a vertex stands is in the box
pub own_within : (m : Mesh) (v : ℕ) → IsWithin BOX (rest_positions m v)
own_within m v = by_answer (finite.get m.points v)
  where
    by_answer : (o : Option Point) → IsWithin BOX (position_or_origin o)
    by_answer None = record { x_fits = lit≤ tt; y_fits = lit≤ tt; z_fits = lit≤ tt }
    by_answer (Some p) = record { x_fits = p.in_box.x_fits; y_fits = p.in_box.y_fits; z_fits = p.in_box.z_fits }

-- at the whole way a position is at its end
pub position_at-end : (a b : Triple) → position_at 1 1 a b ≡ b
position_at-end a b = same_triple (position_at 1 1 a b) b (whole a.x b.x) (whole a.y b.y) (whole a.z b.z)
  where
    whole : (x y : _) → (pos 0 *ℤ x) +ℤ (pos 1 *ℤ y) ≡ y
    whole x y = omega (arith, ints)

pub both_true : (a b : Bool) → (a && b) ≡ true → (a ≡ true) × (b ≡ true)
both_true true b h = (refl, h)
both_true false b h = absurd (false≢true h)

-- ---- one move
got-moved : (m : Mesh) (s : ShiftOf) (v : ℕ) → finite.get (with_move m s).points v ≡ cond (v == s.v) (Some (point_at (plus (rest_positions m s.v) (displacement_of s.by)))) (finite.get m.points v)
got-moved m s v =
    let p : Point = point_at (plus (rest_positions m s.v) (displacement_of s.by)) in
    get-insert nat_cmp_total m.points s.v p v ∙ ap (λ t. cond t (Some p) (finite.get m.points v)) (unsigned_tied v s.v)

itself : (v : ℕ) → (v == v) ≡ true
itself v = grind (arith, nat_tests)

own-moved : (m : Mesh) (s : ShiftOf) → is_within BOX (plus (rest_positions m s.v) (displacement_of s.by)) ≡ true → rest_positions (with_move m s) s.v ≡ plus (rest_positions m s.v) (displacement_of s.by)
own-moved m s inside =
    let end : Triple = plus (rest_positions m s.v) (displacement_of s.by) in
    ap position_or_origin (got-moved m s s.v ∙ ap (λ t. cond t (Some (point_at end)) (finite.get m.points s.v)) (itself s.v)) ∙ position_of-point_at end (within_of BOX end inside)

own-unmoved : (m : Mesh) (s : ShiftOf) (v : ℕ) → (s.v == v) ≡ false → rest_positions (with_move m s) v ≡ rest_positions m v
own-unmoved m s v apart = ap position_or_origin (got-moved m s v ∙ ap (λ t. cond t (Some (point_at (plus (rest_positions m s.v) (displacement_of s.by)))) (finite.get m.points v)) (turned_test s.v v apart))

live-moved : (m : Mesh) (s : ShiftOf) (v : ℕ) → IsLiveVertex m s.v → is_some (finite.get (with_move m s).points v) ≡ is_some (finite.get m.points v)
live-moved m s v live = ap is_some (got-moved m s v) ∙ by_test (v == s.v) refl
  where
    by_test : (t : Bool) → (v == s.v) ≡ t → is_some (cond t (Some (point_at (plus (rest_positions m s.v) (displacement_of s.by)))) (finite.get m.points v)) ≡ is_some (finite.get m.points v)
    by_test true e = sym (subst (IsLiveVertex m) (sym (eqb-true v s.v e)) live)
    by_test false e = refl

-- ---- moves that name others
pub unnamed : (v : ℕ) (moves : Shifts) → AllByRecursion (λ u. eqb v u ≡ false) (map (λ s. s.v) moves) → shift_at moves v ≡ origin
unnamed v moves h = ap (λ o. unwrap_or (option_map (λ s. displacement_of s.by) o) origin) (none moves h)
  where
    none : (rest : Shifts) → AllByRecursion (λ u. eqb v u ≡ false) (map (λ s. s.v) rest) → find (λ s. s.v == v) rest ≡ None
    none [] h = refl
    none (s ∷ rest) h = ap (λ t. cond t (Some s) (find (λ x. x.v == v) rest)) (turned_test v s.v h.0) ∙ none rest h.1

pub same_ends : (m : Mesh) (s : ShiftOf) (rest : Shifts) → AllByRecursion (λ u. eqb s.v u ≡ false) (map (λ x. x.v) rest) → end_in_box (with_move m s) rest ≡ end_in_box m rest
same_ends m s [] h = refl
same_ends m s (x ∷ rest) h =
    ap (λ at. is_within BOX (plus at (displacement_of x.by)) && end_in_box (with_move m s) rest) (own-unmoved m s x.v h.0)
    ∙ ap (λ b. is_within BOX (plus (rest_positions m x.v) (displacement_of x.by)) && b) (same_ends m s rest h.1)

-- each vertex ends at its point and its shift together
pub own-with_moves : (m : Mesh) (moves : Shifts) (v : ℕ) → IsDistinct eqb (map (λ s. s.v) moves) → end_in_box m moves ≡ true → rest_positions (with_moves m moves) v ≡ plus (rest_positions m v) (shift_at moves v)
own-with_moves m [] v once inside = sym (plus-origin (rest_positions m v))
own-with_moves m (s ∷ rest) v once inside =
    let parts = both_true (is_within BOX (plus (rest_positions m s.v) (displacement_of s.by))) (end_in_box m rest) inside in
    let others = IsDistinct-head eqb s.v (map (λ x. x.v) rest) once in
    own-with_moves (with_move m s) rest v (IsDistinct-tail eqb s.v (map (λ x. x.v) rest) once) (same_ends m s rest others ∙ parts.1)
    ∙ by_test parts.0 others (s.v == v) refl
  where
    by_test : is_within BOX (plus (rest_positions m s.v) (displacement_of s.by)) ≡ true → AllByRecursion (λ u. eqb s.v u ≡ false) (map (λ x. x.v) rest)
        → (t : Bool) → (s.v == v) ≡ t
        → plus (rest_positions (with_move m s) v) (shift_at rest v) ≡ plus (rest_positions m v) (unwrap_or (option_map (λ x. displacement_of x.by) (cond t (Some s) (find (λ x. x.v == v) rest))) origin)
    by_test here others true e =
        subst (λ u. plus (rest_positions (with_move m s) u) (shift_at rest u) ≡ plus (rest_positions m u) (displacement_of s.by)) (eqb-true s.v v e)
        (ap (λ at. plus at (shift_at rest s.v)) (own-moved m s here) ∙ ap (plus (plus (rest_positions m s.v) (displacement_of s.by))) (unnamed s.v rest others) ∙ plus-origin (plus (rest_positions m s.v) (displacement_of s.by)))
    by_test here others false e = ap (λ at. plus at (shift_at rest v)) (own-unmoved m s v e)

-- ---- what stays
pub faces-with_moves : (m : Mesh) (moves : Shifts) → (with_moves m moves).faces ≡ m.faces
faces-with_moves m [] = refl
faces-with_moves m (s ∷ rest) = faces-with_moves (with_move m s) rest

pub next_vertex-with_moves : (m : Mesh) (moves : Shifts) → (with_moves m moves).next_vertex ≡ m.next_vertex
next_vertex-with_moves m [] = refl
next_vertex-with_moves m (s ∷ rest) = next_vertex-with_moves (with_move m s) rest

pub next_face-with_moves : (m : Mesh) (moves : Shifts) → (with_moves m moves).next_face ≡ m.next_face
next_face-with_moves m [] = refl
next_face-with_moves m (s ∷ rest) = next_face-with_moves (with_move m s) rest

pub limits-with_moves : (m : Mesh) (moves : Shifts) → (with_moves m moves).limits ≡ m.limits
limits-with_moves m [] = refl
limits-with_moves m (s ∷ rest) = limits-with_moves (with_move m s) rest

-- moves that name live vertices name live ones after the first
pub still_live : (m : Mesh) (s : ShiftOf) (rest : Shifts) → IsLiveVertex m s.v → All (λ x. IsLiveVertex m x.v) rest → All (λ x. IsLiveVertex (with_move m s) x.v) rest
still_live m s rest live others = All-weaker (λ x. IsLiveVertex m x.v) (λ x. IsLiveVertex (with_move m s) x.v) (λ x h. live-moved m s x.v live ∙ h) rest others

-- the same vertices are live
pub live-with_moves : (m : Mesh) (moves : Shifts) (v : ℕ) → All (λ s. IsLiveVertex m s.v) moves → is_some (finite.get (with_moves m moves).points v) ≡ is_some (finite.get m.points v)
live-with_moves m [] v live = refl
live-with_moves m (s ∷ rest) v live =
    let here = All-head (λ x. IsLiveVertex m x.v) s rest live in
    live-with_moves (with_move m s) rest v (still_live m s rest here (All-tail (λ x. IsLiveVertex m x.v) s rest live)) ∙ live-moved m s v here

pub sound-with_moves : (m : Mesh) (moves : Shifts) → IsSound m → All (λ s. IsLiveVertex m s.v) moves → IsSound (with_moves m moves)
sound-with_moves m [] sound live = sound
sound-with_moves m (s ∷ rest) sound live =
    let here = All-head (λ x. IsLiveVertex m x.v) s rest live in
    sound-with_moves (with_move m s) rest (sound-with_point m s.v (point_at (plus (rest_positions m s.v) (displacement_of s.by))) sound here) (still_live m s rest here (All-tail (λ x. IsLiveVertex m x.v) s rest live))

pub runs-with_moves : (m : Mesh) (moves : Shifts) (u v : ℕ) → runs (with_moves m moves) u v ≡ runs m u v
runs-with_moves m moves u v = ap (λ faces. length (ids_where (λ c. follows c u v) (finite.entries faces))) (faces-with_moves m moves)

pub closed-with_moves : (m : Mesh) (moves : Shifts) → IsClosed m → IsClosed (with_moves m moves)
closed-with_moves m moves closed u v = runs-with_moves m moves u v ∙ closed u v ∙ sym (runs-with_moves m moves v u)

edge_count : (m : Mesh) (moves : Shifts) (u v : ℕ) → runs (with_moves m moves) u v + runs (with_moves m moves) v u ≡ runs m u v + runs m v u
edge_count m moves u v = ap (λ n. n + runs (with_moves m moves) v u) (runs-with_moves m moves u v) ∙ ap (λ n. runs m u v + n) (runs-with_moves m moves v u)

pub pair_before_moves : (m : Mesh) (moves : Shifts) (p : Pair) → IsPair (with_moves m moves) p → IsPair m p
pair_before_moves m moves p is = record {
  ordered = is.ordered;
  edge = subst (λ n. 0 < n) (edge_count m moves p.name.a p.name.b) is.edge;
  face = ap (λ faces. finite.get faces p.name.face) (sym (faces-with_moves m moves)) ∙ is.face;
  not_first = is.not_first;
  not_second = is.not_second;
}

pub pair_after_moves : (m : Mesh) (moves : Shifts) (p : Pair) → IsPair m p → IsPair (with_moves m moves) p
pair_after_moves m moves p is = record {
  ordered = is.ordered;
  edge = subst (λ n. 0 < n) (sym (edge_count m moves p.name.a p.name.b)) is.edge;
  face = ap (λ faces. finite.get faces p.name.face) (faces-with_moves m moves) ∙ is.face;
  not_first = is.not_first;
  not_second = is.not_second;
}

-- ---- clearness
pub same_positions : (at at' : Placement) (p : Pair) → ((v : ℕ) → at v ≡ at' v) → positions at p ≡ positions at' p
same_positions at at' p h = λ i. record { a = h p.name.a i; b = h p.name.b i; c = h p.corners.first i; d = h p.corners.second i; e = h p.corners.third i }

-- a motion that is clear along leaves a mesh that is clear
pub clear_after_moves : (m : Mesh) (moves : Shifts) → IsDistinct eqb (map (λ s. s.v) moves) → end_in_box m moves ≡ true → IsClearAlong m (moved_by m moves) → IsClearMesh (with_moves m moves)
clear_after_moves m moves once inside along p is meet =
    let w : Motion = moved_by m moves in
    along 1 1 (omega arith) (omega arith) p (pair_before_moves m moves p is)
    (subst MeetAt (same_positions (rest_positions (with_moves m moves)) (at_fraction 1 1 w) p (λ v. own-with_moves m moves v once inside ∙ sym (position_at-end (w.start v) (w.end v)))) meet)

-- where all live vertices move by one shift, the motion of a clear mesh is clear along
pub translation_clear_along : (m : Mesh) (shifts : Shifts) (t : Triple) → IsSound m → IsClearMesh m → ((v : ℕ) → IsLiveVertex m v → shift_at shifts v ≡ t) → IsClearAlong m (moved_by m shifts)
translation_clear_along m shifts t sound clear one p q some within pair is =
    let w : Motion = moved_by m shifts in
    let by : (v : ℕ) → IsLiveVertex m v → minus (w.end v) (w.start v) ≡ t = λ v live. minus-plus (rest_positions m v) (shift_at shifts v) ∙ one v live in
    let ends = edge_live m pair.name.a pair.name.b sound is.edge in
    let corners = sound.is_mesh.live_corners pair.name.face pair.corners is.face in
    let first = sym (by pair.name.a ends.0) in
    MoveTogether-never_meet (positions w.start pair) (positions w.end pair)
    (record {
      b = by pair.name.b ends.1 ∙ first;
      c = by pair.corners.first corners.0 ∙ first;
      d = by pair.corners.second corners.1 ∙ first;
      e = by pair.corners.third corners.2 ∙ first;
    })
    (clear pair is) p q some within
