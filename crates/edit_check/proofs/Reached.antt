-- A box that is widened has what it had.
use Rattle.std.proofs.Common.{◌≡◌, ℕ, ◌≤◌, ◌-◌, ◌==◌, ◌||◌, Bool, true, false, cond, List, [], ◌∷◌, Option, Some, is_some, nat_le, nat_lt, ⊎_elim, refl, ap, subst, arith}
use Rattle.std.specs.List.{All, list_any, filter, AllByRecursion}
use Rattle.std.specs.FinMap as finite
use Rattle.std.proofs.lemmas.Bool.{false≢true, or_cases, eqb-true}
use Rattle.std.proofs.lemmas.Bool.Decides.{nat_tests}
use Rattle.std.proofs.lemmas.List.Elements.{All-weaker, recursion_from_All}
use Rattle.grid_base.specs.declared.Extent.{Extent}
use Rattle.grid_base.specs.Extents.{IsIn}
use Rattle.grid_base.specs.Triples.{Triple}
use Rattle.mesh_base.specs.declared.ids.Corners.{Corners}
use Rattle.mesh_base.specs.Mesh.{Mesh, IsSound, HasCorners}
use Rattle.mesh_base.specs.Sides.{has_corner, faces_at, above}
use Rattle.mesh_base.proofs.Listed.{all_map, all_filter, at_key, at_live}
use Rattle.edit_base.specs.declared.Move.{Move}
use Rattle.edit_base.specs.Scaffold.{move_of, motion_by}
use Rattle.pair_paths.specs.declared.path.Path.{Path}
use Rattle.pair_paths.specs.declared.moving_parts.MovingFace.{MovingFace}
use Rattle.pair_paths.specs.Moving.{moving_face}
use Rattle.pair_paths.specs.Bounds.{HoldsPath, HoldsFace}
use Rattle.edit_check.specs.Touched.{is_moved}
use Rattle.edit_check.specs.Reach.{HasFace, HasFaceIn, Reaches, ReachesAt, ReachesMoves, ReachesTouched, Widens, old_ones}

-- ---- wider boxes
pub as_wide : (o : Option Extent) → Widens o o
as_wide o box is = (box, (is, λ p h. h))

pub wider_still : (o p q : Option Extent) → Widens o p → Widens p q → Widens o q
wider_still o p q first second box is =
    let one = first box is in
    let two = second one.0 one.1.0 in
    (two.0, (two.1.0, λ t h. two.1.1 t (one.1.1 t h)))

pub path_in : (w : Path) (box wide : Extent) → ((p : Triple) → IsIn box p → IsIn wide p) → HoldsPath w box → HoldsPath w wide
path_in w box wide has h = record { start = has w.start h.start; end = has w.end h.end }

pub face_in : (f : MovingFace) (box wide : Extent) → ((p : Triple) → IsIn box p → IsIn wide p) → HoldsFace f box → HoldsFace f wide
face_in f box wide has h = record { c = path_in f.c box wide has h.c; d = path_in f.d box wide has h.d; e = path_in f.e box wide has h.e }

pub has_in : (m : Mesh) (moves : List Move) (f : ℕ × Corners) (box wide : Extent) → ((p : Triple) → IsIn box p → IsIn wide p) → HasFace m moves f box → HasFace m moves f wide
has_in m moves f box wide has h = record {
  way = face_in (moving_face (motion_by m moves) f) box wide has h.way;
  standing = face_in (moving_face (motion_by m []) f) box wide has h.standing;
}

pub reaches_more : (m : Mesh) (moves : List Move) (o p : Option Extent) (f : ℕ) → Widens o p → Reaches m moves o f → Reaches m moves p f
reaches_more m moves o p f wide h c there =
    let old = h c there in
    let new = wide old.0 old.1.0 in
    (new.0, (new.1.0, has_in m moves (f, c) old.0 new.0 new.1.1 old.1.1))

pub all_reached_more : (m : Mesh) (moves : List Move) (o p : Option Extent) (fs : List ℕ) → Widens o p → All (Reaches m moves o) fs → All (Reaches m moves p) fs
all_reached_more m moves o p fs wide h = All-weaker (Reaches m moves o) (Reaches m moves p) (λ f r. reaches_more m moves o p f wide r) fs h

pub at_reached_more : (m : Mesh) (moves : List Move) (fresh_from : ℕ) (o p : Option Extent) (v : ℕ) → Widens o p → ReachesAt m moves fresh_from o v → ReachesAt m moves fresh_from p v
at_reached_more m moves fresh_from o p v wide h = all_reached_more m moves o p (old_ones fresh_from (faces_at m v)) wide h

pub all_at_more : (m : Mesh) (moves : List Move) (fresh_from : ℕ) (o p : Option Extent) (vs : List ℕ) → Widens o p → All (ReachesAt m moves fresh_from o) vs → All (ReachesAt m moves fresh_from p) vs
all_at_more m moves fresh_from o p vs wide h = All-weaker (ReachesAt m moves fresh_from o) (ReachesAt m moves fresh_from p) (λ v r. at_reached_more m moves fresh_from o p v wide r) vs h

pub all_moves_more : (m : Mesh) (moves : List Move) (fresh_from : ℕ) (o p : Option Extent) (ms : List Move) → Widens o p → All (λ move. ReachesAt m moves fresh_from o move.v) ms → All (λ move. ReachesAt m moves fresh_from p move.v) ms
all_moves_more m moves fresh_from o p ms wide h = All-weaker (λ move. ReachesAt m moves fresh_from o move.v) (λ move. ReachesAt m moves fresh_from p move.v) (λ move r. at_reached_more m moves fresh_from o p move.v wide r) ms h

-- ---- each touched face is reached
-- an old face at a vertex that is reached
at_vertex : (m : Mesh) (moves : List Move) (fresh_from : ℕ) (o : Option Extent) (v f : ℕ) (c : Corners) → ReachesAt m moves fresh_from o v → HasCorners m f c → has_corner c v ≡ true → nat_lt f fresh_from ≡ true → HasFaceIn m moves (f, c) o
at_vertex m moves fresh_from o v f c h there corner old =
    let P : ℕ → Type 0 = λ k. nat_lt k fresh_from ≡ true → Reaches m moves o k in
    at_key (λ e. has_corner e.1 v ≡ true → P e.0) m.faces f c
    (all_filter (λ e. P e.0) (λ e. has_corner e.1 v) (finite.entries m.faces)
    (all_map P (λ e. e.0) (filter (λ e. has_corner e.1 v) (finite.entries m.faces))
    (all_filter (Reaches m moves o) (λ k. nat_lt k fresh_from) (faces_at m v) (recursion_from_All (Reaches m moves o) (old_ones fresh_from (faces_at m v)) h))))
    there corner old c there

named : (P : Move → Type 0) (ms : List Move) (v : ℕ) → AllByRecursion P ms → is_some (move_of ms v) ≡ true → (move : Move) × ((move.v ≡ v) × P move)
named P [] v h e = absurd (false≢true e)
named P (x ∷ ms) v h e = by_test (named P ms v h.1) (x.v == v) refl e
  where
    by_test : (is_some (move_of ms v) ≡ true → (move : Move) × ((move.v ≡ v) × P move)) → (b : Bool) → (x.v == v) ≡ b → is_some (cond b (Some x) (move_of ms v)) ≡ true → (move : Move) × ((move.v ≡ v) × P move)
    by_test rest true t e = (x, (eqb-true x.v v t, h.0))
    by_test rest false t e = rest e

-- where the box has the old faces at each vertex that moves, it has those at one that does
pub at_one_moved : (m : Mesh) (moves : List Move) (fresh_from : ℕ) (o : Option Extent) (v : ℕ) → ReachesMoves m moves fresh_from o → is_moved moves v ≡ true → ReachesAt m moves fresh_from o v
at_one_moved m moves fresh_from o v moving e =
    let move = named (λ move. ReachesAt m moves fresh_from o move.v) moves v (recursion_from_All (λ move. ReachesAt m moves fresh_from o move.v) moves moving) e in
    subst (ReachesAt m moves fresh_from o) move.1.0 move.1.1

one_of : (P : ℕ → Type 0) (test : ℕ → Bool) (vs : List ℕ) → AllByRecursion P vs → list_any test vs ≡ true → (v : ℕ) × ((test v ≡ true) × P v)
one_of P test [] h e = absurd (false≢true e)
one_of P test (v ∷ vs) h e = ⊎_elim (λ t. (v, (t, h.0))) (λ t. one_of P test vs h.1 t) (or_cases (test v) (list_any test vs) e)

corner_first : (c : Corners) → has_corner c c.first ≡ true
corner_first c = grind (arith, nat_tests)

corner_second : (c : Corners) → has_corner c c.second ≡ true
corner_second c = grind (arith, nat_tests)

corner_third : (c : Corners) → has_corner c c.third ≡ true
corner_third c = grind (arith, nat_tests)

from_fresh : (n f : ℕ) → 1 ≤ f → nat_le n f ≡ true → nat_lt (n - 1) f ≡ true
from_fresh n f one h = grind (arith, nat_tests)

below_fresh : (n f : ℕ) → nat_le n f ≡ false → nat_lt f n ≡ true
below_fresh n f h = grind (arith, nat_tests)

module _ (m : Mesh) (moves : List Move) (together : List ℕ) (fresh_from : ℕ) (o : Option Extent) (sound : IsSound m)
    (new : All (Reaches m moves o) (above (fresh_from - 1) (finite.keys m.faces))) (moving : ReachesMoves m moves fresh_from o) (joined : All (ReachesAt m moves fresh_from o) together) where
  at_fresh : (f : ℕ) (c : Corners) → HasCorners m f c → nat_le fresh_from f ≡ true → HasFaceIn m moves (f, c) o
  at_fresh f c there e =
      at_live (λ k. nat_lt (fresh_from - 1) k ≡ true → Reaches m moves o k) m.faces f
      (all_filter (Reaches m moves o) (λ k. nat_lt (fresh_from - 1) k) (finite.keys m.faces) (recursion_from_All (Reaches m moves o) (above (fresh_from - 1) (finite.keys m.faces)) new))
      (ap is_some there) (from_fresh fresh_from f (sound.is_mesh.face_ids f (ap is_some there)).0 e) c there

  -- a face at a vertex that is reached, new or old
  at_either : (v f : ℕ) (c : Corners) → ReachesAt m moves fresh_from o v → HasCorners m f c → has_corner c v ≡ true → HasFaceIn m moves (f, c) o
  at_either v f c h there corner = by_test (nat_le fresh_from f) refl
    where
      by_test : (t : Bool) → nat_le fresh_from f ≡ t → HasFaceIn m moves (f, c) o
      by_test true e = at_fresh f c there e
      by_test false e = at_vertex m moves fresh_from o v f c h there corner (below_fresh fresh_from f e)

  at_moved : (v f : ℕ) (c : Corners) → HasCorners m f c → has_corner c v ≡ true → is_moved moves v ≡ true → HasFaceIn m moves (f, c) o
  at_moved v f c there corner e = at_either v f c (at_one_moved m moves fresh_from o v moving e) there corner

  at_joined : (f : ℕ) (c : Corners) → HasCorners m f c → list_any (λ v. has_corner c v) together ≡ true → HasFaceIn m moves (f, c) o
  at_joined f c there e =
      let v = one_of (ReachesAt m moves fresh_from o) (λ v. has_corner c v) together (recursion_from_All (ReachesAt m moves fresh_from o) together joined) e in
      at_either v.0 f c v.1.1 there v.1.0

  pub reached_touched : ReachesTouched m moves together fresh_from o
  reached_touched f c there h = ⊎_elim
      (λ four. ⊎_elim
      (λ three. ⊎_elim
      (λ two. ⊎_elim
      (λ e. at_fresh f c there e)
      (λ e. at_moved c.first f c there (corner_first c) e)
      (or_cases (nat_le fresh_from f) (is_moved moves c.first) two))
      (λ e. at_moved c.second f c there (corner_second c) e)
      (or_cases (nat_le fresh_from f || is_moved moves c.first) (is_moved moves c.second) three))
      (λ e. at_moved c.third f c there (corner_third c) e)
      (or_cases (nat_le fresh_from f || is_moved moves c.first || is_moved moves c.second) (is_moved moves c.third) four))
      (λ e. at_joined f c there e)
      (or_cases (nat_le fresh_from f || is_moved moves c.first || is_moved moves c.second || is_moved moves c.third) (list_any (λ v. has_corner c v) together) h)
