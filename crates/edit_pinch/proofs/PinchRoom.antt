-- What a pinch takes: a vertex for each later fan, and the ids of as many faces as those fans have; it has as many faces as before.
use Rattle.std.proofs.Common.{◌≡◌, ℕ, suc, ◌+◌, ◌<◌, Bool, cond, List, [], ◌∷◌, length, drop, map, Option, Some, None, is_some, refl, ap, ◌∙◌, arith}
use Rattle.std.specs.List.{fold, zip, enumerate_from}
use Rattle.std.specs.Ordering.{nat_cmp}
use Rattle.std.specs.Cmp.{nat_cmp_total}
use Rattle.std.specs.FinMap as finite
use Rattle.std.specs.FinMap.{FinMap, len-insert}
use Rattle.grid_base.specs.declared.Point.{Point}
use Rattle.mesh_base.specs.declared.ids.Corners.{Corners}
use Rattle.mesh_base.specs.Mesh.{Mesh, IsMesh, IsSound, IsLiveVertex, HasCorners}
use Rattle.mesh_base.specs.Sides.{IsClosed}
use Rattle.mesh_base.specs.Changes.{with_vertex, without_face, with_point}
use Rattle.mesh_base.specs.Limits.{are_over, is_over_limits}
use Rattle.edit_base.specs.Edges.{corners_at, renamed, with_renamed, with_all_renamed}
use Rattle.edit_pinch.specs.Pinch.{fans, fan_point, with_copy, pinch_mesh, pinch_scaffold, first_point, later_copies, copy_points}
use Rattle.edit_acts.proofs.Flow.{AreBelow, not_live, below-without}
use Rattle.edit_acts.proofs.Counting.{len-without}
use Rattle.edit_pinch.proofs.CopyClosed.{next_vertex-renamed, limits-copied, points-renamed}
use Rattle.edit_pinch.proofs.PinchSteps.{IsBeforeFan, IsInFan, first_fan, copy_made, next_made, fan_done}

len-with_new : {X : Type 0} (m : FinMap nat_cmp X) (k : ℕ) (v : X) → finite.get m k ≡ None → finite.len (finite.insert m k v) ≡ finite.len m + 1
len-with_new m k v none = len-insert nat_cmp_total m k v ∙ ap (λ b. cond b (finite.len m) (finite.len m + 1)) (ap is_some none)

-- ---- a face
len-renamed : (v w : ℕ) (n : Mesh) (f : ℕ) (c : Corners) → AreBelow n → HasCorners n f c → finite.len (with_renamed v w n f).faces ≡ finite.len n.faces
len-renamed v w n f c below there =
    let less = len-without n.faces f (ap is_some there) in
    let more = len-with_new (without_face n f).faces n.next_face (renamed v w (corners_at n f)) (not_live (without_face n f) (below-without n f below)) in
    omega (arith, less, more)

-- ---- a fan
pub len-fan : (m : Mesh) (v w : ℕ) (n : Mesh) (fan : List ℕ) (others : List (List ℕ)) → IsInFan m v w n fan others →
    (finite.len (with_all_renamed v w n fan).faces ≡ finite.len n.faces) × ((with_all_renamed v w n fan).next_face ≡ n.next_face + length fan) × IsBeforeFan m v (with_all_renamed v w n fan) others
len-fan m v w n [] others h = (refl, (let e : n.next_face ≡ n.next_face + 0 = omega arith in e), fan_done m v w n others h)
len-fan m v w n (f ∷ fs) others h =
    let rest = len-fan m v w (with_renamed v w n f) fs others (next_made m v w n f fs others h) in
    let one = len-renamed v w n f (corners_at m f) (λ g live. (h.well.is_mesh.face_ids g live).1) h.faces_there.0 in
    (rest.0 ∙ one, rest.1 ∙ one_more n.next_face (length fs) (length (f ∷ fs)) refl, rest.2)
  where
    one_more : (k l n : ℕ) → n ≡ suc l → k + 1 + l ≡ k + n
    one_more k l n e = omega arith

-- ---- the fans
-- how many faces the fans have
abbrev pub faces_in : List (List ℕ) → ℕ
faces_in [] = 0
faces_in (d ∷ ds) = length d + faces_in ds

-- the id that the next vertex gets is no vertex
next_is_no_vertex : (n : Mesh) → IsMesh n → finite.get n.points n.next_vertex ≡ None
next_is_no_vertex n mesh = by_answer (finite.get n.points n.next_vertex) refl
  where
    by_answer : (o : Option Point) → finite.get n.points n.next_vertex ≡ o → o ≡ None
    by_answer (Some p) e = let h : n.next_vertex < n.next_vertex = (mesh.vertex_ids n.next_vertex (ap is_some e)).1 in absurd (omega arith)
    by_answer None e = refl

pub record AreCounts (n k : Mesh) (copies faces : ℕ) : Type 0 where
  pub vertices : finite.len k.points ≡ finite.len n.points + copies
  pub faces_same : finite.len k.faces ≡ finite.len n.faces
  pub vertex_ids : k.next_vertex ≡ n.next_vertex + copies
  pub face_ids : k.next_face ≡ n.next_face + faces

counts_of_copies : (m : Mesh) (v : ℕ) → IsMesh m → (n : Mesh) (others : List (List ℕ)) (points : List Point) → length points ≡ length others → IsBeforeFan m v n others →
    AreCounts n (fold (with_copy v) n (zip others points)) (length others) (faces_in others)
counts_of_copies m v mesh n [] points same h = record {
  vertices = let e : finite.len n.points ≡ finite.len n.points + 0 = omega arith in e;
  faces_same = refl;
  vertex_ids = let e : n.next_vertex ≡ n.next_vertex + 0 = omega arith in e;
  face_ids = let e : n.next_face ≡ n.next_face + 0 = omega arith in e;
}
counts_of_copies m v mesh n (d ∷ ds) [] same h = absurd (omega arith)
counts_of_copies m v mesh n (d ∷ ds) (p ∷ ps) same h =
    let w = n.next_vertex in
    let fan = len-fan m v w (with_vertex n p) d ds (copy_made m v n d ds p mesh h) in
    let rest = counts_of_copies m v mesh (with_copy v n (d, p)) ds ps (let e : length ps ≡ length ds = omega (arith, same) in e) fan.2 in
    let new = len-with_new n.points w p (next_is_no_vertex n h.well.is_mesh) in
    let points = ap finite.len (points-renamed v w (with_vertex n p) d) in
    let ids = next_vertex-renamed v w (with_vertex n p) d in
    let a = rest.vertices in
    let b = rest.vertex_ids in
    let c = rest.face_ids in
    let k = fan.1 in
    record {
      vertices = omega (arith, a, new, points);
      faces_same = rest.faces_same ∙ fan.0;
      vertex_ids = omega (arith, b, ids);
      face_ids = omega (arith, c, k);
    }

-- a pinch would pass a limit
abbrev pub pinch_is_over : Mesh → ℕ → Bool
pinch_is_over m v =
    let others = drop 1 (fans m v) in
    are_over m.limits (finite.len m.points + length others) (finite.len m.faces) (m.next_vertex + length others) (m.next_face + faces_in others)

pub pinch_over : (m : Mesh) (v : ℕ) (at : Point) (points : List Point) → IsSound m → IsClosed m → IsLiveVertex m v → length points ≡ length (drop 1 (fans m v)) → is_over_limits (pinch_mesh m v at points) ≡ pinch_is_over m v
pinch_over m v at points sound closed live same =
    let counts = counts_of_copies m v sound.is_mesh (with_point m v at) (drop 1 (fans m v)) points same (first_fan m v at sound closed live) in
    let there : finite.len (finite.insert m.points v at) ≡ finite.len m.points = len-insert nat_cmp_total m.points v at ∙ ap (λ b. cond b (finite.len m.points) (finite.len m.points + 1)) live in
    λ i. are_over (limits-copied v (with_point m v at) (zip (drop 1 (fans m v)) points) i) ((counts.vertices ∙ ap (λ k. k + length (drop 1 (fans m v))) there) i) (counts.faces_same i) (counts.vertex_ids i) (counts.face_ids i)

-- the scaffold's points are as many as its copies
as_many : (m : Mesh) (v k : ℕ) (others : List (List ℕ)) → length (copy_points (map (λ (e : ℕ × List ℕ). record { w = e.0; at = fan_point m v e.1 }) (enumerate_from k others))) ≡ length others
as_many m v k [] = refl
as_many m v k (d ∷ ds) = ap suc (as_many m v (k + 1) ds)

pub scaffold_over : (m : Mesh) (v : ℕ) → IsSound m → IsClosed m → IsLiveVertex m v → is_over_limits (pinch_scaffold m v).mesh ≡ pinch_is_over m v
scaffold_over m v sound closed live = pinch_over m v (first_point m v) (copy_points (later_copies m v)) sound closed live (as_many m v m.next_vertex (drop 1 (fans m v)))
