-- What a pinch leaves of the old mesh: a face below its next id is a face of it, and a vertex other than the pinched one stands where it did.
use Rattle.std.proofs.Common.{◌≡◌, ◌≢◌, ℕ, ◌+◌, ◌<◌, ◌≤◌, false, cond, ◌==◌, List, [], ◌∷◌, drop, Some, ⊎_elim, ap, ◌∙◌, arith}
use Rattle.std.proofs.lemmas.Bool.Decides.{nat_tests}
use Rattle.std.specs.List.{fold, zip}
use Rattle.std.specs.Cmp.{nat_cmp_total, unsigned_tied}
use Rattle.std.specs.FinMap as finite
use Rattle.std.specs.FinMap.{get-insert}
use Rattle.grid_base.specs.declared.Point.{Point}
use Rattle.mesh_base.specs.declared.ids.Corners.{Corners}
use Rattle.mesh_base.specs.Mesh.{Mesh, HasCorners}
use Rattle.mesh_base.specs.Changes.{without_face, with_vertex, with_point}
use Rattle.mesh_base.specs.Placements.{rest_positions, position_or_origin}
use Rattle.mesh_base.proofs.Finite.{got_after_insert, got_after_remove}
use Rattle.edit_base.specs.Edges.{corners_at, renamed, with_renamed, with_all_renamed}
use Rattle.edit_pinch.specs.Pinch.{with_copy, pinch_mesh, fans}
use Rattle.edit_pinch.proofs.PinchDone.{kept_point}

-- ---- faces
old_after_one : (v w : ℕ) (n : Mesh) (g f : ℕ) (c : Corners) → HasCorners (with_renamed v w n g) f c → f < n.next_face → HasCorners n f c
old_after_one v w n g f c there below = ⊎_elim
    (λ e. let same : f ≡ n.next_face = e.0 in absurd (omega arith))
    (λ old. (got_after_remove n.faces g f c old).1)
    (got_after_insert (without_face n g).faces n.next_face (renamed v w (corners_at n g)) f c there)

old_after_all : (v w : ℕ) (n : Mesh) (gs : List ℕ) (f : ℕ) (c : Corners) → HasCorners (with_all_renamed v w n gs) f c → f < n.next_face → HasCorners n f c
old_after_all v w n [] f c there below = there
old_after_all v w n (g ∷ gs) f c there below =
    old_after_one v w n g f c (old_after_all v w (with_renamed v w n g) gs f c there (let h : f < n.next_face + 1 = omega arith in h)) below

next_face_grows : (v w : ℕ) (n : Mesh) (gs : List ℕ) → n.next_face ≤ (with_all_renamed v w n gs).next_face
next_face_grows v w n [] = omega arith
next_face_grows v w n (g ∷ gs) = let rest : n.next_face + 1 ≤ (with_all_renamed v w (with_renamed v w n g) gs).next_face = next_face_grows v w (with_renamed v w n g) gs in omega (arith, rest)

old_after_copies : (v : ℕ) (n : Mesh) (others : List (List ℕ)) (points : List Point) (f : ℕ) (c : Corners) → HasCorners (fold (with_copy v) n (zip others points)) f c → f < n.next_face → HasCorners n f c
old_after_copies v n [] points f c there below = there
old_after_copies v n (d ∷ ds) [] f c there below = there
old_after_copies v n (d ∷ ds) (p ∷ ps) f c there below =
    let more = next_face_grows v n.next_vertex (with_vertex n p) d in
    old_after_all v n.next_vertex (with_vertex n p) d f c
    (old_after_copies v (with_copy v n (d, p)) ds ps f c there (omega (arith, below, more))) below

pub old_faces : (m : Mesh) (v : ℕ) (at : Point) (points : List Point) (f : ℕ) (c : Corners) → HasCorners (pinch_mesh m v at points) f c → f < m.next_face → HasCorners m f c
old_faces m v at points f c there below = old_after_copies v (with_point m v at) (drop 1 (fans m v)) points f c there below

-- ---- vertices
pub old_points : (m : Mesh) (v : ℕ) (at : Point) (points : List Point) (u : ℕ) → u < m.next_vertex → u ≢ v → rest_positions (pinch_mesh m v at points) u ≡ rest_positions m u
old_points m v at points u below apart = ap position_or_origin
    (kept_point v (with_point m v at) (drop 1 (fans m v)) points u below
    ∙ get-insert nat_cmp_total m.points v at u
    ∙ ap (λ b. cond b (Some at) (finite.get m.points u)) (unsigned_tied u v ∙ untied u v apart))
  where
    untied : (x y : ℕ) → x ≢ y → (x == y) ≡ false
    untied x y h = grind (arith, nat_tests)
