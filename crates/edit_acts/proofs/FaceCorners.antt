-- The corners of a face.
use Rattle.std.proofs.Common.{◌≡◌, ◌≢◌, ℕ, zero, suc, ◌+◌, ◌<◌, true, false, cond, ◌&&◌, ◌||◌, ◌==◌, Some, ◌⊎◌, ⊎_elim, inl, inr, sym, ap, ◌∙◌, arith}
use Rattle.std.proofs.lemmas.Bool.{eqb-true}
use Rattle.std.proofs.lemmas.Bool.Decides.{nat_tests}
use Rattle.mesh_base.specs.declared.ids.Corners.{Corners}
use Rattle.mesh_base.specs.Mesh.{Mesh, HasCorners}
use Rattle.mesh_base.specs.Sides.{has_corner, follows, runs, IsEdge}
use Rattle.mesh_base.specs.Changes.{without_face}
use Rattle.mesh_base.proofs.Counts.{runs-without_face}
use Rattle.mesh_base.proofs.Listed.{and_first, and_second, or_either}
use Rattle.edit_base.specs.Edges.{corners_from}

-- what is no corner differs from each
pub no_corner : (c : Corners) (v : ℕ) → has_corner c v ≡ false → (c.first ≢ v) × (c.second ≢ v) × (c.third ≢ v)
no_corner c v h = (λ e. grind (arith, nat_tests), λ e. grind (arith, nat_tests), λ e. grind (arith, nat_tests))

-- a face has one list of corners
pub same_corners : (m : Mesh) (f : ℕ) (c d : Corners) → HasCorners m f c → HasCorners m f d → c ≡ d
same_corners m f c d h k = let both : Some c ≡ Some d = sym h ∙ k in cc

-- a face with that step runs so
pub runs_there : (m : Mesh) (f : ℕ) (c : Corners) (u v : ℕ) → HasCorners m f c → follows c u v ≡ true → 0 < runs m u v
runs_there m f c u v there step =
    let count = runs-without_face m f c u v there in
    let one : ◌≡◌ {A = ℕ} (cond (follows c u v) 1 0) 1 = ap (λ t. cond t 1 0) step in
    some (runs (without_face m f) u v) (cond (follows c u v) 1 0) (runs m u v) count one
  where
    some : (k w l : ℕ) → k + w ≡ l → w ≡ 1 → 0 < l
    some k w l e g = omega arith

-- ---- the steps of a face, and the edges that they make
pub step_one : (x y z : ℕ) → follows (corners_from x y z) x y ≡ true
step_one x y z = grind (arith, nat_tests)

pub step_two : (x y z : ℕ) → follows (corners_from x y z) y z ≡ true
step_two x y z = grind (arith, nat_tests)

pub step_three : (x y z : ℕ) → follows (corners_from x y z) z x ≡ true
step_three x y z = grind (arith, nat_tests)

-- the step of three corners
pub steps_of : (x y z u v : ℕ) → follows (corners_from x y z) u v ≡ true → ((x ≡ u) × (y ≡ v)) ⊎ (((y ≡ u) × (z ≡ v)) ⊎ ((z ≡ u) × (x ≡ v)))
steps_of x y z u v h = ⊎_elim
    (λ two. ⊎_elim
    (λ e. inl (eqb-true x u (and_first (x == u) (y == v) e), eqb-true y v (and_second (x == u) (y == v) e)))
    (λ e. inr (inl (eqb-true y u (and_first (y == u) (z == v) e), eqb-true z v (and_second (y == u) (z == v) e))))
    (or_either (x == u && y == v) (y == u && z == v) two))
    (λ e. inr (inr (eqb-true z u (and_first (z == u) (x == v) e), eqb-true x v (and_second (z == u) (x == v) e))))
    (or_either ((x == u && y == v) || (y == u && z == v)) (z == u && x == v) h)

pub either_way : (k l : ℕ) → 0 < k + l → (0 < k) ⊎ (0 < l)
either_way zero l h = inr (omega arith)
either_way (suc k) l h = inl (omega arith)

pub edge_of_step : (m : Mesh) (f : ℕ) (c : Corners) (u v : ℕ) → HasCorners m f c → follows c u v ≡ true → IsEdge m u v
edge_of_step m f c u v there step = let some = runs_there m f c u v there step in omega arith

pub edge_turned : (m : Mesh) (u v : ℕ) → IsEdge m u v → IsEdge m v u
edge_turned m u v h = omega arith
