-- A flip that passes no limit leaves a sound mesh.
use Rattle.std.proofs.Common.{◌≡◌, ◌≢◌, ℕ, ◌+◌, ◌<◌, Bool, true, false, nat_lt, [], ◌∷◌, inl, refl, sym, ◌∙◌, arith}
use Rattle.std.proofs.lemmas.Bool.{false≢true}
use Rattle.std.proofs.lemmas.Bool.Decides.{nat_tests}
use Rattle.mesh_base.specs.declared.ids.Corners.{Corners}
use Rattle.mesh_base.specs.Mesh.{Mesh, IsMesh, IsSound, HasCorners, equal_up_to_rotation}
use Rattle.mesh_base.specs.Sides.{follows, runs}
use Rattle.mesh_base.specs.Pairs.{is_edge}
use Rattle.mesh_base.specs.Changes.{without_face, IsFresh}
use Rattle.mesh_base.specs.Limits.{is_over_limits}
use Rattle.mesh_base.proofs.Finite.{got_after_remove}
use Rattle.edit_base.specs.Edges.{AreFresh, Edge, corners_from, without_faces}
use Rattle.edit_flip.specs.Flip.{flip_mesh}
use Rattle.edit_base.specs.Beside.{IsBeside}
use Rattle.edit_acts.proofs.Sound.{mesh-without_face, mesh-with_faces, still_fresh, not_over, next_face-with_faces, not_rotated}
use Rattle.edit_acts.proofs.FaceCorners.{runs_there}

-- corners that are those of a face, turned or not, have its second step
pub second_step : (c : Corners) (x y z : ℕ) → equal_up_to_rotation c (corners_from x y z) ≡ true → follows c y z ≡ true
second_step c x y z h = grind (arith, nat_tests)

-- no face has a step between two that are no edge
pub no_step : (m : Mesh) (u v : ℕ) → is_edge m u v ≡ false → (f : ℕ) (c : Corners) → HasCorners m f c → (follows c u v ≡ false) × (follows c v u ≡ false)
no_step m u v h f c there = (
  by_test (follows c u v) refl (λ e. let some = runs_there m f c u v there e in nothing (runs m u v) (runs m v u) h (omega arith)),
  by_test (follows c v u) refl (λ e. let some = runs_there m f c v u there e in nothing (runs m u v) (runs m v u) h (omega arith)),
)
  where
    by_test : {b : Bool} (t : Bool) → b ≡ t → (b ≡ true → ⊥) → b ≡ false
    by_test true e never = absurd (never e)
    by_test false e never = e

    nothing : (k l : ℕ) → nat_lt 0 (k + l) ≡ false → 0 < k + l → ⊥
    nothing k l h g = grind (arith, nat_tests)

module _ (m : Mesh) (s : Edge) (sound : IsSound m) (beside : IsBeside m s) (c_d : s.c ≢ s.d) (no_edge : is_edge m s.c s.d ≡ false) where
  abbrev bare : Mesh
  bare = without_faces m (s.left_face ∷ s.right_face ∷ [])

  abbrev one : Corners
  one = corners_from s.a s.d s.c

  abbrev two : Corners
  two = corners_from s.b s.c s.d

  bare_mesh : IsMesh bare
  bare_mesh = mesh-without_face (without_face m s.left_face) s.right_face (mesh-without_face m s.left_face sound.is_mesh)

  was : (f : ℕ) (c : Corners) → HasCorners bare f c → HasCorners m f c
  was f c h = (got_after_remove m.faces s.left_face f c (got_after_remove (without_face m s.left_face).faces s.right_face f c h).1).1

  not_true : (b : Bool) → (b ≡ true → ⊥) → b ≡ false
  not_true true never = absurd (never refl)
  not_true false never = refl

  pub fresh_one : IsFresh bare one
  fresh_one = record {
    live = (beside.a_live, beside.d_live, beside.c_live);
    different = record { first_second = beside.a_d; second_third = λ e. c_d (sym e); third_first = beside.c_a };
    new = λ f c h. not_true _ (λ e. false≢true (sym (no_step m s.c s.d no_edge f c (was f c h)).1 ∙ second_step c s.a s.d s.c e));
  }

  pub fresh_two : IsFresh bare two
  fresh_two = record {
    live = (beside.b_live, beside.c_live, beside.d_live);
    different = record { first_second = beside.b_c; second_third = c_d; third_first = beside.d_b };
    new = λ f c h. not_true _ (λ e. false≢true (sym (no_step m s.c s.d no_edge f c (was f c h)).0 ∙ second_step c s.b s.c s.d e));
  }

  pub one_two : equal_up_to_rotation one two ≡ false
  one_two = not_rotated s.a s.d s.c s.b s.c s.d (inl beside.a_b) (inl beside.d_b) (inl (λ e. beside.b_c (sym e)))

  -- the two faces may be made, one after the other
  pub both_fresh : AreFresh bare (one ∷ two ∷ [])
  both_fresh = (fresh_one, (still_fresh bare one two fresh_two one_two, tt))

  pub flip_is_sound : is_over_limits (flip_mesh m s) ≡ false → IsSound (flip_mesh m s)
  flip_is_sound fits = record {
    is_mesh = mesh-with_faces bare (one ∷ two ∷ []) bare_mesh sound.limits.face_ids.0 both_fresh;
    limits = not_over (flip_mesh m s) fits sound.limits.vertex_ids.0 (next_face-with_faces bare (one ∷ two ∷ []) sound.limits.face_ids.0) sound.limits.greatest;
  }
