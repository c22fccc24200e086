-- How many faces a mesh has after a flip, and when it passes a limit.
use Rattle.std.proofs.Common.{◌≡◌, ℕ, ◌+◌, ◌≤◌, Bool, true, false, ◌||◌, nat_lt, refl, sym, ap, ◌∙◌, arith}
use Rattle.std.proofs.lemmas.Bool.Decides.{nat_tests}
use Rattle.std.specs.FinMap as finite
use Rattle.grid_base.specs.declared.TheConstants.{ID_MAX}
use Rattle.grid_base.specs.declared.Point.{Point}
use Rattle.mesh_base.specs.Mesh.{Mesh, IsSound}
use Rattle.mesh_base.specs.Limits.{is_over_limits}
use Rattle.edit_base.specs.Edges.{Edge}
use Rattle.edit_split.specs.Split.{split_mesh, split_is_over}
use Rattle.edit_flip.specs.Flip.{flip_faces, flip_mesh}
use Rattle.edit_base.specs.Reasons.{is_full}
use Rattle.edit_base.specs.Beside.{IsBeside}
use Rattle.edit_acts.proofs.Counting.{len-with_faces}
use Rattle.edit_split.proofs.SplitCounts.{bare, bare_below, len-bare, split_over, ids_for_four}

lies_within : (n v : ℕ) → v ≤ n → nat_lt n v ≡ false
lies_within n v h = grind (arith, nat_tests)

none : (a b c d : Bool) → a ≡ false → b ≡ false → c ≡ false → d ≡ false → (a || b || c || d) ≡ false
none a b c d e f g h = cc

two_of : (n : ℕ) → n + 4 ≤ ID_MAX + 1 → n + 1 + 1 ≤ ID_MAX + 1
two_of n h = omega arith

module _ (m : Mesh) (s : Edge) (sound : IsSound m) (beside : IsBeside m s) where
  len-flipped : finite.len (flip_mesh m s).faces ≡ finite.len m.faces
  len-flipped = two_more _ _ _ (len-bare m s sound beside) (len-with_faces (bare m s sound beside) (flip_faces s) (bare_below m s sound beside))
    where
      two_more : (bare all now : ℕ) → bare + 2 ≡ all → now ≡ bare + 2 → now ≡ all
      two_more bare all now e g = omega arith

  -- where a split passes no limit, a flip passes none
  pub flip_fits : split_is_over m ≡ false → is_over_limits (flip_mesh m s) ≡ false
  flip_fits e =
      let ids = ids_for_four m s sound beside e in
      none _ _ _ _
      (lies_within m.limits.vertices (finite.len m.points) sound.limits.vertices)
      (ap (nat_lt m.limits.faces) len-flipped ∙ lies_within m.limits.faces (finite.len m.faces) sound.limits.faces)
      (lies_within (ID_MAX + 1) m.next_vertex sound.limits.vertex_ids.1)
      (lies_within (ID_MAX + 1) (m.next_face + 1 + 1) (two_of m.next_face ids))

  -- so a flip's result takes no more than its scaffold
  pub flip_over : (at : Point) → is_full (split_mesh m s at) (flip_mesh m s) ≡ split_is_over m
  flip_over at = ap (λ b. b || is_over_limits (flip_mesh m s)) (split_over m s sound beside at) ∙ by_test (split_is_over m) refl
    where
      by_test : (b : Bool) → split_is_over m ≡ b → (b || is_over_limits (flip_mesh m s)) ≡ split_is_over m
      by_test true e = sym e
      by_test false e = flip_fits e ∙ sym e
