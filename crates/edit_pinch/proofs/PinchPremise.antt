-- A mesh of which a vertex is pinched agrees with it, but for new faces and moved vertices.
use Rattle.std.proofs.Common.{◌≡◌, ◌≢◌, ℕ, ◌==◌, Bool, true, false, cond, List, Option, Some, None, subst, arith}
use Rattle.std.proofs.lemmas.Bool.{false≢true}
use Rattle.std.proofs.lemmas.Bool.Decides.{nat_tests}
use Rattle.grid_base.specs.declared.Point.{Point}
use Rattle.mesh_base.specs.Mesh.{Mesh, IsSound}
use Rattle.mesh_base.specs.Placements.{IsClearMesh}
use Rattle.edit_base.specs.declared.Move.{Move}
use Rattle.edit_base.specs.Scaffold.{move_of}
use Rattle.edit_pinch.specs.Pinch.{pinch_mesh, pinch_scaffold, first_point, later_copies, copy_points}
use Rattle.edit_pinch.proofs.PinchOld.{old_faces, old_points}
use Rattle.edit_check.specs.Untouched.{IsClearWhereUntouched}
use Rattle.edit_check.specs.Agreeing.{AgreesWhereOld}
use Rattle.edit_check.proofs.Premise.{agreeing_is}

-- where the pinched vertex is named among those that move
pub pinch_changed : (m : Mesh) (v : ℕ) (at : Point) (points : List Point) (moves : List Move) → move_of moves v ≢ None → AgreesWhereOld m (pinch_mesh m v at points) moves
pinch_changed m v at points moves named = record {
  faces = λ f c there below. old_faces m v at points f c there below;
  points = λ u below rests. old_points m v at points u below (λ e. named (subst (λ x. move_of moves x ≡ None) e rests));
}

some_first : {X : Type 0} (x : X) (o : Option X) (b : Bool) → b ≡ true → cond b (Some x) o ≡ None → ⊥
some_first x o true e h = cc
some_first x o false e h = false≢true e

itself : (p : ℕ) → (p == p) ≡ true
itself p = grind (arith, nat_tests)

-- the scaffold of a pinch names it
named_first : (m : Mesh) (v : ℕ) → move_of (pinch_scaffold m v).moves v ≢ None
named_first m v = some_first _ _ (v == v) (itself v)

pub pinch_scaffold_agrees : (m : Mesh) (v : ℕ) → AgreesWhereOld m (pinch_scaffold m v).mesh (pinch_scaffold m v).moves
pinch_scaffold_agrees m v = pinch_changed m v (first_point m v) (copy_points (later_copies m v)) (pinch_scaffold m v).moves (named_first m v)

-- so a pinch of a clear mesh may be checked, where the faces that it makes are new
pub pinch_may_be_checked : (m : Mesh) (v : ℕ) → IsSound m → IsClearMesh m → IsClearWhereUntouched (pinch_scaffold m v).mesh (pinch_scaffold m v).moves m.next_face
pinch_may_be_checked m v sound clear = agreeing_is m (pinch_scaffold m v).mesh (pinch_scaffold m v).moves sound clear (pinch_scaffold_agrees m v)
