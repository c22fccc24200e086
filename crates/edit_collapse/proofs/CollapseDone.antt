-- The motion of a done collapse is clear.
use Rattle.std.proofs.Common.{◌≡◌, ℕ, Bool, not, min, max, [], ◌∷◌, subst}
use Rattle.grid_base.specs.declared.Positions.{Positions}
use Rattle.grid_base.specs.SeparationTests.{IsExact}
use Rattle.mesh_base.specs.Mesh.{Mesh, IsSound}
use Rattle.mesh_base.specs.Sides.{IsClosed}
use Rattle.mesh_base.specs.Pairs.{is_edge}
use Rattle.edit_base.specs.declared.answers.Why.TheVariants.{NoEdge, Solid, Full, Doubled, Hit}
use Rattle.edit_base.specs.declared.answers.Change.{Change}
use Rattle.edit_base.specs.declared.answers.Edit.TheVariants.{Done}
use Rattle.edit_base.specs.Reasons.{reason_if, hit_in, is_full}
use Rattle.edit_base.specs.Scaffold.{first_failing}
use Rattle.edit_base.specs.Edges.{doubles_a_face}
use Rattle.edit_collapse.specs.Collapse.{are_both_solid, collapse_mesh, collapse_point, collapse_scaffold, joined_faces}
use Rattle.edit_collapse.specs.Answer.{collapse_answer}
use Rattle.edit_base.specs.Clauses.{MovesClear}
use Rattle.edit_base.specs.Laws.{MotionIsClear, AlwaysMakes}
use Rattle.edit_collapse.specs.Done.{collapse_tested_on, IsCollapse}
use Rattle.edit_base.proofs.Clear.{none_failing_is_clear, no_name}
use Rattle.edit_base.proofs.ReasonLaws.{done_is, none_first}

-- its scaffold is the old mesh
module _ (meets : Positions → Bool) (u v depth : ℕ) (m : Mesh) (change : Change) (sound : IsSound m) (closed : IsClosed m) (done : collapse_answer meets m u v depth ≡ Done change) where
  -- the motion clause
  pub collapse_moves_clear : IsExact meets → MovesClear collapse_tested_on m change
  collapse_moves_clear exact =
      let a = min u v in
      let b = max u v in
      let scaffold = collapse_scaffold m a b (collapse_point m a b) in
      let hits = hit_in meets scaffold depth ∷ [] in
      let fulls = reason_if (is_full scaffold.mesh (collapse_mesh m a b (collapse_point m a b))) Full ∷ hits in
      let doubles = reason_if (doubles_a_face (joined_faces m a b)) Doubled ∷ fulls in
      let solids = reason_if (are_both_solid m a b) Solid ∷ doubles in
      let five = done_is _ _ _ done in
      let four = none_first (reason_if (not (is_edge m a b)) NoEdge) solids five.0 in
      let three = none_first (reason_if (are_both_solid m a b) Solid) doubles four.1 in
      let two = none_first (reason_if (doubles_a_face (joined_faces m a b)) Doubled) fulls three.1 in
      let one = none_first (reason_if (is_full scaffold.mesh (collapse_mesh m a b (collapse_point m a b))) Full) hits two.1 in
      let last = none_first (hit_in meets scaffold depth) [] one.1 in
      subst (MovesClear collapse_tested_on m) five.1 (closed, none_failing_is_clear meets exact scaffold depth sound (no_name (λ p. Hit p) (first_failing meets scaffold depth) last.0))

pub collapse_motion_is_clear : (meets : Positions → Bool) → IsExact meets → (u v depth : ℕ) → MotionIsClear collapse_tested_on (λ m. collapse_answer meets m u v depth)
collapse_motion_is_clear meets exact u v depth m change sound closed done = collapse_moves_clear meets u v depth m change sound closed done exact

-- its change is a collapse
pub collapse_always_makes : (meets : Positions → Bool) (u v depth : ℕ) → AlwaysMakes IsCollapse (λ m. collapse_answer meets m u v depth)
collapse_always_makes meets u v depth m change done = subst IsCollapse (done_is _ _ _ done).1 tt
