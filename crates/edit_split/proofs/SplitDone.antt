-- What a done split leaves.
use Rattle.std.proofs.Common.{◌≡◌, ℕ, Bool, true, false, not, min, max, [], ◌∷◌, None, sym, ap, subst, ◌∙◌}
use Rattle.std.proofs.lemmas.Bool.{not-false}
use Rattle.grid_base.specs.declared.Positions.{Positions}
use Rattle.grid_base.specs.SeparationTests.{IsExact}
use Rattle.mesh_base.specs.Mesh.{Mesh, IsSound}
use Rattle.mesh_base.specs.Sides.{IsClosed}
use Rattle.mesh_base.specs.Pairs.{is_edge, is_crowded}
use Rattle.mesh_base.specs.Placements.{IsClearMesh, IsClearAlong}
use Rattle.mesh_base.specs.Limits.{is_over_limits}
use Rattle.edit_base.specs.declared.answers.Why.TheVariants.{NoEdge, Crowded, Full, Hit}
use Rattle.edit_base.specs.declared.answers.Change.{Change}
use Rattle.edit_base.specs.declared.answers.Edit.TheVariants.{Done}
use Rattle.edit_base.specs.Reasons.{reason_if, hit_in}
use Rattle.edit_base.specs.Scaffold.{first_failing, motion_of}
use Rattle.edit_base.specs.Edges.{edge_of}
use Rattle.edit_split.specs.Split.{split_mesh, split_point, split_scaffold}
use Rattle.edit_split.specs.Done.{split_result, split_tested_on, IsSplit}
use Rattle.edit_split.specs.Answer.{split_answer}
use Rattle.edit_base.specs.Clauses.{MovesClear}
use Rattle.edit_base.specs.Laws.{StaysSound, StaysClosed, StaysClear, MotionIsClear, AlwaysMakes}
use Rattle.edit_base.proofs.Clear.{none_failing_is_clear, no_name}
use Rattle.edit_base.proofs.ReasonLaws.{done_is, none_first, does_not_hold, edge_again}
use Rattle.edit_acts.proofs.Flow.{below_next}
use Rattle.edit_base.specs.Beside.{IsBeside}
use Rattle.edit_split.proofs.SplitClosed.{split_is_closed}
use Rattle.edit_base.proofs.Beside.{beside_of}
use Rattle.edit_split.proofs.SplitSound.{split_is_sound}
use Rattle.edit_split.proofs.SplitEnds.{split_is_clear}

module _ (meets : Positions → Bool) (u v depth : ℕ) (m : Mesh) (change : Change) (sound : IsSound m) (closed : IsClosed m) (done : split_answer meets m u v depth ≡ Done change) where
  -- no reason holds, and the change is the split's
  facts : (is_edge m (min u v) (max u v) ≡ true) × (is_over_limits (split_scaffold m (edge_of m u v)).mesh ≡ false) × (first_failing meets (split_scaffold m (edge_of m u v)) depth ≡ None) × (split_result m change ≡ split_mesh m (edge_of m u v) (split_point m (edge_of m u v)))
  facts =
      let e = edge_of m u v in
      let scaffold = split_scaffold m e in
      let hits = hit_in meets scaffold depth ∷ [] in
      let fulls = reason_if (is_over_limits scaffold.mesh) Full ∷ hits in
      let crowds = reason_if (is_crowded m e.a e.b) Crowded ∷ fulls in
      let four = done_is _ _ _ done in
      let three = none_first (reason_if (not (is_edge m e.a e.b)) NoEdge) crowds four.0 in
      let two = none_first (reason_if (is_crowded m e.a e.b) Crowded) fulls three.1 in
      let one = none_first (reason_if (is_over_limits scaffold.mesh) Full) hits two.1 in
      let last = none_first (hit_in meets scaffold depth) [] one.1 in (
        not-false _ (does_not_hold _ _ three.0),
        does_not_hold _ _ one.0,
        no_name (λ p. Hit p) (first_failing meets scaffold depth) last.0,
        ap (split_result m) (sym four.1) ∙ ap (λ e. split_mesh m e (split_point m (edge_of m u v))) (edge_again m u v),
      )

  beside : IsBeside m (edge_of m u v)
  beside = beside_of m u v sound closed facts.0

  after : IsSound (split_mesh m (edge_of m u v) (split_point m (edge_of m u v)))
  after = split_is_sound m (edge_of m u v) (split_point m (edge_of m u v)) sound beside facts.1

  pub split_leaves_sound : IsSound (split_result m change)
  split_leaves_sound = subst IsSound (sym facts.3) after

  pub split_leaves_closed : IsClosed (split_result m change)
  split_leaves_closed = subst IsClosed (sym facts.3)
      (split_is_closed m (edge_of m u v) (split_point m (edge_of m u v)) (below_next m sound) beside closed)

  pub split_leaves_clear : IsExact meets → IsClearMesh (split_result m change)
  split_leaves_clear exact = subst IsClearMesh (sym facts.3)
      (split_is_clear m (edge_of m u v) (none_failing_is_clear meets exact (split_scaffold m (edge_of m u v)) depth after facts.2))

  -- the motion clause
  pub split_moves_clear : IsExact meets → MovesClear split_tested_on m change
  split_moves_clear exact = subst (MovesClear split_tested_on m) (done_is _ _ _ done).1
      (subst (λ e. IsClosed (split_scaffold m e).mesh × IsClearAlong (split_scaffold m e).mesh (motion_of (split_scaffold m e))) (sym (edge_again m u v))
      (subst IsClosed facts.3 split_leaves_closed, none_failing_is_clear meets exact (split_scaffold m (edge_of m u v)) depth after facts.2))

pub split_stays_sound : (meets : Positions → Bool) (u v depth : ℕ) → StaysSound split_result (λ m. split_answer meets m u v depth)
split_stays_sound meets u v depth m change sound closed done = split_leaves_sound meets u v depth m change sound closed done

pub split_stays_closed : (meets : Positions → Bool) (u v depth : ℕ) → StaysClosed split_result (λ m. split_answer meets m u v depth)
split_stays_closed meets u v depth m change sound closed done = split_leaves_closed meets u v depth m change sound closed done

pub split_stays_clear : (meets : Positions → Bool) → IsExact meets → (u v depth : ℕ) → StaysClear split_result (λ m. split_answer meets m u v depth)
split_stays_clear meets exact u v depth m change sound closed clear done = split_leaves_clear meets u v depth m change sound closed done exact

pub split_motion_is_clear : (meets : Positions → Bool) → IsExact meets → (u v depth : ℕ) → MotionIsClear split_tested_on (λ m. split_answer meets m u v depth)
split_motion_is_clear meets exact u v depth m change sound closed done = split_moves_clear meets u v depth m change sound closed done exact

-- its change is a split
pub split_always_makes : (meets : Positions → Bool) (u v depth : ℕ) → AlwaysMakes IsSplit (λ m. split_answer meets m u v depth)
split_always_makes meets u v depth m change done = subst IsSplit (done_is _ _ _ done).1 tt
