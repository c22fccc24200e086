-- What a done flip leaves.
use Rattle.std.proofs.Common.{◌≡◌, ◌≢◌, ℕ, Bool, true, false, not, ◌||◌, ◌==◌, min, max, [], ◌∷◌, None, sym, ap, subst, ◌∙◌}
use Rattle.std.proofs.lemmas.Bool.{not-false, eqb-false}
use Rattle.grid_base.specs.declared.Positions.{Positions}
use Rattle.grid_base.specs.SeparationTests.{IsExact}
use Rattle.mesh_base.specs.Mesh.{Mesh, IsSound}
use Rattle.mesh_base.specs.Sides.{IsClosed}
use Rattle.mesh_base.specs.Pairs.{is_edge, is_crowded}
use Rattle.mesh_base.specs.Placements.{IsClearMesh, IsClearAlong}
use Rattle.mesh_base.specs.Limits.{is_over_limits}
use Rattle.edit_base.specs.declared.answers.Why.TheVariants.{NoEdge, Crowded, Full, Hit, Edge as IsAnEdge}
use Rattle.edit_base.specs.declared.answers.Change.{Change}
use Rattle.edit_base.specs.declared.answers.Edit.TheVariants.{Done}
use Rattle.edit_base.specs.Reasons.{reason_if, hit_in, is_full}
use Rattle.edit_base.specs.Scaffold.{first_failing, motion_of}
use Rattle.edit_base.specs.Edges.{edge_of}
use Rattle.edit_split.specs.Split.{split_point}
use Rattle.edit_flip.specs.Flip.{flip_mesh, flip_scaffold}
use Rattle.edit_flip.specs.Done.{flip_result, flip_tested_on, IsFlip}
use Rattle.edit_flip.specs.Answer.{flip_answer}
use Rattle.edit_base.specs.Clauses.{MovesClear}
use Rattle.edit_base.specs.Laws.{StaysSound, StaysClosed, StaysClear, MotionIsClear, AlwaysMakes}
use Rattle.edit_base.proofs.Clear.{none_failing_is_clear, no_name}
use Rattle.edit_base.proofs.ReasonLaws.{done_is, none_first, does_not_hold, first_false, second_false, edge_again}
use Rattle.edit_acts.proofs.Flow.{below_next}
use Rattle.edit_base.specs.Beside.{IsBeside}
use Rattle.edit_split.proofs.SplitClosed.{split_is_closed}
use Rattle.edit_flip.proofs.FlipClosed.{flip_is_closed}
use Rattle.edit_base.proofs.Beside.{beside_of}
use Rattle.edit_split.proofs.SplitSound.{split_is_sound}
use Rattle.edit_flip.proofs.FlipSound.{flip_is_sound}
use Rattle.edit_flip.proofs.FlipClear.{flip_is_clear}

module _ (meets : Positions → Bool) (u v depth : ℕ) (m : Mesh) (change : Change) (sound : IsSound m) (closed : IsClosed m) (done : flip_answer meets m u v depth ≡ Done change) where
  -- no reason holds, and the change is the flip's
  record Facts : Type 0 where
    pub edge : is_edge m (min u v) (max u v) ≡ true
    pub c_d : (edge_of m u v).c ≢ (edge_of m u v).d
    pub no_edge : is_edge m (edge_of m u v).c (edge_of m u v).d ≡ false
    pub scaffold_fits : is_over_limits (flip_scaffold m (edge_of m u v)).mesh ≡ false
    pub result_fits : is_over_limits (flip_mesh m (edge_of m u v)) ≡ false
    pub none_lacks : first_failing meets (flip_scaffold m (edge_of m u v)) depth ≡ None
    pub result : flip_result m change ≡ flip_mesh m (edge_of m u v)

  facts : Facts
  facts =
      let e = edge_of m u v in
      let scaffold = flip_scaffold m e in
      let hits = hit_in meets scaffold depth ∷ [] in
      let fulls = reason_if (is_full scaffold.mesh (flip_mesh m e)) Full ∷ hits in
      let edges = reason_if ((e.c == e.d) || is_edge m e.c e.d) IsAnEdge ∷ fulls in
      let crowds = reason_if (is_crowded m e.a e.b) Crowded ∷ edges in
      let five = done_is _ _ _ done in
      let four = none_first (reason_if (not (is_edge m e.a e.b)) NoEdge) crowds five.0 in
      let three = none_first (reason_if (is_crowded m e.a e.b) Crowded) edges four.1 in
      let two = none_first (reason_if ((e.c == e.d) || is_edge m e.c e.d) IsAnEdge) fulls three.1 in
      let one = none_first (reason_if (is_full scaffold.mesh (flip_mesh m e)) Full) hits two.1 in
      let last = none_first (hit_in meets scaffold depth) [] one.1 in
      let no_edge = does_not_hold _ _ two.0 in
      let fits = does_not_hold _ _ one.0 in
      record {
        edge = not-false _ (does_not_hold _ _ four.0);
        c_d = eqb-false e.c e.d (first_false (e.c == e.d) _ no_edge);
        no_edge = second_false (e.c == e.d) _ no_edge;
        scaffold_fits = first_false (is_over_limits scaffold.mesh) _ fits;
        result_fits = second_false (is_over_limits scaffold.mesh) _ fits;
        none_lacks = no_name (λ p. Hit p) (first_failing meets scaffold depth) last.0;
        result = ap (flip_result m) (sym five.1) ∙ ap (flip_mesh m) (edge_again m u v);
      }

  beside : IsBeside m (edge_of m u v)
  beside = beside_of m u v sound closed facts.edge

  after : IsSound (flip_mesh m (edge_of m u v))
  after = flip_is_sound m (edge_of m u v) sound beside facts.c_d facts.no_edge facts.result_fits

  along : IsExact meets → IsClearAlong (flip_scaffold m (edge_of m u v)).mesh (motion_of (flip_scaffold m (edge_of m u v)))
  along exact = none_failing_is_clear meets exact (flip_scaffold m (edge_of m u v)) depth (split_is_sound m (edge_of m u v) (split_point m (edge_of m u v)) sound beside facts.scaffold_fits) facts.none_lacks

  flip_leaves_sound : IsSound (flip_result m change)
  flip_leaves_sound = subst IsSound (sym facts.result) after

  flip_leaves_closed : IsClosed (flip_result m change)
  flip_leaves_closed = subst IsClosed (sym facts.result) (flip_is_closed m (edge_of m u v) (below_next m sound) beside facts.c_d closed)

  flip_leaves_clear : IsExact meets → IsClearMesh (flip_result m change)
  flip_leaves_clear exact = subst IsClearMesh (sym facts.result) (flip_is_clear m (edge_of m u v) sound beside after (along exact))

  -- the motion clause
  flip_moves_clear : IsExact meets → MovesClear flip_tested_on m change
  flip_moves_clear exact = subst (MovesClear flip_tested_on m) (done_is _ _ _ done).1
      (subst (λ e. IsClosed (flip_scaffold m e).mesh × IsClearAlong (flip_scaffold m e).mesh (motion_of (flip_scaffold m e))) (sym (edge_again m u v)) (
        split_is_closed m (edge_of m u v) (split_point m (edge_of m u v)) (below_next m sound) beside closed,
        along exact,
      ))

pub flip_stays_sound : (meets : Positions → Bool) (u v depth : ℕ) → StaysSound flip_result (λ m. flip_answer meets m u v depth)
flip_stays_sound meets u v depth m change sound closed done = flip_leaves_sound meets u v depth m change sound closed done

pub flip_stays_closed : (meets : Positions → Bool) (u v depth : ℕ) → StaysClosed flip_result (λ m. flip_answer meets m u v depth)
flip_stays_closed meets u v depth m change sound closed done = flip_leaves_closed meets u v depth m change sound closed done

pub flip_stays_clear : (meets : Positions → Bool) → IsExact meets → (u v depth : ℕ) → StaysClear flip_result (λ m. flip_answer meets m u v depth)
flip_stays_clear meets exact u v depth m change sound closed clear done = flip_leaves_clear meets u v depth m change sound closed done exact

pub flip_motion_is_clear : (meets : Positions → Bool) → IsExact meets → (u v depth : ℕ) → MotionIsClear flip_tested_on (λ m. flip_answer meets m u v depth)
flip_motion_is_clear meets exact u v depth m change sound closed done = flip_moves_clear meets u v depth m change sound closed done exact

-- its change is a flip
pub flip_always_makes : (meets : Positions → Bool) (u v depth : ℕ) → AlwaysMakes IsFlip (λ m. flip_answer meets m u v depth)
flip_always_makes meets u v depth m change done = subst IsFlip (done_is _ _ _ done).1 tt
