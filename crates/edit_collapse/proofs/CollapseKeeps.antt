-- A done collapse leaves a sound, closed and clear mesh; so does one to another point, on the same conditions.
use Rattle.std.proofs.Common.{◌≡◌, ◌≢◌, ◌⊎◌, inl, inr, ℕ, Bool, true, false, not, ◌==◌, cond, min, max, [], ◌∷◌, Some, None, if◌then◌else◌, refl, sym, ap, subst, ◌∙◌, arith}
use Rattle.std.proofs.lemmas.Bool.{not-false}
use Rattle.std.proofs.lemmas.Bool.Decides.{nat_tests}
use Rattle.std.specs.Option.{option_map, unwrap_or}
use Rattle.grid_base.specs.declared.Point.{Point}
use Rattle.grid_base.specs.declared.Positions.{Positions}
use Rattle.grid_base.specs.Triples.{Triple, times}
use Rattle.grid_base.specs.Points.{position_of}
use Rattle.grid_base.specs.Meeting.{MeetAt}
use Rattle.grid_base.specs.SeparationTests.{IsExact, passes}
use Rattle.grid_base.proofs.SeparationLaws.{Passes-never_meet, NeverMeet-at_end}
use Rattle.grid_base.proofs.Reflected.{passes_of}
use Rattle.mesh_base.specs.Mesh.{Mesh, IsSound}
use Rattle.mesh_base.specs.Sides.{IsClosed}
use Rattle.mesh_base.specs.Pairs.{Pair, IsPair, is_edge}
use Rattle.mesh_base.specs.Placements.{rest_positions_doubled, positions, IsClearMesh}
use Rattle.mesh_base.specs.Limits.{is_over_limits}
use Rattle.edit_base.specs.declared.answers.Why.TheVariants.{NoEdge, Solid, Full, Doubled, Hit}
use Rattle.edit_base.specs.declared.answers.Change.{Change}
use Rattle.edit_base.specs.declared.answers.Change.TheVariants.{Collapse}
use Rattle.edit_base.specs.declared.answers.Edit.TheVariants.{Done}
use Rattle.edit_base.specs.declared.scaffold.Move.{Move}
use Rattle.edit_base.specs.declared.scaffold.Touch.TheVariants.{End}
use Rattle.edit_base.specs.Beside.{IsBeside}
use Rattle.edit_base.specs.Reasons.{reason_if, hit_in, is_full}
use Rattle.edit_base.specs.Scaffold.{motion_of, joins_contacts, meets_contact_rule, first_failing}
use Rattle.edit_base.specs.Edges.{edge_of, doubles_a_face}
use Rattle.edit_collapse.specs.Collapse.{are_both_solid, collapse_mesh, collapse_point, collapse_scaffold, joined_faces}
use Rattle.edit_collapse.specs.Done.{collapse_result}
use Rattle.edit_collapse.specs.Answer.{collapse_answer}
use Rattle.edit_base.specs.Laws.{StaysSound, StaysClosed, StaysClear}
use Rattle.edit_base.proofs.Beside.{beside_of}
use Rattle.edit_base.proofs.Clear.{as_required, no_name}
use Rattle.edit_base.proofs.ReasonLaws.{done_is, none_first, does_not_hold, second_false}
use Rattle.edit_collapse.proofs.CollapseMesh.{collapse_is_closed, collapse_is_sound}
use Rattle.edit_collapse.proofs.CollapseClear.{collapse_is_clear}

-- ---- where its vertices end
module _ (m : Mesh) (a b : ℕ) (at : Point) where
  abbrev moved_end : Bool → Bool → ℕ → Triple
  moved_end is_a is_b v =
      let end = times 2 (position_of at) in
      let first : Move = record { v = a; start = rest_positions_doubled m a; end = end } in
      let second : Move = record { v = b; start = rest_positions_doubled m b; end = end } in
      unwrap_or (option_map (λ (move : Move). move.end) (cond is_a (Some first) (cond is_b (Some second) None))) (rest_positions_doubled m v)

  abbrev end : ℕ → Triple
  end v = (motion_of (collapse_scaffold m a b at)).end v

  end_is : (v : ℕ) → end v ≡ moved_end (a == v) (b == v) v
  end_is v = refl

  same_test : (x y : ℕ) → x ≡ y → (y == x) ≡ true
  same_test x y e = grind (arith, nat_tests)

  other_test : (x y : ℕ) → x ≢ y → (y == x) ≡ false
  other_test x y e = grind (arith, nat_tests)

  joined_end : (v : ℕ) → (v ≡ a) ⊎ (v ≡ b) → end v ≡ times 2 (position_of at)
  joined_end v (inl e) = ap (λ t. moved_end t (b == v) v) (same_test v a e)
  joined_end v (inr e) = ap (λ t. moved_end (a == v) t v) (same_test v b e) ∙ either (a == v)
    where
      either : (t : Bool) → moved_end t true v ≡ times 2 (position_of at)
      either true = refl
      either false = refl

  other_end : (v : ℕ) → v ≢ a → v ≢ b → end v ≡ rest_positions_doubled m v
  other_end v not_a not_b = λ i. moved_end (other_test v a not_a i) (other_test v b not_b i) v

  -- a pair that does not hold both ends had to pass, and so does not meet at the end
  apart_at_end : (meets : Positions → Bool) → IsExact meets → (depth : ℕ) → IsSound m → first_failing meets (collapse_scaffold m a b at) depth ≡ None →
      (p : Pair) → IsPair m p → joins_contacts (a ∷ b ∷ []) p ≡ false → ¬ (MeetAt (positions end p))
  apart_at_end meets exact depth sound none p is_pair off =
      let s = collapse_scaffold m a b at in
      let start = positions (motion_of s).start p in
      let last = positions (motion_of s).end p in
      let required = as_required meets s depth sound none p is_pair in
      let passed : passes meets depth start last ≡ true = sym (ap (λ t. if t then meets_contact_rule meets End depth start last else passes meets depth start last) off) ∙ required in
      NeverMeet-at_end start last (Passes-never_meet depth start last (passes_of meets exact depth start last passed))

-- ---- a collapse to a point
module _ (m : Mesh) (u v : ℕ) (at : Point) (sound : IsSound m) (closed : IsClosed m) (edge : is_edge m (min u v) (max u v) ≡ true) where
  beside : IsBeside m (edge_of m u v)
  beside = beside_of m u v sound closed edge

  pub to_point_is_closed : IsClosed (collapse_mesh m (min u v) (max u v) at)
  to_point_is_closed = collapse_is_closed m (min u v) (max u v) at sound closed beside.a_b

  pub to_point_is_sound : doubles_a_face (joined_faces m (min u v) (max u v)) ≡ false → is_over_limits (collapse_mesh m (min u v) (max u v) at) ≡ false → IsSound (collapse_mesh m (min u v) (max u v) at)
  to_point_is_sound undoubled fits = collapse_is_sound m (min u v) (max u v) at sound closed beside.a_b beside.a_live undoubled fits

  pub to_point_is_clear : (meets : Positions → Bool) → IsExact meets → (depth : ℕ) → first_failing meets (collapse_scaffold m (min u v) (max u v) at) depth ≡ None → IsClearMesh (collapse_mesh m (min u v) (max u v) at)
  to_point_is_clear meets exact depth none =
      let a = min u v in
      let b = max u v in
      collapse_is_clear m a b at sound closed beside.a_b beside.a_live (end m a b at) (joined_end m a b at) (other_end m a b at) (apart_at_end m a b at meets exact depth sound none)

-- ---- a done collapse
module _ (meets : Positions → Bool) (u v depth : ℕ) (m : Mesh) (change : Change) (sound : IsSound m) (closed : IsClosed m) (done : collapse_answer meets m u v depth ≡ Done change) where
  record Facts : Type 0 where
    pub edge : is_edge m (min u v) (max u v) ≡ true
    pub may_move : are_both_solid m (min u v) (max u v) ≡ false
    pub undoubled : doubles_a_face (joined_faces m (min u v) (max u v)) ≡ false
    pub fits : is_over_limits (collapse_mesh m (min u v) (max u v) (collapse_point m (min u v) (max u v))) ≡ false
    pub unhit : first_failing meets (collapse_scaffold m (min u v) (max u v) (collapse_point m (min u v) (max u v))) depth ≡ None
    pub result : Collapse (min u v) (max u v) (collapse_point m (min u v) (max u v)) ≡ change

  facts : Facts
  facts =
      let a = min u v in
      let b = max u v in
      let scaffold = collapse_scaffold m a b (collapse_point m a b) in
      let result = collapse_mesh m a b (collapse_point m a b) in
      let hits = hit_in meets scaffold depth ∷ [] in
      let fulls = reason_if (is_full scaffold.mesh result) Full ∷ hits in
      let doubles = reason_if (doubles_a_face (joined_faces m a b)) Doubled ∷ fulls in
      let solids = reason_if (are_both_solid m a b) Solid ∷ doubles in
      let five = done_is _ _ _ done in
      let four = none_first (reason_if (not (is_edge m a b)) NoEdge) solids five.0 in
      let three = none_first (reason_if (are_both_solid m a b) Solid) doubles four.1 in
      let two = none_first (reason_if (doubles_a_face (joined_faces m a b)) Doubled) fulls three.1 in
      let one = none_first (reason_if (is_full scaffold.mesh result) Full) hits two.1 in
      let last = none_first (hit_in meets scaffold depth) [] one.1 in
      record {
        edge = not-false (is_edge m a b) (does_not_hold (not (is_edge m a b)) NoEdge four.0);
        may_move = does_not_hold (are_both_solid m a b) Solid three.0;
        undoubled = does_not_hold (doubles_a_face (joined_faces m a b)) Doubled two.0;
        fits = second_false (is_over_limits scaffold.mesh) (is_over_limits result) (does_not_hold (is_full scaffold.mesh result) Full one.0);
        unhit = no_name (λ p. Hit p) (first_failing meets scaffold depth) last.0;
        result = five.1;
      }

  abbrev at : Point
  at = collapse_point m (min u v) (max u v)

  leaves_sound : IsSound (collapse_result m change)
  leaves_sound = subst (λ c. IsSound (collapse_result m c)) facts.result (to_point_is_sound m u v at sound closed facts.edge facts.undoubled facts.fits)

  leaves_closed : IsClosed (collapse_result m change)
  leaves_closed = subst (λ c. IsClosed (collapse_result m c)) facts.result (to_point_is_closed m u v at sound closed facts.edge)

  leaves_clear : IsExact meets → IsClearMesh (collapse_result m change)
  leaves_clear exact = subst (λ c. IsClearMesh (collapse_result m c)) facts.result (to_point_is_clear m u v at sound closed facts.edge meets exact depth facts.unhit)

pub collapse_stays_sound : (meets : Positions → Bool) (u v depth : ℕ) → StaysSound collapse_result (λ m. collapse_answer meets m u v depth)
collapse_stays_sound meets u v depth m change sound closed done = leaves_sound meets u v depth m change sound closed done

pub collapse_stays_closed : (meets : Positions → Bool) (u v depth : ℕ) → StaysClosed collapse_result (λ m. collapse_answer meets m u v depth)
collapse_stays_closed meets u v depth m change sound closed done = leaves_closed meets u v depth m change sound closed done

pub collapse_stays_clear : (meets : Positions → Bool) → IsExact meets → (u v depth : ℕ) → StaysClear collapse_result (λ m. collapse_answer meets m u v depth)
collapse_stays_clear meets exact u v depth m change sound closed clear done = leaves_clear meets u v depth m change sound closed done exact
