-- What zips answer is in range.
use Rattle.std.proofs.Common.{◌≡◌, ℕ, ◌≤◌, Bool, false, not, ◌||◌, ◌++◌, List, [], ◌∷◌, Option, Some, None, is_none, refl, arith}
use Rattle.edit_zip.proofs.ZipDone.{all_tried, not_either}
use Rattle.std.specs.Prelude.{IfSome}
use Rattle.std.specs.List.{AllByRecursion, last_or}
use Rattle.std.specs.Option.{option_map_or, option_and_then, unwrap_or}
use Rattle.grid_base.specs.declared.Positions.{Positions}
use Rattle.mesh_base.specs.Mesh.{Mesh, IsSound}
use Rattle.mesh_base.specs.Pairs.{is_edge, is_crowded}
use Rattle.mesh_base.specs.Placements.{rest_positions}
use Rattle.mesh_base.specs.Failing.{first_meeting}
use Rattle.mesh_base.specs.Limits.{is_over_limits}
use Rattle.mesh_base.proofs.ListedPairs.{all_weaker}
use Rattle.edit_base.specs.declared.answers.Why.{Why}
use Rattle.edit_base.specs.declared.answers.Why.TheVariants.{NoEdge, Crowded, Shared, Full, Doubled}
use Rattle.edit_base.specs.declared.answers.Change.TheVariants.{Zip}
use Rattle.edit_base.specs.declared.answers.Edit.{Edit}
use Rattle.edit_base.specs.declared.answers.Edit.TheVariants.{Done, No}
use Rattle.edit_base.specs.Reasons.{reason_if}
use Rattle.edit_base.specs.Edges.{Edge, edge_of, doubles_a_face}
use Rattle.edit_base.proofs.Beside.{beside_of}
use Rattle.edit_acts.proofs.Found.{found_both}
use Rattle.edit_zip.specs.Zip.{zip_mesh, turns, tried, turn_reason, taken_turn, last_reason, four_ids, repeats}
use Rattle.edit_zip.specs.Answer.{zip_answer}
use Rattle.edit_zip.proofs.ZipTurns.{disjoint_of, turns_are_sound}
use Rattle.log_text.specs.declared.TheConstants.{TURN_MAX}
use Rattle.log_read.specs.Laws.{IsReasonInRange}
use Rattle.run_laws.specs.Answers.{IsAnswerInRange, AnswersInRange}
use Rattle.run_laws.proofs.Names.{meeting_in_range}
use Rattle.run_laws.proofs.Reasons.{unless_first, either_in_range, hit_reason}
use Rattle.run_laws.proofs.EdgeAnswers.{ends_in_range}

-- what holds of each of a list holds of its last, if there is one
of_last : {X : Type 0} (P : X → Type 0) (before : Option X) (xs : List X) → IfSome before P → AllByRecursion P xs → IfSome (last_or before xs) P
of_last P before [] first h = first
of_last P before (x ∷ xs) first h = of_last P (Some x) xs h.0 h.1

-- the reason of the last, or else the one that is told
last_told : (reason_of : ℕ → Option Why) (last : Option ℕ) (why : Why) → IsReasonInRange why → IfSome last (λ k. IfSome (reason_of k) IsReasonInRange) → IsReasonInRange (unwrap_or (option_and_then reason_of last) why)
last_told reason_of None why good h = good
last_told reason_of (Some k) why good h = or_told (reason_of k) h
  where
    or_told : (reason : Option Why) → IfSome reason IsReasonInRange → IsReasonInRange (unwrap_or reason why)
    or_told None h = good
    or_told (Some reason) h = h

-- the turn that is taken, or else another answer
or_turn : (turn : Option ℕ) (make : ℕ → Edit) (other : Edit) → ((k : ℕ) → turn ≡ Some k → IsAnswerInRange (make k)) → IsAnswerInRange other → IsAnswerInRange (option_map_or make turn other)
or_turn (Some k) make other made not_made = made k refl
or_turn None make other made not_made = not_made

four_turns : AllByRecursion (λ k. k ≤ TURN_MAX) turns
four_turns = (omega arith, (omega arith, (omega arith, (omega arith, tt))))

-- what is wrong with a turn, of which a sound mesh comes where no face is doubled
turn_reason_in_range : (meets : Positions → Bool) (m : Mesh) (s t : Edge) (k : ℕ) → (doubles_a_face (zip_mesh m s t k) ≡ false → IsSound (zip_mesh m s t k)) → IfSome (turn_reason meets m s t k) IsReasonInRange
turn_reason_in_range meets m s t k sound =
    let left = zip_mesh m s t k in
    either_in_range (doubles_a_face left) Doubled _ tt (λ once. hit_reason (first_meeting meets left (rest_positions left)) (meeting_in_range meets left (rest_positions left) (sound once)))

pub zip_in_range : (meets : Positions → Bool) (u v x y : ℕ) → AnswersInRange (λ m. zip_answer meets m u v x y)
zip_in_range meets u v x y m sound closed =
    let s = edge_of m u v in
    let t = edge_of m x y in
    let make : ℕ → Edit = λ turn. Done (Zip s.a s.b t.a t.b turn) in
    let last : Why = unwrap_or (last_reason meets m s t) Doubled in
    let made : Edit = option_map_or make (taken_turn meets m s t) (No last) in
    let fulls = reason_if (is_over_limits (zip_mesh m s t 0)) Full ∷ [] in
    let shares = reason_if (repeats (four_ids s ++ four_ids t)) Shared ∷ fulls in
    let crowds = reason_if (is_crowded m s.a s.b || is_crowded m t.a t.b) Crowded ∷ shares in
    unless_first (not (is_edge m s.a s.b) || not (is_edge m t.a t.b)) NoEdge crowds made tt (λ edges.
    unless_first (is_crowded m s.a s.b || is_crowded m t.a t.b) Crowded shares made tt (λ alone.
    unless_first (repeats (four_ids s ++ four_ids t)) Shared fulls made tt (λ apart.
    unless_first (is_over_limits (zip_mesh m s t 0)) Full [] made tt (λ fits.
    let both = not_either (is_edge m s.a s.b) (is_edge m t.a t.b) edges in
    let beside_s = beside_of m u v sound closed both.0 in
    let beside_t = beside_of m x y sound closed both.1 in
    let reason_of : ℕ → Option Why = λ k. turn_reason meets m s t k in
    let reasons : AllByRecursion (λ k. IfSome (reason_of k) IsReasonInRange) turns =
    all_weaker (λ k. doubles_a_face (zip_mesh m s t k) ≡ false → IsSound (zip_mesh m s t k)) (λ k. IfSome (reason_of k) IsReasonInRange) turns
    (turn_reason_in_range meets m s t) (turns_are_sound m s t sound beside_s beside_t (disjoint_of s t apart) fits) in
    or_turn (taken_turn meets m s t) make (No last)
    (λ k e. (
      ends_in_range m u v sound beside_s,
      ends_in_range m x y sound beside_t,
      (found_both (λ k. k ≤ TURN_MAX) (λ k. is_none (reason_of k)) (tried m s t) k (all_tried (λ k. k ≤ TURN_MAX) m s t four_turns) e).0,
    ))
    (last_told reason_of (last_or None (tried m s t)) Doubled tt
    (of_last (λ k. IfSome (reason_of k) IsReasonInRange) None (tried m s t) tt (all_tried (λ k. IfSome (reason_of k) IsReasonInRange) m s t reasons)))))))
