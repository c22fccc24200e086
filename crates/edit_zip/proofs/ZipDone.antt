-- What a done zip leaves.
use Rattle.std.proofs.Common.{◌≡◌, ℕ, Bool, true, false, not, ◌||◌, ◌==◌, ◌++◌, min, max, [], ◌∷◌, Option, Some, None, is_none, refl, sym, ap, subst, ◌∙◌}
use Rattle.std.proofs.lemmas.Bool.{false≢true, not-false}
use Rattle.std.specs.List.{find, count_by, AllByRecursion}
use Rattle.std.specs.Option.{option_map_or, option_or, unwrap_or}
use Rattle.grid_base.specs.declared.Positions.{Positions}
use Rattle.grid_base.specs.SeparationTests.{IsExact}
use Rattle.mesh_base.specs.Mesh.{Mesh, IsSound}
use Rattle.mesh_base.specs.Sides.{IsClosed}
use Rattle.mesh_base.specs.Pairs.{is_edge, is_crowded, pairs}
use Rattle.mesh_base.specs.Placements.{rest_positions, positions, IsClearMesh}
use Rattle.mesh_base.specs.Failing.{first_meeting}
use Rattle.mesh_base.specs.Limits.{is_over_limits}
use Rattle.mesh_base.proofs.Listed.{listed}
use Rattle.mesh_base.proofs.ListedPairs.{all_flat_mapped, all_filtered, all_weaker, all_always}
use Rattle.edit_base.specs.declared.answers.Why.{Why}
use Rattle.edit_base.specs.declared.answers.Why.TheVariants.{NoEdge, Crowded, Shared, Full, Doubled, Hit}
use Rattle.edit_base.specs.declared.answers.Change.{Change}
use Rattle.edit_base.specs.declared.answers.Change.TheVariants.{Zip}
use Rattle.edit_base.specs.declared.answers.Edit.TheVariants.{Done, No}
use Rattle.edit_base.specs.Reasons.{reason_if, first_reason}
use Rattle.edit_base.specs.Edges.{Edge, edge_of, doubles_a_face}
use Rattle.edit_zip.specs.Zip.{zip_mesh, turns, tried, is_before, turn_reason, taken_turn, last_reason, four_ids, repeats, turns_of_rank}
use Rattle.edit_zip.specs.Done.{zip_result, IsZip}
use Rattle.edit_zip.specs.Answer.{zip_answer}
use Rattle.edit_base.specs.Laws.{StaysSound, StaysClosed, StaysClear, AlwaysMakes}
use Rattle.edit_base.proofs.Clear.{not_found, no_name}
use Rattle.edit_base.proofs.ReasonLaws.{none_first, does_not_hold, first_false, second_false, edge_again}
use Rattle.edit_base.specs.Beside.{IsBeside}
use Rattle.edit_base.proofs.Beside.{beside_of}
use Rattle.edit_zip.proofs.ZipTurns.{disjoint_of, turns_are_closed, turns_are_sound}
use Rattle.edit_acts.proofs.Found.{found_both}

-- ---- the turn that is taken

-- each turn that is tried is one of the four
pub all_tried : (P : ℕ → Type 0) (m : Mesh) (s t : Edge) → AllByRecursion P turns → AllByRecursion P (tried m s t)
all_tried P m s t h =
    all_flat_mapped P (turns_of_rank m s t) turns
    (all_always (λ n. AllByRecursion P (turns_of_rank m s t n)) turns
    (λ n. all_filtered P (λ k. count_by (λ l. is_before m s t l k) turns == n) turns (all_weaker P (λ k. (count_by (λ l. is_before m s t l k) turns == n) ≡ true → P k) turns (λ k h _. h) h)))

none_is : {X : Type 0} (o : Option X) → is_none o ≡ true → o ≡ None
none_is (Some x) e = absurd (false≢true e)
none_is None e = refl

none_of_either : {X : Type 0} (o r : Option X) → option_or o r ≡ None → (o ≡ None) × (r ≡ None)
none_of_either (Some x) r e = absurd cc
none_of_either None r e = (refl, e)

-- a mesh none of whose pairs is found to meet is clear
none_meets : (meets : Positions → Bool) → IsExact meets → (m : Mesh) → IsSound m → first_meeting meets m (rest_positions m) ≡ None → IsClearMesh m
none_meets meets exact m sound none p is_pair meet =
    let off = not_found (λ q. meets (positions (rest_positions m) q)) (pairs m) (no_name (λ q. q.name) (find (λ q. meets (positions (rest_positions m) q)) (pairs m)) none) in
    false≢true (sym (listed m (λ q. meets (positions (rest_positions m) q) ≡ false) sound off p is_pair) ∙ (exact (positions (rest_positions m) p)).1 meet)

-- ---- the answer
pub done_of : (reason : Option Why) (turn : Option ℕ) (make : ℕ → Change) (else_why : Why) (change : Change) →
    option_map_or (λ why. No why) reason (option_map_or (λ k. Done (make k)) turn (No else_why)) ≡ Done change → (reason ≡ None) × ((k : ℕ) × (turn ≡ Some k) × (make k ≡ change))
done_of (Some why) turn make else_why change e = absurd cc
done_of None None make else_why change e = absurd cc
done_of None (Some k) make else_why change e = let same : make k ≡ change = cc in (refl, (k, refl, same))

pub not_either : (a b : Bool) → (not a || not b) ≡ false → (a ≡ true) × (b ≡ true)
not_either a b e = (not-false a (first_false (not a) (not b) e), not-false b (second_false (not a) (not b) e))

module _ (meets : Positions → Bool) (u v x y : ℕ) (m : Mesh) (change : Change) (sound : IsSound m) (closed : IsClosed m) (done : zip_answer meets m u v x y ≡ Done change) where
  record Facts : Type 0 where
    pub edges : (is_edge m (min u v) (max u v) ≡ true) × (is_edge m (min x y) (max x y) ≡ true)
    pub apart : repeats (four_ids (edge_of m u v) ++ four_ids (edge_of m x y)) ≡ false
    pub fits : is_over_limits (zip_mesh m (edge_of m u v) (edge_of m x y) 0) ≡ false
    pub turn : ℕ
    pub taken : taken_turn meets m (edge_of m u v) (edge_of m x y) ≡ Some turn
    pub result : zip_result m change ≡ zip_mesh m (edge_of m u v) (edge_of m x y) turn

  facts : Facts
  facts =
      let s = edge_of m u v in
      let t = edge_of m x y in
      let fulls = reason_if (is_over_limits (zip_mesh m s t 0)) Full ∷ [] in
      let shares = reason_if (repeats (four_ids s ++ four_ids t)) Shared ∷ fulls in
      let crowds = reason_if (is_crowded m s.a s.b || is_crowded m t.a t.b) Crowded ∷ shares in
      let four = done_of (first_reason (reason_if (not (is_edge m s.a s.b) || not (is_edge m t.a t.b)) NoEdge ∷ crowds)) (taken_turn meets m s t) (λ turn. Zip s.a s.b t.a t.b turn) (unwrap_or (last_reason meets m s t) Doubled) change done in
      let three = none_first (reason_if (not (is_edge m s.a s.b) || not (is_edge m t.a t.b)) NoEdge) crowds four.0 in
      let two = none_first (reason_if (is_crowded m s.a s.b || is_crowded m t.a t.b) Crowded) shares three.1 in
      let one = none_first (reason_if (repeats (four_ids s ++ four_ids t)) Shared) fulls two.1 in
      let last = none_first (reason_if (is_over_limits (zip_mesh m s t 0)) Full) [] one.1 in
      let made = four.1 in
      record {
        edges = not_either (is_edge m s.a s.b) (is_edge m t.a t.b) (does_not_hold _ _ three.0);
        apart = does_not_hold _ _ one.0;
        fits = does_not_hold _ _ last.0;
        turn = made.0;
        taken = made.1;
        result = ap (zip_result m) (sym made.2) ∙ (λ i. zip_mesh m (edge_again m u v i) (edge_again m x y i) made.0);
      }

  -- what holds of each turn with which nothing is wrong holds of the result
  of_taken : (P : Mesh → Type 0) → AllByRecursion (λ k. P (zip_mesh m (edge_of m u v) (edge_of m x y) k)) turns → P (zip_result m change)
  of_taken P h =
      let at = found_both (λ k. P (zip_mesh m (edge_of m u v) (edge_of m x y) k)) (λ k. is_none (turn_reason meets m (edge_of m u v) (edge_of m x y) k)) (tried m (edge_of m u v) (edge_of m x y)) facts.turn
      (all_tried (λ k. P (zip_mesh m (edge_of m u v) (edge_of m x y) k)) m (edge_of m u v) (edge_of m x y) h) facts.taken in
      subst P (sym facts.result) at.0

  nothing_wrong : turn_reason meets m (edge_of m u v) (edge_of m x y) facts.turn ≡ None
  nothing_wrong = none_is _ (found_both (λ k. ℕ) (λ k. is_none (turn_reason meets m (edge_of m u v) (edge_of m x y) k)) (tried m (edge_of m u v) (edge_of m x y)) facts.turn
      (all_always (λ k. ℕ) (tried m (edge_of m u v) (edge_of m x y)) (λ k. k)) facts.taken).1

  undoubled : doubles_a_face (zip_result m change) ≡ false
  undoubled = ap doubles_a_face facts.result ∙ does_not_hold (doubles_a_face (zip_mesh m (edge_of m u v) (edge_of m x y) facts.turn)) Doubled
      (none_of_either (reason_if (doubles_a_face (zip_mesh m (edge_of m u v) (edge_of m x y) facts.turn)) Doubled) _ nothing_wrong).0

  unmet : first_meeting meets (zip_result m change) (rest_positions (zip_result m change)) ≡ None
  unmet = ap (λ n. first_meeting meets n (rest_positions n)) facts.result ∙ no_name (λ p. Hit p) (first_meeting meets (zip_mesh m (edge_of m u v) (edge_of m x y) facts.turn) (rest_positions (zip_mesh m (edge_of m u v) (edge_of m x y) facts.turn)))
      (none_of_either (reason_if (doubles_a_face (zip_mesh m (edge_of m u v) (edge_of m x y) facts.turn)) Doubled) _ nothing_wrong).1

  beside_s : IsBeside m (edge_of m u v)
  beside_s = beside_of m u v sound closed facts.edges.0

  beside_t : IsBeside m (edge_of m x y)
  beside_t = beside_of m x y sound closed facts.edges.1

  zip_leaves_sound : IsSound (zip_result m change)
  zip_leaves_sound = of_taken (λ n. doubles_a_face n ≡ false → IsSound n)
      (turns_are_sound m (edge_of m u v) (edge_of m x y) sound beside_s beside_t (disjoint_of (edge_of m u v) (edge_of m x y) facts.apart) facts.fits) undoubled

  zip_leaves_closed : IsClosed (zip_result m change)
  zip_leaves_closed = of_taken IsClosed (turns_are_closed m (edge_of m u v) (edge_of m x y) sound beside_s beside_t (disjoint_of (edge_of m u v) (edge_of m x y) facts.apart) closed)

  zip_leaves_clear : IsExact meets → IsClearMesh (zip_result m change)
  zip_leaves_clear exact = none_meets meets exact (zip_result m change) zip_leaves_sound unmet

pub zip_stays_sound : (meets : Positions → Bool) (u v x y : ℕ) → StaysSound zip_result (λ m. zip_answer meets m u v x y)
zip_stays_sound meets u v x y m change sound closed done = zip_leaves_sound meets u v x y m change sound closed done

pub zip_stays_closed : (meets : Positions → Bool) (u v x y : ℕ) → StaysClosed zip_result (λ m. zip_answer meets m u v x y)
zip_stays_closed meets u v x y m change sound closed done = zip_leaves_closed meets u v x y m change sound closed done

pub zip_stays_clear : (meets : Positions → Bool) → IsExact meets → (u v x y : ℕ) → StaysClear zip_result (λ m. zip_answer meets m u v x y)
zip_stays_clear meets exact u v x y m change sound closed clear done = zip_leaves_clear meets u v x y m change sound closed done exact

-- its change is a zip
pub zip_always_makes : (meets : Positions → Bool) (u v x y : ℕ) → AlwaysMakes IsZip (λ m. zip_answer meets m u v x y)
zip_always_makes meets u v x y m change done = let made = (done_of _ _ _ _ change done).1 in subst IsZip made.2 tt
