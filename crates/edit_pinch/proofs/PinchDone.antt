-- What a done pinch leaves.
use Rattle.std.proofs.Common.{◌≡◌, ℕ, ◌+◌, ◌<◌, Bool, true, false, cond, ◌||◌, ◌==◌, nat_lt, List, [], ◌∷◌, map, length, slice_index, drop, Some, None, ⊎_elim, refl, sym, ap, subst, ◌∙◌, arith}
use Rattle.std.proofs.lemmas.Bool.{false≢true, eqb-true}
use Rattle.std.proofs.lemmas.Bool.Decides.{nat_tests}
use Rattle.std.specs.List.{AllByRecursion, fold, zip, find, filter, enumerate_from}
use Rattle.std.specs.Option.{option_map, unwrap_or}
use Rattle.std.specs.Cmp.{nat_cmp_total, eq_by_cmp_equiv, unsigned_tied}
use Rattle.std.specs.FinMap as finite
use Rattle.std.specs.FinMap.{get-insert}
use Rattle.grid_base.specs.declared.Positions.{Positions}
use Rattle.grid_base.specs.declared.Point.{Point}
use Rattle.grid_base.specs.SeparationTests.{IsExact}
use Rattle.grid_base.specs.Triples.{Triple, times}
use Rattle.grid_base.specs.Points.{position_of}
use Rattle.mesh_base.specs.declared.ids.Corners.{Corners}
use Rattle.mesh_base.specs.Mesh.{Mesh, is_solid, IsSound, IsLiveVertex, AreLive}
use Rattle.mesh_base.specs.Sides.{has_corner, faces_at, IsClosed}
use Rattle.mesh_base.specs.Changes.{with_vertex, with_point}
use Rattle.mesh_base.specs.Placements.{rest_positions_doubled, position_or_origin, IsClearMesh, IsClearAfter}
use Rattle.mesh_base.specs.Limits.{is_over_limits}
use Rattle.mesh_base.proofs.Tests.{or_either}
use Rattle.edit_base.specs.declared.scaffold.Move.{Move}
use Rattle.edit_base.specs.declared.answers.CopyAt.{CopyAt}
use Rattle.edit_base.specs.declared.answers.Why.TheVariants.{OneFan, Solid, Full, Hit}
use Rattle.edit_base.specs.declared.answers.Change.{Change}
use Rattle.edit_base.specs.declared.answers.Edit.TheVariants.{Done}
use Rattle.edit_base.specs.Reasons.{reason_if, hit_in}
use Rattle.edit_base.specs.Scaffold.{motion_of, first_failing}
use Rattle.edit_base.specs.Classes.{class_of}
use Rattle.edit_base.specs.Edges.{corners_at}
use Rattle.edit_pinch.specs.Pinch.{share_second, fans, fan_point, with_copy, pinch_scaffold, first_point, later_copies, copy_points}
use Rattle.edit_pinch.specs.Done.{pinch_result, pinch_tested_on, IsPinch}
use Rattle.edit_pinch.specs.Answer.{pinch_answer}
use Rattle.edit_base.specs.Clauses.{MovesClear}
use Rattle.edit_base.specs.Laws.{StaysSound, StaysClosed, StaysClear, MotionIsClear, AlwaysMakes}
use Rattle.edit_base.proofs.Clear.{none_failing_is_clear, no_name}
use Rattle.edit_base.proofs.Ends.{clear_where_it_ends}
use Rattle.edit_base.proofs.ReasonLaws.{done_is, none_first, does_not_hold}
use Rattle.edit_base.proofs.Chains.{Has, either_first, equal_itself}
use Rattle.edit_pinch.proofs.FanBalance.{listed_passes}
use Rattle.edit_pinch.proofs.CopyClosed.{next_vertex-renamed, points-renamed, pinch_is_closed}
use Rattle.edit_pinch.proofs.CopySound.{pinch_is_sound}

-- ---- the vertex
corner_live : (m : Mesh) (c : Corners) (v : ℕ) → AreLive m c → has_corner c v ≡ true → IsLiveVertex m v
corner_live m c v live h = ⊎_elim
    (λ two. ⊎_elim (λ one. at c.first one live.0) (λ one. at c.second one live.1) (or_either (c.first == v) (c.second == v) two))
    (λ one. at c.third one live.2) (or_either ((c.first == v) || (c.second == v)) (c.third == v) h)
  where
    at : (x : ℕ) → (x == v) ≡ true → IsLiveVertex m x → IsLiveVertex m v
    at x e l = subst (IsLiveVertex m) (eqb-true x v e) l

-- a vertex with two fans has a face
pub pinched_live : (m : Mesh) (v : ℕ) → IsSound m → nat_lt (length (fans m v)) 2 ≡ false → IsLiveVertex m v
pinched_live m v sound two =
    let some = some_face (faces_at m v) two in
    let there = listed_passes m (λ c. has_corner c v) some.0 some.1 in
    corner_live m (corners_at m some.0) v (sound.is_mesh.live_corners some.0 (corners_at m some.0) there.0) there.1
  where
    some_face : (all : List ℕ) → nat_lt (length (map (λ x. class_of (share_second m v) all x) (filter (λ x. slice_index (class_of (share_second m v) all x) 0 == x) all))) 2 ≡ false → (f : ℕ) × Has all f
    some_face [] e = absurd (false≢true (sym e))
    some_face (f ∷ fs) e = (f, either_first (f == f) _ (equal_itself f))

-- ---- the points
-- a vertex that was there keeps its point
pub kept_point : (v : ℕ) (n : Mesh) (others : List (List ℕ)) (points : List Point) (u : ℕ) → u < n.next_vertex → finite.get (fold (with_copy v) n (zip others points)).points u ≡ finite.get n.points u
kept_point v n [] points u below = refl
kept_point v n (d ∷ ds) [] u below = refl
kept_point v n (d ∷ ds) (p ∷ ps) u below =
    let w = n.next_vertex in
    let later : u < n.next_vertex + 1 = omega (arith, below) in
    kept_point v (with_copy v n (d, p)) ds ps u (subst (λ k. u < k) (sym (next_vertex-renamed v w (with_vertex n p) d)) later)
    ∙ ap (λ ps. finite.get ps u) (points-renamed v w (with_vertex n p) d)
    ∙ get-insert nat_cmp_total n.points w p u
    ∙ ap (λ b. cond b (Some p) (finite.get n.points u)) (unsigned_tied u w ∙ apart u w below)
  where
    apart : (x y : ℕ) → x < y → (x == y) ≡ false
    apart x y h = grind (arith, nat_tests)

module _ (m : Mesh) (v : ℕ) where
  abbrev copies_from : ℕ → List (List ℕ) → List CopyAt
  copies_from k others = map (λ e. record { w = e.0; at = fan_point m v e.1 }) (enumerate_from k others)

  abbrev move_to : Triple → CopyAt → Move
  move_to here copy = record { v = copy.w; start = here; end = times 2 (position_of copy.at) }

  abbrev EndsThere : Mesh → Move → Type 0
  EndsThere n move = move.end ≡ rest_positions_doubled n move.v

  -- each copy stands at its point
  copies_end : (here : Triple) (n : Mesh) (k : ℕ) (others : List (List ℕ)) → k ≡ n.next_vertex →
      AllByRecursion (EndsThere (fold (with_copy v) n (zip others (copy_points (copies_from k others))))) (map (move_to here) (copies_from k others))
  copies_end here n k [] e = tt
  copies_end here n k (d ∷ ds) e =
      let at = fan_point m v d in
      let w = n.next_vertex in
      let next = with_copy v n (d, at) in
      let count : k + 1 ≡ next.next_vertex = ap (λ j. j + 1) e ∙ sym (next_vertex-renamed v w (with_vertex n at) d) in
      let below : k < next.next_vertex = let h : k < k + 1 = omega arith in subst (λ j. k < j) count h in
      let got : finite.get (fold (with_copy v) next (zip ds (copy_points (copies_from (k + 1) ds)))).points k ≡ Some at =
      kept_point v next ds (copy_points (copies_from (k + 1) ds)) k below
      ∙ ap (λ ps. finite.get ps k) (points-renamed v w (with_vertex n at) d)
      ∙ ap (λ j. finite.get (with_vertex n at).points j) e
      ∙ get-insert nat_cmp_total n.points w at w
      ∙ ap (λ b. cond b (Some at) (finite.get n.points w)) ((eq_by_cmp_equiv nat_cmp_total).refl w) in
      (ap (λ o. times 2 (position_or_origin o)) (sym got), copies_end here next (k + 1) ds count)

  abbrev end_by : Mesh → Move → List Move → ℕ → Bool → Triple
  end_by n move moves u first = unwrap_or (option_map (λ (it : Move). it.end) (cond first (Some move) (find (λ it. it.v == u) moves))) (rest_positions_doubled n u)

  -- where each of the moves ends at the mesh's own point, all do
  ends_of : (n : Mesh) (moves : List Move) (u : ℕ) → AllByRecursion (EndsThere n) moves → unwrap_or (option_map (λ (move : Move). move.end) (find (λ move. move.v == u) moves)) (rest_positions_doubled n u) ≡ rest_positions_doubled n u
  ends_of n [] u h = refl
  ends_of n (move ∷ moves) u h = by_test (ends_of n moves u h.1) (move.v == u) refl
    where
      by_test : unwrap_or (option_map (λ (move : Move). move.end) (find (λ move. move.v == u) moves)) (rest_positions_doubled n u) ≡ rest_positions_doubled n u → (b : Bool) → (move.v == u) ≡ b → end_by n move moves u (move.v == u) ≡ rest_positions_doubled n u
      by_test rest true e = ap (end_by n move moves u) e ∙ h.0 ∙ ap (rest_positions_doubled n) (eqb-true move.v u e)
      by_test rest false e = ap (end_by n move moves u) e ∙ rest

  pub pinch_ends : v < m.next_vertex → (u : ℕ) → (motion_of (pinch_scaffold m v)).end u ≡ rest_positions_doubled (pinch_scaffold m v).mesh u
  pinch_ends below u =
      let at = first_point m v in
      let base = with_point m v at in
      let others = drop 1 (fans m v) in
      let got : finite.get (pinch_scaffold m v).mesh.points v ≡ Some at =
      kept_point v base others (copy_points (later_copies m v)) v below
      ∙ get-insert nat_cmp_total m.points v at v
      ∙ ap (λ b. cond b (Some at) (finite.get m.points v)) ((eq_by_cmp_equiv nat_cmp_total).refl v) in
      ends_of (pinch_scaffold m v).mesh (pinch_scaffold m v).moves u
      (ap (λ o. times 2 (position_or_origin o)) (sym got), copies_end (rest_positions_doubled m v) base m.next_vertex others refl)

-- ---- the answer
module _ (meets : Positions → Bool) (v depth : ℕ) (m : Mesh) (change : Change) (sound : IsSound m) (closed : IsClosed m) (done : pinch_answer meets m v depth ≡ Done change) where
  -- no reason holds, and the change is the pinch's
  record Facts : Type 0 where
    pub two_fans : nat_lt (length (fans m v)) 2 ≡ false
    pub may_move : is_solid m v ≡ false
    pub fits : is_over_limits (pinch_scaffold m v).mesh ≡ false
    pub none_lacks : first_failing meets (pinch_scaffold m v) depth ≡ None
    pub is_pinch : Change.Pinch v (first_point m v) (later_copies m v) ≡ change

  facts : Facts
  facts =
      let scaffold = pinch_scaffold m v in
      let hits = hit_in meets scaffold depth ∷ [] in
      let fulls = reason_if (is_over_limits scaffold.mesh) Full ∷ hits in
      let solids = reason_if (is_solid m v) Solid ∷ fulls in
      let all = done_is _ _ _ done in
      let one = none_first (reason_if (nat_lt (length (fans m v)) 2) OneFan) solids all.0 in
      let free = none_first (reason_if (is_solid m v) Solid) fulls one.1 in
      let two = none_first (reason_if (is_over_limits scaffold.mesh) Full) hits free.1 in
      let three = none_first (hit_in meets scaffold depth) [] two.1 in
      record {
        two_fans = does_not_hold _ _ one.0;
        may_move = does_not_hold _ _ free.0;
        fits = does_not_hold _ _ two.0;
        none_lacks = no_name (λ p. Hit p) (first_failing meets scaffold depth) three.0;
        is_pinch = all.1;
      }

  live : IsLiveVertex m v
  live = pinched_live m v sound facts.two_fans

  below : v < m.next_vertex
  below = (sound.is_mesh.vertex_ids v live).1

  scaffold_sound : IsSound (pinch_scaffold m v).mesh
  scaffold_sound = pinch_is_sound m v (first_point m v) (copy_points (later_copies m v)) sound closed live facts.fits

  scaffold_closed : IsClosed (pinch_scaffold m v).mesh
  scaffold_closed = pinch_is_closed m v (first_point m v) (copy_points (later_copies m v)) sound.is_mesh below closed

  result : pinch_result m change ≡ (pinch_scaffold m v).mesh
  result = ap (pinch_result m) (sym facts.is_pinch)

  pub pinch_leaves_sound : IsSound (pinch_result m change)
  pinch_leaves_sound = subst IsSound (sym result) scaffold_sound

  pub pinch_leaves_closed : IsClosed (pinch_result m change)
  pinch_leaves_closed = subst IsClosed (sym result) scaffold_closed

  scaffold_clear : IsExact meets → IsClearAfter (pinch_scaffold m v).mesh (motion_of (pinch_scaffold m v))
  scaffold_clear exact = none_failing_is_clear meets exact (pinch_scaffold m v) depth scaffold_sound facts.none_lacks

  pub pinch_leaves_clear : IsExact meets → IsClearMesh (pinch_result m change)
  pinch_leaves_clear exact = subst IsClearMesh (sym result)
      (clear_where_it_ends (pinch_scaffold m v).mesh (motion_of (pinch_scaffold m v)) (pinch_ends m v below) (scaffold_clear exact))

  -- the motion clause
  pub pinch_moves_clear : IsExact meets → MovesClear pinch_tested_on m change
  pinch_moves_clear exact = subst (MovesClear pinch_tested_on m) facts.is_pinch (scaffold_closed, scaffold_clear exact)

pub pinch_stays_sound : (meets : Positions → Bool) (v depth : ℕ) → StaysSound pinch_result (λ m. pinch_answer meets m v depth)
pinch_stays_sound meets v depth m change sound closed done = pinch_leaves_sound meets v depth m change sound closed done

pub pinch_stays_closed : (meets : Positions → Bool) (v depth : ℕ) → StaysClosed pinch_result (λ m. pinch_answer meets m v depth)
pinch_stays_closed meets v depth m change sound closed done = pinch_leaves_closed meets v depth m change sound closed done

pub pinch_stays_clear : (meets : Positions → Bool) → IsExact meets → (v depth : ℕ) → StaysClear pinch_result (λ m. pinch_answer meets m v depth)
pinch_stays_clear meets exact v depth m change sound closed clear done = pinch_leaves_clear meets v depth m change sound closed done exact

pub pinch_motion_is_clear : (meets : Positions → Bool) → IsExact meets → (v depth : ℕ) → MotionIsClear pinch_tested_on (λ m. pinch_answer meets m v depth)
pinch_motion_is_clear meets exact v depth m change sound closed done = pinch_moves_clear meets v depth m change sound closed done exact

-- its change is a pinch
pub pinch_always_makes : (meets : Positions → Bool) (v depth : ℕ) → AlwaysMakes IsPinch (λ m. pinch_answer meets m v depth)
pinch_always_makes meets v depth m change done = subst IsPinch (done_is _ _ _ done).1 tt
