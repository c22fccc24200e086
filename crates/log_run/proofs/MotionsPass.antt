-- The pairs of the motion of a line that fits pass as claimed, where no pair of a step fails.
use Rattle.std.proofs.Common.{◌≡◌, ℕ, ◌≤◌, ◌==◌, ◌||◌, ◌++◌, Bool, true, false, cond, not, min, max, nat_lt, length, List, [], ◌∷◌, Option, Some, None, refl, sym, subst, arith}
use Rattle.std.specs.Prelude.{IfSome}
use Rattle.std.proofs.lemmas.Bool.{false≢true}
use Rattle.std.proofs.lemmas.List.Elements.{All-from_recursion, All-contains}
use Rattle.grid_base.specs.declared.TheConstants.{DEPTH_MAX}
use Rattle.grid_base.specs.declared.Positions.{Positions}
use Rattle.grid_base.specs.Separation.{Passes, double}
use Rattle.grid_base.specs.SeparationTests.{passes}
use Rattle.grid_base.proofs.Reflected.{passes_of, opens_of}
use Rattle.grid_decided.specs.Decided.{meets_exactly, meets_exactly-is_exact}
use Rattle.mesh_base.specs.Failing.{failing, pair_passes}
use Rattle.mesh_base.specs.Mesh.{Mesh, IsSound, is_solid}
use Rattle.mesh_base.specs.Limits.{is_over_limits}
use Rattle.mesh_base.specs.Pairs.{Pair, IsPair, pairs, is_edge, is_crowded}
use Rattle.mesh_base.specs.Placements.{positions}
use Rattle.mesh_base.specs.Shifts.{Shifts, moved_by}
use Rattle.mesh_base.specs.Sides.{IsClosed}
use Rattle.mesh_base.proofs.ListedPairs.{pair_listed}
use Rattle.pair_scan.proofs.Kept.{nothing_kept}
use Rattle.edit_base.specs.declared.Why.{Why}
use Rattle.edit_base.specs.declared.Why.TheVariants.{NoEdge, Crowded, Full, OneFan, Solid, Doubled, Hit}
use Rattle.edit_base.specs.declared.Why.TheVariants.{Edge as IsAnEdge}
use Rattle.edit_base.specs.declared.Change.{Change}
use Rattle.edit_base.specs.declared.Change.TheVariants.{Split, Flip, Collapse, Zip, Pinch}
use Rattle.edit_base.specs.declared.Edit.TheVariants.{Done}
use Rattle.edit_base.specs.declared.Touch.{Touch}
use Rattle.edit_base.specs.declared.Touch.TheVariants.{Never, Start, End}
use Rattle.edit_base.specs.Edges.{edge_of, doubles_a_face}
use Rattle.edit_base.specs.Reasons.{reason_if, first_reason, done_unless, hit_in, is_full}
use Rattle.edit_base.specs.Scaffold.{Scaffold, motion_of, motion_by, joins_contacts, meets_contact_rule, is_as_required, first_failing}
use Rattle.edit_base.proofs.Beside.{beside_of}
use Rattle.edit_base.proofs.Clear.{as_required, no_name}
use Rattle.edit_base.proofs.ReasonLaws.{done_is, none_first}
use Rattle.edit_split.specs.Split.{split_mesh, split_point, split_scaffold}
use Rattle.edit_split.proofs.SplitSound.{split_is_sound}
use Rattle.edit_flip.specs.Flip.{flip_mesh, flip_scaffold}
use Rattle.edit_collapse.specs.Collapse.{are_both_solid, collapse_mesh, collapse_point, collapse_scaffold, joined_faces}
use Rattle.edit_pinch.specs.Pinch.{fans, first_point, later_copies, copy_points, pinch_scaffold}
use Rattle.edit_pinch.proofs.CopySound.{pinch_is_sound}
use Rattle.edit_pinch.proofs.PinchDone.{pinched_live}
use Rattle.edit_any.specs.Dispatch.{scaffold_of}
use Rattle.edit_any.specs.Answered.{asked_of, IsAnswered}
use Rattle.motion_proof.specs.declared.Claim.TheVariants.{Along}
use Rattle.motion_proof.specs.Making.{PassesAs}
use Rattle.motion_proof.proofs.Deeper.{passes_as, opens_as, closes_as}
use Rattle.motion_proof.proofs.Doubled.{passes_doubled}
use Rattle.edit_scaffold.specs.Made.{IsDone, claim_of}
use Rattle.edit_scaffold.proofs.DoneIs.{MayBeSplit, split_done, flip_done, pinch_done}
use Rattle.log_replay.specs.Moves.{AreMoves}
use Rattle.log_run.specs.Motions.{step_ways, PassesIn, PassesWhereMoved}
use Rattle.log_run.proofs.StepMotion.{starts_doubled, ends_doubled}

-- ---- a step
module _ (m : Mesh) (moves : Shifts) (depth : ℕ) (most : depth ≤ DEPTH_MAX) (sound : IsSound m) (are : AreMoves m moves) (none : failing meets_exactly m moves depth ≡ []) (p : Pair) (is : IsPair m p) where
  passed : pair_passes meets_exactly depth (moved_by m moves) p ≡ true
  passed =
      let fails : Pair → Bool = λ x. not (pair_passes meets_exactly depth (moved_by m moves) x) in
      let kept = nothing_kept (λ x. x.name) fails (pairs m) none in
      all_true (pair_passes meets_exactly depth (moved_by m moves) p) (All-contains (λ x. fails x ≡ false) (pairs m) p (All-from_recursion (λ x. fails x ≡ false) (pairs m) kept) ((pair_listed m sound p).1 is))
    where
      all_true : (b : Bool) → not b ≡ false → b ≡ true
      all_true true e = refl
      all_true false e = absurd (false≢true (sym e))

  pub step_passes : PassesAs Along (positions (motion_by m (step_ways m moves)).start p) (positions (motion_by m (step_ways m moves)).end p)
  step_passes =
      let s = positions (moved_by m moves).start p in
      let t = positions (moved_by m moves).end p in
      let grid : Passes depth s t = passes_of meets_exactly meets_exactly-is_exact depth s t passed in
      let halves : PassesAs Along (double s) (double t) = passes_as Along depth (double s) (double t) most (passes_doubled depth s t grid) in
      subst (λ x. PassesAs Along x (positions (motion_by m (step_ways m moves)).end p)) (sym (starts_doubled m moves are p))
      (subst (λ x. PassesAs Along (double s) x) (sym (ends_doubled m moves are p)) halves)

-- ---- an edit
module _ (depth : ℕ) (most : depth ≤ DEPTH_MAX) where
  -- a pair that is as required passes
  rule_passes : (touch : Touch) (s t : Positions) → meets_contact_rule meets_exactly touch depth s t ≡ true → PassesAs (claim_of touch) s t
  rule_passes Never s t e = passes_as Along depth s t most (passes_of meets_exactly meets_exactly-is_exact depth s t e)
  rule_passes Start s t e = opens_as depth s t most (opens_of depth s t e)
  rule_passes End s t e = closes_as depth s t most (opens_of depth t s e)

  required_passes : (s : Scaffold) (p : Pair) → is_as_required meets_exactly s depth p ≡ true → PassesIn s p
  required_passes s p e = by_test (joins_contacts s.together p) e
    where
      by_test : (b : Bool) → cond b (meets_contact_rule meets_exactly s.touch depth (positions (motion_of s).start p) (positions (motion_of s).end p)) (passes meets_exactly depth (positions (motion_of s).start p) (positions (motion_of s).end p)) ≡ true → PassesIn s p
      by_test true e = rule_passes s.touch (positions (motion_of s).start p) (positions (motion_of s).end p) e
      by_test false e =
          passes_as (claim_of s.touch) depth (positions (motion_of s).start p) (positions (motion_of s).end p) most
          (passes_of meets_exactly meets_exactly-is_exact depth (positions (motion_of s).start p) (positions (motion_of s).end p) e)

  pub scaffold_passes : (s : Scaffold) → IsSound s.mesh → first_failing meets_exactly s depth ≡ None → PassesWhereMoved (Some s)
  scaffold_passes s sound none p is = required_passes s p (as_required meets_exactly s depth sound none p is)

-- ---- where an edit is done no pair fails
last_none : (before : List (Option Why)) (hit : Option Why) → first_reason (before ++ hit ∷ []) ≡ None → hit ≡ None
last_none [] hit e = (none_first hit [] e).0
last_none (reason ∷ before) hit e = last_none before hit (none_first reason (before ++ hit ∷ []) e).1

none_fails : (depth : ℕ) (s : Scaffold) (before : List (Option Why)) (change done : Change) → done_unless (first_reason (before ++ hit_in meets_exactly s depth ∷ [])) change ≡ Done done → first_failing meets_exactly s depth ≡ None
none_fails depth s before change done e = no_name (λ p. Hit p) (first_failing meets_exactly s depth) (last_none before (hit_in meets_exactly s depth) (done_is _ change done e).0)

-- its scaffold has no pair that fails
abbrev NoneFails : Option Scaffold → Type 0
NoneFails scaffold = IfSome scaffold (λ s. first_failing meets_exactly s DEPTH_MAX ≡ None)

answered_none_fails : (m : Mesh) (change : Change) → IsAnswered m change → NoneFails (scaffold_of m change)
answered_none_fails m (Split a b w at) done =
    let s = edge_of m a b in
    none_fails DEPTH_MAX (split_scaffold m s)
    (reason_if (not (is_edge m s.a s.b)) NoEdge ∷ reason_if (is_crowded m s.a s.b) Crowded ∷ reason_if (is_over_limits (split_scaffold m s).mesh) Full ∷ [])
    (Split s.a s.b m.next_vertex (split_point m s)) (Split a b w at) done
answered_none_fails m (Flip a b) done =
    let s = edge_of m a b in
    none_fails DEPTH_MAX (flip_scaffold m s)
    (reason_if (not (is_edge m s.a s.b)) NoEdge ∷ reason_if (is_crowded m s.a s.b) Crowded ∷ reason_if ((s.c == s.d) || is_edge m s.c s.d) IsAnEdge ∷ reason_if (is_full (flip_scaffold m s).mesh (flip_mesh m s)) Full ∷ [])
    (Flip s.a s.b) (Flip a b) done
answered_none_fails m (Collapse a b at) done =
    let u = min a b in
    let v = max a b in
    let p = collapse_point m u v in
    let none = none_fails DEPTH_MAX (collapse_scaffold m u v p)
    (reason_if (not (is_edge m u v)) NoEdge ∷ reason_if (are_both_solid m u v) Solid ∷ reason_if (doubles_a_face (joined_faces m u v)) Doubled ∷ reason_if (is_full (collapse_scaffold m u v p).mesh (collapse_mesh m u v p)) Full ∷ [])
    (Collapse u v p) (Collapse a b at) done in
    let same = (done_is _ (Collapse u v p) (Collapse a b at) done).1 in
    subst (λ c. NoneFails (scaffold_of m c)) same none
answered_none_fails m (Zip a b e f turn) done = tt
answered_none_fails m (Pinch v at copies) done =
    none_fails DEPTH_MAX (pinch_scaffold m v)
    (reason_if (nat_lt (length (fans m v)) 2) OneFan ∷ reason_if (is_solid m v) Solid ∷ reason_if (is_over_limits (pinch_scaffold m v).mesh) Full ∷ [])
    (Pinch v (first_point m v) (later_copies m v)) (Pinch v at copies) done

-- ---- its scaffold is sound
split_mesh_sound : (m : Mesh) (a b : ℕ) → IsSound m → IsClosed m → MayBeSplit m (edge_of m a b) → IsSound (split_mesh m (edge_of m a b) (split_point m (edge_of m a b)))
split_mesh_sound m a b sound closed may = split_is_sound m (edge_of m a b) (split_point m (edge_of m a b)) sound (beside_of m a b sound closed may.edge.is_edge) may.fits

done_sound : (m : Mesh) (change : Change) → IsSound m → IsClosed m → IsDone m change → IfSome (scaffold_of m change) (λ s. IsSound s.mesh)
done_sound m (Split a b w at) sound closed done = split_mesh_sound m a b sound closed (split_done m a b w at done)
done_sound m (Flip a b) sound closed done = split_mesh_sound m a b sound closed (flip_done m a b done)
done_sound m (Collapse a b at) sound closed done = sound
done_sound m (Zip a b e f turn) sound closed done = tt
done_sound m (Pinch v at copies) sound closed done =
    let may = (pinch_done m v at copies done).tried in
    pinch_is_sound m v (first_point m v) (copy_points (later_copies m v)) sound closed (pinched_live m v sound may.two_fans) may.fits

-- ---- so its pairs pass
pub edit_passes : (m : Mesh) (change : Change) → IsSound m → IsClosed m → IsAnswered m change → PassesWhereMoved (scaffold_of m change)
edit_passes m change sound closed done =
    by_scaffold (scaffold_of m change) (done_sound m change sound closed (record { what = asked_of change; depth = DEPTH_MAX; answer = done })) (answered_none_fails m change done)
  where
    within : DEPTH_MAX ≤ DEPTH_MAX
    within = omega arith

    by_scaffold : (o : Option Scaffold) → IfSome o (λ s. IsSound s.mesh) → NoneFails o → PassesWhereMoved o
    by_scaffold None s none = tt
    by_scaffold (Some x) s none = scaffold_passes DEPTH_MAX within x s none
