-- The turns of edges. An edit of an edge leaves every other vertex where it stands.
use Rattle.std.proofs.Common.{◌≡◌, ◌≢◌, ℕ, ◌+◌, ◌<◌, ◌≤◌, Bool, true, false, cond, ◌&&◌, ◌||◌, ◌==◌, not, min, max, List, [], ◌∷◌, length, Option, Some, None, Result, Ok, is_some, ⊎_elim, refl, sym, ap, subst, ◌∙◌, arith}
use Rattle.std.proofs.lemmas.Bool.{cases_lt}
use Rattle.std.specs.List.{filter}
use Rattle.std.specs.Cmp.{nat_cmp_total, unsigned_tied}
use Rattle.std.specs.FinMap as finite
use Rattle.std.specs.FinMap.{get-insert}
use Rattle.grid_base.specs.declared.Point.{Point}
use Rattle.mesh_base.proofs.Tests.{untied}
use Rattle.mesh_base.specs.Mesh.{Mesh}
use Rattle.mesh_base.specs.Sides.{has_corner, faces_where, faces_at}
use Rattle.edit_base.specs.declared.answers.Why.{Why}
use Rattle.edit_base.specs.declared.answers.Change.{Change}
use Rattle.edit_base.specs.declared.Asked.{Asked}
use Rattle.edit_base.specs.declared.PassKind.{PassKind}
use Rattle.edit_base.specs.declared.PassKind.TheVariants.{Split, Collapse, Flip, Zip, Pinch}
use Rattle.edit_base.specs.Edges.{Edge, with_renamed, with_all_renamed}
use Rattle.edit_base.specs.Clauses.{mesh_after}
use Rattle.edit_base.specs.Reasons.{done_unless}
use Rattle.edit_split.specs.Split.{split_mesh}
use Rattle.edit_flip.specs.Flip.{flip_mesh}
use Rattle.edit_collapse.specs.Collapse.{without_shared, joined_faces, has_face, without_bare, has_solid_end, collapse_mesh}
use Rattle.edit_collapse.proofs.CollapseMesh.{dropped_next, placed_next}
use Rattle.edit_collapse.proofs.Joined.{next_vertex-without_faces}
use Rattle.edit_collapse.proofs.SolidEnds.{keeps_solid_end}
use Rattle.edit_collapse.proofs.Three.{three_cut}
use Rattle.edit_any.specs.Dispatch.{edited}
use Rattle.log_text.specs.declared.LogLine.{LogLine}
use Rattle.log_replay.specs.Replay.{at_mesh}
use Rattle.outside_io.specs.declared.stop.Stop.{Stop}
use Rattle.pass_run.specs.Candidates.{ask_of, is_due, choice_in}
use Rattle.pass_run.specs.PassLines.{PassRules, exactly, answer_by, lines_asked, mesh_asked, lines_of, mesh_from}
use Rattle.pass_run.specs.Places.{IsPlaced, HasPlaces}
use Rattle.pass_run.specs.declared.passes.PassCount.{PassCount}
use Rattle.pass_run.specs.declared.terms.PassTerms.{PassTerms}
use Rattle.pass_run.specs.Results.{Stage, PassResult, exact_answer}
use Rattle.pass_run.proofs.Asking.{asked_makes, leads_there}
use Rattle.pass_run.proofs.AskedTurns.{asked_left, turn_asked}
use Rattle.pass_run.proofs.Placing.{got_inside}

-- ---- what an edit of an edge leaves
-- what is live afterwards and is no end of the edge stood there before, but for new ids
pub record LeavesOthers (m : Mesh) (e : ℕ × ℕ) (next : Mesh) : Type 0 where
  pub others : (v : ℕ) (p : Point) → v ≢ e.0 → v ≢ e.1 → v < m.next_vertex → finite.get next.points v ≡ Some p → finite.get m.points v ≡ Some p
  pub given : m.next_vertex ≤ next.next_vertex

module _ (m : Mesh) (e : ℕ × ℕ) where
  stays : LeavesOthers m e m
  stays = record { others = λ v p not_first not_second low at. at; given = omega arith }

  split_leaves : (s : Edge) (at : Point) → LeavesOthers m e (split_mesh m s at)
  split_leaves s at = record {
    others = λ v p not_first not_second low there. sym (elsewhere v (λ same. omega (arith, low, same))) ∙ there;
    given = one_more m.next_vertex;
  }
    where
      elsewhere : (v : ℕ) → v ≢ m.next_vertex → finite.get (finite.insert m.points m.next_vertex at) v ≡ finite.get m.points v
      elsewhere v apart = get-insert nat_cmp_total m.points m.next_vertex at v ∙ ap (λ t. cond t (Some at) (finite.get m.points v)) (unsigned_tied v m.next_vertex ∙ untied v m.next_vertex apart)

      one_more : (n : ℕ) → n ≤ n + 1
      one_more n = omega arith

  flip_leaves : (s : Edge) → LeavesOthers m e (flip_mesh m s)
  flip_leaves s = record { others = λ v p not_first not_second low there. there; given = as_many m.next_vertex }
    where
      as_many : (n : ℕ) → n ≤ n
      as_many n = omega arith

  collapse_leaves : (at : Point) → LeavesOthers m e (collapse_mesh m (min e.0 e.1) (max e.0 e.1) at)
  collapse_leaves at = record {
    others = λ v p not_first not_second low there. sym ((keeps_solid_end m a b at).others_stand v (neither v e.0 e.1 not_first not_second) (ap is_some there)) ∙ there;
    given = as_many m.next_vertex next.next_vertex ids;
  }
    where
      a : ℕ
      a = min e.0 e.1

      b : ℕ
      b = max e.0 e.1

      next : Mesh
      next = collapse_mesh m a b at

      shared : List ℕ
      shared = faces_where (λ c. has_corner c a && has_corner c b) m

      renamed : (fs : List ℕ) (n : Mesh) → (with_all_renamed b a n fs).next_vertex ≡ n.next_vertex
      renamed [] n = refl
      renamed (f ∷ fs) n = renamed fs (with_renamed b a n f)

      ids : next.next_vertex ≡ m.next_vertex
      ids =
          let three = joined_faces m a b in
          let four = without_bare m b three in
          let bare = filter (λ v. (v == b) || (has_face m v && not (has_face three v))) (finite.keys three.points) in
          (placed_next (has_solid_end m a b) (finite.contains_key four.points a) four a at).0 ∙ (dropped_next bare three).0
          ∙ (three_cut m a b).next_vertex ∙ renamed (faces_at (without_shared m a b) b) (without_shared m a b) ∙ next_vertex-without_faces m shared

      neither : (v u w : ℕ) → v ≢ u → v ≢ w → v ≢ min u w
      neither v u w x y same = ⊎_elim (λ h. x (same ∙ first u w h)) (λ h. y (same ∙ second u w h)) (cases_lt u w)
        where
          first : (u w : ℕ) → u < w → min u w ≡ u
          first u w h = omega (arith, h)

          second : (u w : ℕ) → w ≤ u → min u w ≡ w
          second u w h = omega (arith, h)

      as_many : (n k : ℕ) → k ≡ n → n ≤ k
      as_many n k same = omega (arith, same)

  -- whatever is answered
  answer_leaves : (change : Change) → LeavesOthers m e (edited m change) → (reason : Option Why) → LeavesOthers m e (mesh_after edited m (done_unless reason change))
  answer_leaves change leaves None = leaves
  answer_leaves change leaves (Some why) = stays

  asked_leaves : (rules : PassRules) (kind : PassKind) → LeavesOthers m e (mesh_after edited m (answer_by rules m (ask_of kind e)))
  asked_leaves rules (Split over) = answer_leaves _ (split_leaves _ _) _
  asked_leaves rules (Collapse under) = answer_leaves _ (collapse_leaves _) _
  asked_leaves rules Flip = answer_leaves _ (flip_leaves _) _
  asked_leaves rules (Zip within) = answer_leaves _ (flip_leaves _) _
  asked_leaves rules Pinch = answer_leaves _ (flip_leaves _) _

  -- and whether anything is asked
  pub turn_leaves : (terms : PassTerms) → LeavesOthers m e (mesh_from (exactly terms) m (ask_of terms.kind e))
  turn_leaves terms = by_test (is_due m terms.kind (ask_of terms.kind e))
    where
      by_test : (b : Bool) → LeavesOthers m e (mesh_asked (answer_by (exactly terms) m) m (cond b (Some (ask_of terms.kind e)) None))
      by_test true = asked_leaves (exactly terms) terms.kind
      by_test false = stays

-- so places of the others hold
pub others_placed : (m next : Mesh) (e : ℕ × ℕ) (places : List Point) → LeavesOthers m e next → HasPlaces m places → (v : ℕ) → v ≢ e.0 → v ≢ e.1 → IsPlaced next places v
others_placed m next e places leaves has v not_first not_second q at p there =
    let inside = got_inside places v q at in
    has.placed v q at p (leaves.others v p not_first not_second (omega (arith, inside, has.given)) there)

-- ---- the lines of edges that are left
abbrev pub edges_left : PassTerms → Mesh → List (ℕ × ℕ) → List LogLine
edges_left terms m es = asked_left (ask_of terms.kind) terms m es

-- ---- the turn of an edge
module _ (terms : PassTerms) (e : ℕ × ℕ) (old new : Stage) where
  abbrev what : Asked
  what = ask_of terms.kind e

  abbrev TurnResult : Result PassCount Stop → Type 0
  TurnResult r = PassResult (lines_of (exactly terms) old.mesh what) old new r

  -- what is chosen is asked
  pub turn_result : (r : Result PassCount Stop) (asked : Asked) (call : Option Asked) → asked ≡ what → call ≡ choice_in terms.kind old.mesh asked → PassResult (lines_asked (exact_answer terms.depth old.mesh) call) old new r → TurnResult r
  turn_result r asked call is chosen h = turn_asked terms what old new r asked call is chosen h

  module _ (count : PassCount) (result : TurnResult (Ok count)) where
    leaves : LeavesOthers old.mesh e new.mesh
    leaves = subst (λ n. LeavesOthers old.mesh e n) (sym (leads_there old.mesh (mesh_from (exactly terms) old.mesh what) (lines_of (exactly terms) old.mesh what) new.mesh (asked_makes (exactly terms) (at_mesh old.mesh) what) result.said.0)) (turn_leaves old.mesh e terms)

    -- its ends have their places again
    pub places_again : (before between after : List Point) → HasPlaces old.mesh before
        → ((u : ℕ) → (u ≢ e.0 → IsPlaced new.mesh before u) → IsPlaced new.mesh between u) → length between ≡ length before
        → ((u : ℕ) → (u ≢ e.1 → IsPlaced new.mesh between u) → IsPlaced new.mesh after u) → length after ≡ length between
        → HasPlaces new.mesh after
    places_again before between after has first long second longer = record {
      placed = λ u. second u (λ not_second. first u (λ not_first. others_placed old.mesh new.mesh e before leaves has u not_first not_second));
      given = omega (arith, long, longer, has.given, leaves.given);
    }
