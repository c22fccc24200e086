-- The ids of vertices go on through edits: none is given again, and a solid vertex that is left is solid.
use Rattle.std.proofs.Common.{◌≡◌, ℕ, ◌<◌, ◌≤◌, ◌==◌, ◌&&◌, ◌||◌, not, Bool, true, false, cond, List, [], ◌∷◌, Option, Some, None, drop, length, nat_lt, is_some, refl, sym, ap, subst, ◌∙◌, ⊎_elim, arith}
use Rattle.std.proofs.lemmas.Bool.Decides.{nat_tests}
use Rattle.std.specs.Ordering.{nat_cmp}
use Rattle.std.specs.Cmp.{nat_cmp_total, unsigned_tied}
use Rattle.std.specs.FinMap.{get-insert}
use Rattle.std.specs.List.{fold, zip, filter}
use Rattle.std.specs.FinMap as finite
use Rattle.grid_base.specs.declared.Point.{Point}
use Rattle.grid_base.specs.declared.Positions.{Positions}
use Rattle.grid_base.specs.SeparationTests.{IsExact}
use Rattle.mesh_base.specs.Mesh.{Mesh, IsSound, IsLiveVertex, is_solid}
use Rattle.mesh_base.specs.Sides.{faces_at, faces_where, has_corner}
use Rattle.mesh_base.specs.Valid.{IsValidSurface}
use Rattle.mesh_base.specs.Changes.{with_vertex, with_point}
use Rattle.mesh_base.proofs.Finite.{live_after_insert}
use Rattle.edit_base.specs.declared.asked.Asked.{Asked}
use Rattle.edit_base.specs.declared.answers.Change.{Change}
use Rattle.edit_base.specs.declared.answers.Change.TheVariants.{Split, Flip, Collapse, Zip, Pinch}
use Rattle.edit_base.specs.declared.answers.Why.TheVariants.{OneFan, Solid, Full}
use Rattle.edit_base.specs.declared.answers.Edit.{Edit}
use Rattle.edit_base.specs.declared.answers.Edit.TheVariants.{Done, No}
use Rattle.edit_base.specs.Clauses.{mesh_after}
use Rattle.edit_base.specs.Reasons.{reason_if, hit_in}
use Rattle.edit_base.proofs.ReasonLaws.{done_is, none_first, does_not_hold}
use Rattle.mesh_base.specs.Limits.{is_over_limits}
use Rattle.edit_split.specs.Done.{IsSplit}
use Rattle.edit_split.proofs.SplitDone.{split_always_makes}
use Rattle.edit_flip.specs.Done.{IsFlip}
use Rattle.edit_flip.proofs.FlipDone.{flip_always_makes}
use Rattle.edit_collapse.specs.Collapse.{collapse_mesh, without_shared, joined_faces, without_bare, has_face, has_solid_end}
use Rattle.edit_collapse.specs.Done.{IsCollapse}
use Rattle.edit_collapse.proofs.CollapseDone.{collapse_always_makes}
use Rattle.edit_collapse.proofs.CollapseMesh.{dropped_next, placed_next}
use Rattle.edit_collapse.proofs.Joined.{next_vertex-without_faces}
use Rattle.edit_collapse.proofs.Three.{three_cut}
use Rattle.edit_collapse.proofs.SolidEnds.{were_live}
use Rattle.edit_zip.specs.Done.{IsZip}
use Rattle.edit_zip.proofs.ZipDone.{zip_always_makes}
use Rattle.edit_pinch.specs.Pinch.{fans, with_copy, pinch_scaffold, copy_points}
use Rattle.edit_pinch.specs.Answer.{pinch_answer}
use Rattle.edit_pinch.proofs.CopyClosed.{next_vertex-renamed}
use Rattle.edit_pinch.proofs.PinchDone.{kept_point, pinched_live}
use Rattle.edit_any.specs.Dispatch.{answer_to, edited}
use Rattle.edit_any.proofs.SolidVertices.{asked_stays}
use Rattle.log_replay.specs.Replay.{at_mesh}
use Rattle.pass_run.specs.PassLines.{PassRules, answer_by, mesh_asked, lines_of, mesh_from, ends, mesh_after_all}
use Rattle.pass_run.proofs.Keeping.{all_keep}

-- From one mesh to a later one, which edits make of it:
pub record VertexIdsGoOn (m later : Mesh) : Type 0 where
  -- new ids begin no lower;
  pub next : m.next_vertex ≤ later.next_vertex
  -- an id that was given before names a vertex only if it did;
  pub none_again : (v : ℕ) → v < m.next_vertex → IsLiveVertex later v → IsLiveVertex m v
  -- and if it named a solid one that is left, it names a solid one
  pub solid : (v : ℕ) → v < m.next_vertex → is_solid m v ≡ true → IsLiveVertex later v → is_solid later v ≡ true

-- what is said of the ids alone
record NoneAgain (m later : Mesh) : Type 0 where
  pub next : m.next_vertex ≤ later.next_vertex
  pub none_again : (v : ℕ) → v < m.next_vertex → IsLiveVertex later v → IsLiveVertex m v

-- where no id is new
none_new : (m later : Mesh) → later.next_vertex ≡ m.next_vertex → ((v : ℕ) → IsLiveVertex later v → IsLiveVertex m v) → NoneAgain m later
none_new m later same lived = record { next = omega (arith, same); none_again = λ v below live. lived v live }

-- an insertion at another key is not seen
got_elsewhere : (points : finite.FinMap nat_cmp Point) (k : ℕ) (at : Point) (v : ℕ) → v < k → finite.get (finite.insert points k at) v ≡ finite.get points v
got_elsewhere points k at v below = get-insert nat_cmp_total points k at v ∙ ap (λ t. cond t (Some at) (finite.get points v)) (unsigned_tied v k ∙ apart v k below)
  where
    apart : (a b : ℕ) → a < b → (a == b) ≡ false
    apart a b low = grind (arith, nat_tests)

module _ (m : Mesh) where
  split_goes_on : (change : Change) → IsSplit change → NoneAgain m (edited m change)
  split_goes_on (Split a b w at) is = record {
    next = omega arith;
    none_again = λ v below live. sym (ap is_some (got_elsewhere m.points m.next_vertex at v below)) ∙ live;
  }
  split_goes_on change is = absurd is

  flip_goes_on : (change : Change) → IsFlip change → NoneAgain m (edited m change)
  flip_goes_on (Flip a b) is = none_new m (edited m (Flip a b)) refl (λ v live. live)
  flip_goes_on change is = absurd is

  zip_goes_on : (change : Change) → IsZip change → NoneAgain m (edited m change)
  zip_goes_on (Zip a b e f turn) is = none_new m (edited m (Zip a b e f turn)) refl (λ v live. live)
  zip_goes_on change is = absurd is

  -- ---- a collapse drops vertices and makes none
  collapsed_next : (a b : ℕ) (at : Point) → (collapse_mesh m a b at).next_vertex ≡ m.next_vertex
  collapsed_next a b at =
      let one = without_shared m a b in
      let three = joined_faces m a b in
      let four = without_bare m b three in
      (placed_next (has_solid_end m a b) (finite.contains_key four.points a) four a at).0
      ∙ (dropped_next (filter (λ v. (v == b) || (has_face m v && not (has_face three v))) (finite.keys three.points)) three).0
      ∙ (three_cut m a b).next_vertex
      ∙ next_vertex-renamed b a one (faces_at one b)
      ∙ next_vertex-without_faces m (faces_where (λ c. has_corner c a && has_corner c b) m)

  collapse_goes_on : (change : Change) → IsCollapse change → NoneAgain m (edited m change)
  collapse_goes_on (Collapse a b at) is = none_new m (collapse_mesh m a b at) (collapsed_next a b at) (were_live m a b at)
  collapse_goes_on change is = absurd is

  -- ---- the copies that a pinch makes are new
  copies_go_on : (v : ℕ) (n : Mesh) (others : List (List ℕ)) (points : List Point) → n.next_vertex ≤ (fold (with_copy v) n (zip others points)).next_vertex
  copies_go_on v n [] points = omega arith
  copies_go_on v n (d ∷ ds) [] = omega arith
  copies_go_on v n (d ∷ ds) (p ∷ ps) =
      let one = next_vertex-renamed v n.next_vertex (with_vertex n p) d in
      let rest = copies_go_on v (with_copy v n (d, p)) ds ps in
      omega (arith, one, rest)

  -- a pinch is of a vertex that lives
  abbrev PinchesLive : Change → Type 0
  PinchesLive (Pinch v at copies) = IsLiveVertex m v
  PinchesLive _ = ⊥

  pinch_goes_on : (change : Change) → PinchesLive change → NoneAgain m (edited m change)
  pinch_goes_on (Pinch v at copies) lives =
      let others = drop 1 (fans m v) in
      record {
        next = copies_go_on v (with_point m v at) others (copy_points copies);
        none_again = λ u below live.
            let stood : IsLiveVertex (with_point m v at) u = sym (ap is_some (kept_point v (with_point m v at) others (copy_points copies) u below)) ∙ live in
            ⊎_elim (λ same. subst (IsLiveVertex m) (sym same) lives) (λ old. old) (live_after_insert m.points v at u stood);
      }
  pinch_goes_on change lives = absurd lives

pinched_lives : (meets : Positions → Bool) (v depth : ℕ) (m : Mesh) (change : Change) → IsSound m → pinch_answer meets m v depth ≡ Done change → PinchesLive m change
pinched_lives meets v depth m change sound done =
    let scaffold = pinch_scaffold m v in
    let all = done_is _ _ _ done in
    let solids = reason_if (is_solid m v) Solid ∷ reason_if (is_over_limits scaffold.mesh) Full ∷ hit_in meets scaffold depth ∷ [] in
    let one = none_first (reason_if (nat_lt (length (fans m v)) 2) OneFan) solids all.0 in
    subst (PinchesLive m) all.1 (pinched_live m v sound (does_not_hold _ _ one.0))

none_is_again : (meets : Positions → Bool) (depth : ℕ) (what : Asked) (m : Mesh) (change : Change) → IsSound m → answer_to meets m depth what ≡ Done change → NoneAgain m (edited m change)
none_is_again meets depth (Asked.Split a b) m change sound done = split_goes_on m change (split_always_makes meets a b depth m change done)
none_is_again meets depth (Asked.Flip a b) m change sound done = flip_goes_on m change (flip_always_makes meets a b depth m change done)
none_is_again meets depth (Asked.Collapse a b) m change sound done = collapse_goes_on m change (collapse_always_makes meets a b depth m change done)
none_is_again meets depth (Asked.Zip a b e f) m change sound done = zip_goes_on m change (zip_always_makes meets a b e f m change done)
none_is_again meets depth (Asked.Pinch v) m change sound done = pinch_goes_on m change (pinched_lives meets v depth m change sound done)

asked_goes_on : (meets : Positions → Bool) (depth : ℕ) (what : Asked) (m : Mesh) (change : Change) → IsValidSurface m → answer_to meets m depth what ≡ Done change → VertexIdsGoOn m (edited m change)
asked_goes_on meets depth what m change good done =
    let ids = none_is_again meets depth what m change good.sound done in
    let stays = asked_stays meets depth what m change good.sound good.closed done in
    record { next = ids.next; none_again = ids.none_again; solid = λ v below solid live. stays.remain v solid live }

-- ---- one after another
pub go_on_from : (m : Mesh) → VertexIdsGoOn m m
go_on_from m = record { next = omega arith; none_again = λ v below live. live; solid = λ v below solid live. solid }

go_on_then : (m n later : Mesh) → VertexIdsGoOn m n → VertexIdsGoOn n later → VertexIdsGoOn m later
go_on_then m n later first second =
    let up : (v : ℕ) → v < m.next_vertex → v < n.next_vertex = λ v below. let more = first.next in omega (arith, below, more) in
    record {
      next = let one = first.next in let two = second.next in omega (arith, one, two);
      none_again = λ v below live. first.none_again v below (second.none_again v (up v below) live);
      solid = λ v below solid live. second.solid v (up v below) (first.solid v below solid (second.none_again v (up v below) live)) live;
    }

module _ (rules : PassRules) where
  -- an answer to what is asked
  answered_goes_on : (m : Mesh) → IsValidSurface m → (what : Asked) (answer : Edit) → answer_by rules m what ≡ answer → VertexIdsGoOn m (mesh_after edited m answer)
  answered_goes_on m good what (Done change) e = asked_goes_on rules.meets rules.depth what m change good e
  answered_goes_on m good what (No why) e = go_on_from m

  -- what is asked at a turn, if anything
  one_goes_on : (m : Mesh) → IsValidSurface m → (call : Option Asked) → VertexIdsGoOn m (mesh_asked (answer_by rules m) m call)
  one_goes_on m good (Some what) = answered_goes_on m good what (answer_by rules m what) refl
  one_goes_on m good None = go_on_from m

  -- the mesh is again sound, closed and clear
  good_next : IsExact rules.meets → (m : Mesh) → IsValidSurface m → (what : Asked) → IsValidSurface (mesh_from rules m what)
  good_next exact m good what = by_test (ends rules.grouped (lines_of rules m what)) (all_keep rules exact (at_mesh m) good (what ∷ [])).1
    where
      by_test : (b : Bool) → IsValidSurface (cond b (mesh_from rules m what) (mesh_from rules m what)) → IsValidSurface (mesh_from rules m what)
      by_test true h = h
      by_test false h = h

  pub ids_go_on : IsExact rules.meets → (m : Mesh) → IsValidSurface m → (all : List Asked) → VertexIdsGoOn m (mesh_after_all rules m all)
  ids_go_on exact m good [] = go_on_from m
  ids_go_on exact m good (what ∷ rest) =
      let next = mesh_from rules m what in
      let one = one_goes_on m good (rules.choice m what) in
      by_test next one (ids_go_on exact next (good_next exact m good what) rest) (ends rules.grouped (lines_of rules m what))
    where
      by_test : (next : Mesh) → VertexIdsGoOn m next → VertexIdsGoOn next (mesh_after_all rules next rest) → (b : Bool) → VertexIdsGoOn m (cond b next (mesh_after_all rules next rest))
      by_test next one others true = one
      by_test next one others false = go_on_then m next (mesh_after_all rules next rest) one others
