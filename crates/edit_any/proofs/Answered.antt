-- An edit that is done is done again: at a greater depth, and where its change says what is asked.
use Rattle.std.proofs.Common.{◌≡◌, ℕ, Bool, not, ◌||◌, ◌==◌, ◌++◌, nat_lt, min, max, length, Option, [], ◌∷◌, sym, ap, ◌∙◌}
use Rattle.std.specs.Option.{option_map_or, unwrap_or}
use Rattle.grid_base.specs.declared.Positions.{Positions}
use Rattle.mesh_base.specs.Mesh.{Mesh, is_solid}
use Rattle.mesh_base.specs.Pairs.{is_edge, is_crowded}
use Rattle.mesh_base.specs.Limits.{is_over_limits}
use Rattle.edit_base.specs.declared.asked.Asked.{Asked}
use Rattle.edit_base.specs.declared.answers.Why.{Why}
use Rattle.edit_base.specs.declared.answers.Why.TheVariants.{NoEdge, Crowded, Shared, Solid, OneFan, Full, Doubled}
use Rattle.edit_base.specs.declared.answers.Why.TheVariants.{Edge as IsAnEdge}
use Rattle.edit_base.specs.declared.answers.Change.{Change}
use Rattle.edit_base.specs.declared.answers.Change.TheVariants.{Split, Flip, Collapse, Zip, Pinch}
use Rattle.edit_base.specs.declared.answers.Edit.{Edit}
use Rattle.edit_base.specs.declared.answers.Edit.TheVariants.{Done, No}
use Rattle.edit_base.specs.Reasons.{reason_if, first_reason, done_unless, is_full, hit_in}
use Rattle.edit_base.specs.Edges.{Edge, edge_of, doubles_a_face}
use Rattle.edit_base.proofs.ReasonLaws.{done_is, edge_again}
use Rattle.edit_base.proofs.Deeper.{done_deeper}
use Rattle.edit_split.specs.Split.{split_point, split_scaffold}
use Rattle.edit_flip.specs.Flip.{flip_mesh, flip_scaffold}
use Rattle.edit_collapse.specs.Collapse.{are_both_solid, collapse_mesh, collapse_point, collapse_scaffold, joined_faces}
use Rattle.edit_collapse.specs.Answer.{answer_of}
use Rattle.edit_zip.specs.Zip.{zip_mesh, taken_turn, last_reason, four_ids, repeats}
use Rattle.edit_zip.proofs.ZipDone.{done_of}
use Rattle.edit_pinch.specs.Pinch.{pinch_scaffold, first_point, later_copies, fans}
use Rattle.edit_any.specs.Dispatch.{answer_to}
use Rattle.edit_any.specs.Answered.{asked_of, EditsStayDone, ChangesTellTheEdit}

-- ---- deeper
pub edits_stay_done : EditsStayDone
edits_stay_done meets m (Asked.Split u v) change depth deeper most done =
    let s = edge_of m u v in
    done_deeper meets depth deeper most (split_scaffold m s)
    (reason_if (not (is_edge m s.a s.b)) NoEdge ∷ reason_if (is_crowded m s.a s.b) Crowded ∷ reason_if (is_over_limits (split_scaffold m s).mesh) Full ∷ [])
    (Split s.a s.b m.next_vertex (split_point m s)) change done
edits_stay_done meets m (Asked.Flip u v) change depth deeper most done =
    let s = edge_of m u v in
    done_deeper meets depth deeper most (flip_scaffold m s)
    (reason_if (not (is_edge m s.a s.b)) NoEdge ∷ reason_if (is_crowded m s.a s.b) Crowded ∷ reason_if ((s.c == s.d) || is_edge m s.c s.d) IsAnEdge ∷ reason_if (is_full (flip_scaffold m s).mesh (flip_mesh m s)) Full ∷ [])
    (Flip s.a s.b) change done
edits_stay_done meets m (Asked.Collapse u v) change depth deeper most done =
    let a = min u v in
    let b = max u v in
    let at = collapse_point m a b in
    done_deeper meets depth deeper most (collapse_scaffold m a b at)
    (reason_if (not (is_edge m a b)) NoEdge ∷ reason_if (are_both_solid m a b) Solid ∷ reason_if (doubles_a_face (joined_faces m a b)) Doubled ∷ reason_if (is_full (collapse_scaffold m a b at).mesh (collapse_mesh m a b at)) Full ∷ [])
    (Collapse a b at) change done
edits_stay_done meets m (Asked.Zip u v x y) change depth deeper most done = done
edits_stay_done meets m (Asked.Pinch v) change depth deeper most done =
    done_deeper meets depth deeper most (pinch_scaffold m v)
    (reason_if (nat_lt (length (fans m v)) 2) OneFan ∷ reason_if (is_solid m v) Solid ∷ reason_if (is_over_limits (pinch_scaffold m v).mesh) Full ∷ [])
    (Pinch v (first_point m v) (later_copies m v)) change done

-- ---- asked by the change
module _ (meets : Positions → Bool) (m : Mesh) (depth : ℕ) where
  -- what is answered of an edge
  abbrev split_of : Edge → Edit
  split_of s = done_unless
      (first_reason (reason_if (not (is_edge m s.a s.b)) NoEdge ∷ reason_if (is_crowded m s.a s.b) Crowded ∷ reason_if (is_over_limits (split_scaffold m s).mesh) Full ∷ hit_in meets (split_scaffold m s) depth ∷ []))
      (Split s.a s.b m.next_vertex (split_point m s))

  abbrev flip_of : Edge → Edit
  flip_of s = done_unless
      (first_reason (reason_if (not (is_edge m s.a s.b)) NoEdge ∷ reason_if (is_crowded m s.a s.b) Crowded ∷ reason_if ((s.c == s.d) || is_edge m s.c s.d) IsAnEdge ∷ reason_if (is_full (flip_scaffold m s).mesh (flip_mesh m s)) Full ∷ hit_in meets (flip_scaffold m s) depth ∷ []))
      (Flip s.a s.b)

  abbrev zip_reason : Edge → Edge → Option Why
  zip_reason s t = first_reason (reason_if (not (is_edge m s.a s.b) || not (is_edge m t.a t.b)) NoEdge ∷ reason_if (is_crowded m s.a s.b || is_crowded m t.a t.b) Crowded ∷ reason_if (repeats (four_ids s ++ four_ids t)) Shared ∷ reason_if (is_over_limits (zip_mesh m s t 0)) Full ∷ [])

  abbrev zip_of : Edge → Edge → Edit
  zip_of s t = option_map_or (λ why. No why) (zip_reason s t)
      (option_map_or (λ turn. Done (Zip s.a s.b t.a t.b turn)) (taken_turn meets m s t) (No (unwrap_or (last_reason meets m s t) Doubled)))

  -- the change is told of the edit that is made
  told : (made change : Change) → made ≡ change → answer_to meets m depth (asked_of made) ≡ Done change → answer_to meets m depth (asked_of change) ≡ Done change
  told made change same done = ap (λ c. answer_to meets m depth (asked_of c)) (sym same) ∙ done

  asked_again : (what : Asked) (change : Change) → answer_to meets m depth what ≡ Done change → answer_to meets m depth (asked_of change) ≡ Done change
  asked_again (Asked.Split u v) change done = told _ change (done_is _ _ change done).1 (ap split_of (edge_again m u v) ∙ done)
  asked_again (Asked.Flip u v) change done = told _ change (done_is _ _ change done).1 (ap flip_of (edge_again m u v) ∙ done)
  asked_again (Asked.Collapse u v) change done =
      let same : answer_of meets m (min (min u v) (max u v)) (max (min u v) (max u v)) depth ≡ answer_of meets m (min u v) (max u v) depth = ap (λ (e : Edge). answer_of meets m e.a e.b depth) (edge_again m u v) in
      told _ change (done_is _ _ change done).1 (same ∙ done)
  asked_again (Asked.Zip u v x y) change done =
      let s = edge_of m u v in
      let t = edge_of m x y in
      let made = (done_of (zip_reason s t) (taken_turn meets m s t) (λ turn. Zip s.a s.b t.a t.b turn) (unwrap_or (last_reason meets m s t) Doubled) change done).1 in
      let same : zip_of (edge_of m s.a s.b) (edge_of m t.a t.b) ≡ zip_of s t = λ i. zip_of (edge_again m u v i) (edge_again m x y i) in
      told (Zip s.a s.b t.a t.b made.0) change made.2 (same ∙ done)
  asked_again (Asked.Pinch v) change done = told _ change (done_is _ _ change done).1 done

pub changes_tell_the_edit : ChangesTellTheEdit
changes_tell_the_edit meets m what change depth done = asked_again meets m depth what change done
