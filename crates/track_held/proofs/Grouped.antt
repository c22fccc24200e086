-- A group that is opened, edits in it, and how it ends: what they write is what the whole writes.
use Rattle.std.proofs.Common.{◌≡◌, ℕ, ◌&&◌, Bool, true, false, not, is_some, cond, List, [], ◌∷◌, ◌++◌, Option, Some, None, Result, Ok, Err, refl, sym, ap, ◌∙◌, subst, inl, inr}
use Rattle.std.proofs.lemmas.Bool.{false≢true}
use Rattle.mesh_base.specs.declared.UseWhy.{UseWhy}
use Rattle.edit_base.specs.declared.Asked.{Asked}
use Rattle.log_text.specs.Lines.{text_of_lines}
use Rattle.log_text.specs.declared.LogLine.{LogLine}
use Rattle.log_text.specs.declared.LogLine.TheVariants.{Group as GroupLine, Close}
use Rattle.log_write.specs.Written.{WrittenInPart}
use Rattle.log_write.proofs.WrittenLines.{written_nothing, written_whole, written_then, part_then, part_more}
use Rattle.outside_io.specs.Sink.{appended}
use Rattle.outside_io.specs.declared.stop.Stop.{Stop}
use Rattle.track_engine.specs.State.{Group, State}
use Rattle.track_engine.specs.Effects.{Effect, Proceeds, Refused, Unanswered, opened, kept_whole, taken_back, edited_lines, after_edits, edits_effect, close_effect, undo_effect}
use Rattle.track_engine.specs.Parts.{Writes}
use Rattle.track_held.specs.Closings.{closing, closing_by}
use Rattle.track_held.specs.declared.group_end.Closing.TheVariants.{Kept}
use Rattle.track_held.specs.Folding.{is_refused, crowded_after, are_clean, finish_effect, group_effect}

-- ---- what an effect tells

abbrev lines_in : Effect → List LogLine
lines_in (Proceeds lines next) = lines
lines_in (Refused why) = []
lines_in (Unanswered lines) = []

abbrev next_in : State → Effect → State
next_in s (Proceeds lines next) = next
next_in s (Refused why) = s
next_in s (Unanswered lines) = s

abbrev pub Text : Type 0
Text = Option (List ℕ)

-- all its lines are told, and the state is the one after it
pub done_lines : (lines : List LogLine) (next t : State) (old new : Text) → Writes (Proceeds lines next) t old new (Ok None) → new ≡ appended old (text_of_lines lines)
done_lines lines next t old new w = w.2 ∙ ap (λ (e : Effect). appended old (text_of_lines (lines_in e))) (sym w.1)

pub done_state : (lines : List LogLine) (next t : State) (old new : Text) → Writes (Proceeds lines next) t old new (Ok None) → t ≡ next
done_state lines next t old new w = ap (next_in t) (sym w.1)

-- or it stops in them
pub stops_in : (lines : List LogLine) (next t : State) (old new : Text) (stop : Stop) → Writes (Proceeds lines next) t old new (Err stop) → WrittenInPart old new lines
stops_in lines next t old new stop (inl same) = written_nothing old new lines same
stops_in lines next t old new stop (inr w) = let P : List LogLine → Type 0 = λ l. WrittenInPart old new l in subst P (ap lines_in (sym w.2)) w.3

-- it is never refused
pub never_refused : (lines : List LogLine) (next t : State) (old new : Text) (why : UseWhy) → Writes (Proceeds lines next) t old new (Ok (Some why)) → ⊥
never_refused lines next t old new why w = let e = w.0 in absurd cc

pub not_refused : (lines : List LogLine) (next t : State) (old new : Text) (r : Option UseWhy) → Writes (Proceeds lines next) t old new (Ok r) → Writes (Proceeds lines next) t old new (Ok None)
not_refused lines next t old new None w = w
not_refused lines next t old new (Some why) w = absurd (never_refused lines next t old new why w)

-- ---- how a group ends

pub finish_kept : (groups : List Group) (s t : State) (old new : Text) (r : Result (Option UseWhy) Stop) → closing groups ≡ Kept → Writes (close_effect groups s) t old new r → Writes (finish_effect true groups s) t old new r
finish_kept [] s t old new r is w = w
finish_kept (group ∷ outer) s t old new r is w = by_failed group.failed refl
  where
    by_failed : (b : Bool) → group.failed ≡ b → Writes (finish_effect true (group ∷ outer) s) t old new r
    by_failed false e = let P : Bool → Type 0 = λ f. Writes (Proceeds (Close (not f) ∷ []) (cond f (taken_back group outer s) (kept_whole outer s))) t old new r in subst P e w
    by_failed true e = let h : closing_by (Some true) ≡ Kept = ap (λ (f : Bool). closing_by (Some f)) (sym e) ∙ is in absurd cc

pub finish_undone : (groups : List Group) (s t : State) (old new : Text) (r : Result (Option UseWhy) Stop) → Writes (undo_effect groups s) t old new r → Writes (finish_effect false groups s) t old new r
finish_undone [] s t old new r w = w
finish_undone (group ∷ outer) s t old new r w = w

-- ---- a group of its own

module _ (asked : List Asked) (v : ℕ) (s : State) where
  abbrev pub lines : List LogLine
  lines = edited_lines asked (opened s)

  abbrev pub mid : State
  mid = after_edits asked (opened s)

  -- one that is clean has not failed
  pub clean_is_kept : (keep : Bool) → keep ≡ are_clean asked v (opened s) → keep ≡ true → closing mid.groups ≡ Kept
  clean_is_kept keep is on = by_refused (is_refused asked (opened s)) refl (sym is ∙ on)
    where
      by_refused : (b : Bool) → is_refused asked (opened s) ≡ b → (not b && not (is_some (crowded_after asked v (opened s)))) ≡ true → closing mid.groups ≡ Kept
      by_refused false e on = ap (λ (f : Bool). closing_by (Some f)) e
      by_refused true e on = absurd (false≢true on)

  abbrev pub whole : Bool → List LogLine
  whole keep = GroupLine ∷ (lines ++ Close keep ∷ [])

  abbrev pub after : Bool → State
  after keep = cond keep (kept_whole s.groups mid) s

  module _ (s1 s2 s3 : State) (a b c d : Text) (opens : Writes (Proceeds (GroupLine ∷ []) (opened s)) s1 a b (Ok None)) where
    first : b ≡ appended a (text_of_lines (GroupLine ∷ []))
    first = done_lines (GroupLine ∷ []) (opened s) s1 a b opens

    pub opened_state : s1 ≡ opened s
    opened_state = done_state (GroupLine ∷ []) (opened s) s1 a b opens

    edits_there : (r : Result (Option UseWhy) Stop) → Writes (edits_effect asked s1) s2 b c r → Writes (Proceeds lines mid) s2 b c r
    edits_there r w = let P : State → Type 0 = λ t. Writes (edits_effect asked t) s2 b c r in subst P opened_state w

    pub edited_state : Writes (edits_effect asked s1) s2 b c (Ok None) → s2 ≡ mid
    edited_state w = done_state lines mid s2 b c (edits_there (Ok None) w)

    -- it stops in the edits
    pub stops_in_edits : (t : State) (stop : Stop) → Writes (edits_effect asked s1) s2 b c (Err stop) → Writes (group_effect asked v s) t a c (Err stop)
    stops_in_edits t stop w =
        let keep = are_clean asked v (opened s) in
        inr (whole keep, after keep, refl, part_then a b c (GroupLine ∷ []) (lines ++ Close keep ∷ []) first (part_more b c lines (Close keep ∷ []) (stops_in lines mid s2 b c stop (edits_there (Err stop) w))))

    module _ (edits : Writes (edits_effect asked s1) s2 b c (Ok None)) (keep : Bool) (clean : keep ≡ are_clean asked v s1) where
      clean_there : keep ≡ are_clean asked v (opened s)
      clean_there = clean ∙ ap (are_clean asked v) opened_state

      second : c ≡ appended b (text_of_lines lines)
      second = done_lines lines mid s2 b c (edits_there (Ok None) edits)

      ends_there : (r : Result (Option UseWhy) Stop) → Writes (finish_effect keep s2.groups s2) s3 c d r → Writes (Proceeds (Close keep ∷ []) (after keep)) s3 c d r
      ends_there r w = let P : State → Type 0 = λ t. Writes (finish_effect keep t.groups t) s3 c d r in subst P (edited_state edits) w

      pub kept_there : keep ≡ true → closing s2.groups ≡ Kept
      kept_there on = ap (λ (t : State). closing t.groups) (edited_state edits) ∙ clean_is_kept keep clean_there on

      pub group_done : Writes (finish_effect keep s2.groups s2) s3 c d (Ok None) → Writes (group_effect asked v s) s3 a d (Ok None)
      group_done w =
          let third = ends_there (Ok None) w in
          let P : Bool → Type 0 = λ k. Writes (Proceeds (whole k) (after k)) s3 a d (Ok None) in
          subst P clean_there (
            whole keep,
            ap (Proceeds (whole keep)) (sym (done_state (Close keep ∷ []) (after keep) s3 c d third)),
            written_then a b d (GroupLine ∷ []) (lines ++ Close keep ∷ []) first (written_then b c d lines (Close keep ∷ []) second (done_lines (Close keep ∷ []) (after keep) s3 c d third)),
          )

      -- it stops in the last line
      pub stops_at_end : (t : State) (stop : Stop) → Writes (finish_effect keep s2.groups s2) s3 c d (Err stop) → Writes (group_effect asked v s) t a d (Err stop)
      stops_at_end t stop w =
          let P : Bool → Type 0 = λ k. Writes (Proceeds (whole k) (after k)) t a d (Err stop) in
          subst P clean_there
          (inr (whole keep, after keep, refl, part_then a b d (GroupLine ∷ []) (lines ++ Close keep ∷ []) first (part_then b c d lines (Close keep ∷ []) second (stops_in (Close keep ∷ []) (after keep) s3 c d stop (ends_there (Err stop) w)))))

  -- it stops in the first line
  pub stops_at_first : (s1 t : State) (a b : Text) (stop : Stop) → Writes (Proceeds (GroupLine ∷ []) (opened s)) s1 a b (Err stop) → Writes (group_effect asked v s) t a b (Err stop)
  stops_at_first s1 t a b stop w =
      let keep = are_clean asked v (opened s) in
      inr (whole keep, after keep, refl, part_more a b (GroupLine ∷ []) (lines ++ Close keep ∷ []) (stops_in (GroupLine ∷ []) (opened s) s1 a b stop w))

-- ---- memory is wanting behind all lines
pub forgotten : (lines : List LogLine) (next t u : State) (old new : Text) (stop : Stop) → Writes (Proceeds lines next) t old new (Ok None) → Writes (Proceeds lines next) u old new (Err stop)
forgotten lines next t u old new stop w = inr (lines, next, refl, written_whole old new lines (done_lines lines next t old new w))
