-- What edits that are asked for are, once they are made and said.
use Rattle.std.specs.Prelude.{nat_lt}
use Rattle.std.proofs.Common.{◌≡◌, ℕ, Bool, List, Option, None, Ok, Err, refl, sym, ap, ◌∙◌, subst, inr}
use Rattle.grid_decided.specs.Decided.{meets_exactly, meets_exactly-is_exact}
use Rattle.mesh_base.specs.Mesh.{Mesh}
use Rattle.mesh_base.specs.Shifts.{Shifts}
use Rattle.mesh_base.specs.Valid.{IsValidSurface}
use Rattle.edit_base.specs.declared.Asked.{Asked}
use Rattle.log_text.specs.Lines.{text_of_lines}
use Rattle.log_text.specs.declared.LogLine.{LogLine}
use Rattle.log_write.specs.Written.{WrittenInPart}
use Rattle.outside_io.specs.declared.stop.Stop.{Stop}
use Rattle.outside_io.specs.Sink.{appended}
use Rattle.pass_run.specs.declared.passes.PassCount.{PassCount}
use Rattle.pass_run.specs.Edits.{edit_rules, answers_from}
use Rattle.pass_run.specs.PassLines.{lines_from, mesh_after_all, done_in, refused_in}
use Rattle.pass_run.specs.Said.{SaidInPart}
use Rattle.track_engine.specs.State.{Group, State, asked_in, is_open}
use Rattle.track_engine.specs.Effects.{Proceeds, edited_lines, edited_mesh, edited_answers, after_edits, edits_effect, fail_if}
use Rattle.track_engine.specs.Parts.{Writes}
use Rattle.track_engine.specs.Shifting.{AsksOfGiven}
use Rattle.track_engine.specs.Told.{edits_counted}
use Rattle.track_engine.proofs.AskedLemmas.{rest_again}
use Rattle.track_engine.proofs.VertexIds.{VertexIdsGoOn, ids_go_on}

module _ (asked : List Asked) (s : State) (grouped : Bool) (same : grouped ≡ is_open s.groups) where
  abbrev lines : List LogLine
  lines = lines_from (edit_rules meets_exactly s.set.depth grouped) s.mesh asked

  abbrev end : Mesh
  end = mesh_after_all (edit_rules meets_exactly s.set.depth grouped) s.mesh asked

  lines_are : lines ≡ edited_lines asked s
  unfolding edited_lines
  lines_are = ap (λ b. lines_from (edit_rules meets_exactly s.set.depth b) s.mesh asked) same

  mesh_is : end ≡ edited_mesh asked s
  unfolding edited_mesh
  mesh_is = ap (λ b. mesh_after_all (edit_rules meets_exactly s.set.depth b) s.mesh asked) same

  pub answers_are : answers_from (edit_rules meets_exactly s.set.depth grouped) s.mesh asked ≡ edited_answers asked s
  unfolding edited_answers
  answers_are = ap (λ b. answers_from (edit_rules meets_exactly s.set.depth b) s.mesh asked) same

  pub edits_in_part : (t : State) (stop : Stop) (to : Mesh) (old new : Option (List ℕ)) → SaidInPart s.mesh to old new lines → Writes (edits_effect asked s) t old new (Err stop)
  edits_in_part t stop to old new said = let P : List LogLine → Type 0 = λ l. WrittenInPart old new l in inr (edited_lines asked s, after_edits asked s, refl, subst P lines_are said.text)

  -- what is asked after them
  pub edits_rest : IsValidSurface s.mesh → (m : Mesh) → m ≡ end → (now : Shifts) → asked_in s.mesh now ≡ s.asked → AsksOfGiven s.mesh now → asked_in m now ≡ asked_in m s.asked
  edits_rest good m is now asks given =
      let goes = ids_go_on (edit_rules meets_exactly s.set.depth grouped) meets_exactly-is_exact s.mesh good asked in
      rest_again s.mesh m (subst (VertexIdsGoOn s.mesh) (sym is) goes) good.sound s.asked now asks given

  -- the state after them
  pub edits_left : (m : Mesh) (shifts : Shifts) (groups : List Group) (refused : ℕ) → m ≡ end → shifts ≡ asked_in m s.asked → refused ≡ refused_in lines → groups ≡ fail_if (nat_lt 0 refused) s.groups
      → record s { mesh = m; asked = shifts; groups = groups } ≡ after_edits asked s
  edits_left m shifts groups refused is rest count failed =
      let mesh : m ≡ edited_mesh asked s = is ∙ mesh_is in
      let asks : shifts ≡ asked_in (edited_mesh asked s) s.asked = rest ∙ ap (λ n. asked_in n s.asked) mesh in
      let fails : groups ≡ fail_if (nat_lt 0 (refused_in (edited_lines asked s))) s.groups =
      failed ∙ ap (λ n. fail_if (nat_lt 0 n) s.groups) (count ∙ ap refused_in lines_are) in
      λ i. record s { mesh = mesh i; asked = asks i; groups = fails i }

  pub edits_taken : (t : State) (old new : Option (List ℕ)) → t ≡ after_edits asked s → new ≡ appended old (text_of_lines lines) → Writes (edits_effect asked s) t old new (Ok None)
  edits_taken t old new is said = (edited_lines asked s, ap (Proceeds (edited_lines asked s)) (sym is), said ∙ ap (λ l. appended old (text_of_lines l)) lines_are)

  -- what they tell, by their lines
  pub edits_counted_is : (count : PassCount) → count.done ≡ done_in lines → count.refused ≡ refused_in lines → count ≡ edits_counted asked s
  edits_counted_is count done refused =
      let edits : count.done ≡ done_in (edited_lines asked s) = done ∙ ap done_in lines_are in
      let others : count.refused ≡ refused_in (edited_lines asked s) = refused ∙ ap refused_in lines_are in
      λ i. record { done = edits i; refused = others i }
