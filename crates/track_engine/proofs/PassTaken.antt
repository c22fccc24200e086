-- What a pass that is made and said is.
use Rattle.std.specs.Prelude.{nat_lt}
use Rattle.std.proofs.Common.{◌≡◌, ℕ, Bool, List, Option, Some, None, Result, Ok, Err, refl, sym, ap, ◌∙◌, subst, inr}
use Rattle.mesh_base.specs.declared.UseWhy.{UseWhy}
use Rattle.mesh_base.specs.Mesh.{Mesh}
use Rattle.mesh_base.specs.Shifts.{Shifts}
use Rattle.mesh_base.specs.Valid.{IsValidSurface}
use Rattle.grid_decided.specs.Decided.{meets_exactly-is_exact}
use Rattle.edit_base.specs.declared.PassKind.{PassKind}
use Rattle.step_text.specs.declared.Directive.TheVariants as directive
use Rattle.log_text.specs.Lines.{text_of_lines}
use Rattle.log_text.specs.declared.LogLine.{LogLine}
use Rattle.outside_io.specs.Desk.{Files}
use Rattle.outside_io.specs.Sink.{appended}
use Rattle.pass_run.specs.Said.{SaidInPart}
use Rattle.pass_run.specs.declared.passes.PassCount.{PassCount}
use Rattle.pass_run.specs.Candidates.{candidates}
use Rattle.pass_run.specs.PassLines.{exactly, terms_of, lines_due, mesh_due, done_in, refused_in}
use Rattle.log_write.specs.Written.{WrittenInPart}
use Rattle.log_write.proofs.WrittenLines.{written_nothing}
use Rattle.outside_io.specs.declared.stop.Stop.{Stop}
use Rattle.track_engine.specs.Saved.{Target}
use Rattle.track_engine.specs.State.{Group, State, standing, asked_in, is_open}
use Rattle.track_engine.specs.Answers.{Nothing}
use Rattle.track_engine.specs.Effects.{Proceeds, effect_of, passed_lines, passed_mesh, fail_if}
use Rattle.track_engine.specs.Parts.{Advances, PassTakes}
use Rattle.track_engine.specs.Shifting.{AsksOfGiven}
use Rattle.track_engine.specs.Told.{pass_told}
use Rattle.track_engine.proofs.AskedLemmas.{rest_again}
use Rattle.track_engine.proofs.VertexIds.{VertexIdsGoOn, ids_go_on}
use Rattle.track_engine.proofs.NoFiles.{files_of-none, logs_from_said, stops_from_said}
use Rattle.track_engine.proofs.Passing.{pass_replays, pass_names_none}

module _ (kind : PassKind) (s : State) (grouped : Bool) (same : grouped ≡ is_open s.groups) where
  abbrev lines : List LogLine
  lines = lines_due kind s.set.depth grouped s.mesh

  lines_are : lines ≡ passed_lines kind s
  unfolding passed_lines
  lines_are = ap (λ b. lines_due kind s.set.depth b s.mesh) same

  mesh_is : mesh_due kind s.set.depth grouped s.mesh ≡ passed_mesh kind s
  unfolding passed_mesh
  mesh_is = ap (λ b. mesh_due kind s.set.depth b s.mesh) same

  pub pass_in_part : (t : State) (stop : Stop) (to : Mesh) (old new : Option (List ℕ)) → SaidInPart s.mesh to old new lines → PassTakes kind s t old new (Err stop)
  pass_in_part t stop to old new said = let P : List LogLine → Type 0 = λ l. WrittenInPart old new l in subst P lines_are said.text

  -- nothing is said yet
  pub pass_not_begun : (t : State) (stop : Stop) (old : Option (List ℕ)) → PassTakes kind s t old old (Err stop)
  pass_not_begun t stop old = written_nothing old old (passed_lines kind s) refl

  -- what is asked after it
  pub pass_rest : IsValidSurface s.mesh → (m : Mesh) → m ≡ mesh_due kind s.set.depth grouped s.mesh → (now : Shifts) → asked_in s.mesh now ≡ s.asked → AsksOfGiven s.mesh now → asked_in m now ≡ asked_in m s.asked
  pass_rest good m is now asks given =
      let goes = ids_go_on (exactly (terms_of kind s.set.depth grouped)) meets_exactly-is_exact s.mesh good (candidates s.mesh kind) in
      rest_again s.mesh m (subst (VertexIdsGoOn s.mesh) (sym is) goes) good.sound s.asked now asks given

  pub pass_taken : (m : Mesh) (asked : Shifts) (groups : List Group) (refused : ℕ) (old new : Option (List ℕ)) → m ≡ mesh_due kind s.set.depth grouped s.mesh → asked ≡ asked_in m s.asked
      → refused ≡ refused_in lines → groups ≡ fail_if (nat_lt 0 refused) s.groups → new ≡ appended old (text_of_lines lines)
      → PassTakes kind s (record s { mesh = m; asked = asked; groups = groups }) old new (Ok None)
  pass_taken m asked groups refused old new is rest count failed said =
      let mesh : m ≡ passed_mesh kind s = is ∙ mesh_is in
      let asks : asked ≡ asked_in (passed_mesh kind s) s.asked = rest ∙ ap (λ n. asked_in n s.asked) mesh in
      let fails : groups ≡ fail_if (nat_lt 0 (refused_in (passed_lines kind s))) s.groups =
      failed ∙ ap (λ n. fail_if (nat_lt 0 n) s.groups) (count ∙ ap refused_in lines_are) in
      (λ i. record s { mesh = mesh i; asked = asks i; groups = fails i }, said ∙ ap (λ l. appended old (text_of_lines l)) lines_are)

  -- what it tells, by its lines
  pub pass_told_is : (count : PassCount) → count.done ≡ done_in lines → count.refused ≡ refused_in lines → count ≡ pass_told kind s
  pass_told_is count done refused =
      let edits : count.done ≡ done_in (passed_lines kind s) = done ∙ ap done_in lines_are in
      let others : count.refused ≡ refused_in (passed_lines kind s) = refused ∙ ap refused_in lines_are in
      λ i. record { done = edits i; refused = others i }

-- a pass, as an effect
pub advances_pass : (to : Target) (kind : PassKind) (s t : State) (files : Option Files) (old new : Option (List ℕ)) (r : Result (Option UseWhy) Stop) → PassTakes kind s t old new r
    → Advances to (effect_of Nothing (directive.Pass kind) s) s t (record { files = files; written = old }) (record { files = files; written = new }) r
advances_pass to kind s t files old new (Ok None) takes = record {
  lines = passed_lines kind s;
  goes = ap (Proceeds (passed_lines kind s)) (sym takes.0);
  logs = logs_from_said to (standing s) (passed_lines kind s) files old new (files_of-none to (passed_lines kind s) (standing s) (pass_names_none kind s)) takes.1;
  replay = pass_replays kind s ∙ ap standing (sym takes.0);
}
advances_pass to kind s t files old new (Ok (Some why)) takes = absurd takes
advances_pass to kind s t files old new (Err stop) takes = inr (record {
  lines = passed_lines kind s;
  tells = refl;
  stops = stops_from_said stop to (standing s) (passed_lines kind s) files old new (pass_names_none kind s) takes;
})
