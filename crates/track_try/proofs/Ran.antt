-- What a run over counting sides comes to.
use Rattle.std.proofs.Common.{◌≡◌, ℕ, ◌+◌, ◌<◌, ◌^◌, arith, List, [], ◌∷◌, ap, sym, ◌∙◌, subst, Some, Ok}
use Rattle.std.specs.declared.option.Option.{Option}
use Rattle.mesh_base.specs.Mesh.{Mesh}
use Rattle.mesh_base.specs.Valid.{IsValidSurface}
use Rattle.step_text.specs.declared.Placed.{Placed}
use Rattle.log_text.specs.Lines.{text_of_lines}
use Rattle.log_text.specs.declared.TheConstants.{VERSION}
use Rattle.log_text.specs.declared.LogLine.TheVariants.{First}
use Rattle.log_text.specs.declared.Refusal.{Refusal}
use Rattle.log_replay.specs.Replay.{Replay, at_mesh, after}
use Rattle.log_write.proofs.WrittenLines.{written_then}
use Rattle.outside_io.specs.Sink.{appended}
use Rattle.step_choose.specs.Settings.{AreWithinLimits}
use Rattle.track_engine.specs.declared.engine.Engine.{Engine}
use Rattle.track_engine.specs.declared.open_group.OpenGroup.{OpenGroup}
use Rattle.track_engine.specs.Engines.{state_in}
use Rattle.track_engine.specs.State.{State, start, unsaved, standing}
use Rattle.track_engine.specs.Answers.{NoneFits, without_fields}
use Rattle.track_engine.specs.Answered.{Known, FollowsAnswers}
use Rattle.track_engine.specs.Effects.{ExpectedLog, log_from, mesh_line}
use Rattle.track_engine.specs.Invariant.{IsRunInvariant, MarksHold, HasRoom}
use Rattle.track_engine.specs.Ready.{IsReady}
use Rattle.track_engine.specs.Saved.{Target}
use Rattle.track_engine.specs.World.{Contents, Logs}
use Rattle.track_engine.proofs.Keeping.{kept_start}
use Rattle.track_engine.proofs.NoFields.{one_log}
use Rattle.track_try.specs.Summary.{whole_log}
use Rattle.track_try.specs.Told.{HasRun}

-- an engine of the mesh, of which the first mesh is then saved
module _ (m : Mesh) (first next : State) (new : first ≡ unsaved m) (saved : next ≡ record first { saved = first.saved + 1 }) where
  -- where the directives begin
  pub begins : next ≡ start m
  begins = saved ∙ ap (λ (s : State). record s { saved = s.saved + 1 }) new

  pub kept_first : IsValidSurface m → IsRunInvariant next
  kept_first good = let P : State → Type 0 = λ s. IsRunInvariant s in subst P (sym begins) (kept_start m good)

  -- its log is whole, and its replay leads to where the engine then stands
  module _ (fields : Known) (none : fields.names ≡ []) (to : Target) (steps : List Placed) (others : NoneFits steps) (last : State) (b c : Contents) (ending : Option Refusal) (f : FollowsAnswers fields to steps next last b c (Ok ending)) where
    same_log : log_from f.answers steps next ≡ log_from (without_fields steps) steps (start m)
    same_log = one_log fields f.answers steps next none others f.answered ∙ ap (log_from (without_fields steps) steps) begins

    same_lines : (log_from f.answers steps next).lines ≡ (log_from (without_fields steps) steps (start m)).lines
    same_lines = ap (λ (l : ExpectedLog). l.lines) same_log

    stands : after (at_mesh m) (log_from (without_fields steps) steps (start m)).lines ≡ standing last
    stands = ap (λ (r : Replay). after r (log_from (without_fields steps) steps (start m)).lines) (sym (ap standing begins)) ∙ ap (after (standing next)) (sym same_lines) ∙ f.stands

    told : (o a : Option (List ℕ)) → a ≡ appended o (text_of_lines (First VERSION ∷ [])) → b.written ≡ appended a (text_of_lines (mesh_line first.saved first.mesh ∷ [])) → c.written ≡ appended o (text_of_lines (whole_log m steps))
    told o a p q =
        let P : State → Type 0 = λ s. b.written ≡ appended a (text_of_lines (mesh_line s.saved s.mesh ∷ [])) in
        let lines = (log_from (without_fields steps) steps (start m)).lines in
        let r : c.written ≡ appended b.written (text_of_lines lines) = f.follows.0.written ∙ ap (λ ls. appended b.written (text_of_lines ls)) same_lines in
        written_then o a c.written (First VERSION ∷ []) (mesh_line 0 m ∷ lines) p (written_then a b.written c.written (mesh_line 0 m ∷ []) lines (subst P new q) r)

    pub has_run : (o w : List ℕ) (a : Option (List ℕ)) → o ≡ [] → c.written ≡ Some w → a ≡ appended (Some o) (text_of_lines (First VERSION ∷ [])) → Logs to (standing first) (mesh_line first.saved first.mesh ∷ []) (record { files = b.files; written = a }) b
        → HasRun m steps w last.mesh
    has_run o w a empty is p logs = record {
      log = let q : Some w ≡ Some (text_of_lines (whole_log m steps)) = sym is ∙ told (Some o) a p logs.written ∙ ap (λ o. appended (Some o) (text_of_lines (whole_log m steps))) empty in (cc);
      mesh = sym (ap (λ (r : Replay). r.mesh) stands);
    }

-- of a text that is the same
pub told_at : (m : Mesh) (steps : List Placed) (told same : List ℕ) (now : Mesh) → told ≡ same → HasRun m steps same now → HasRun m steps told now
told_at m steps told same now e h = let P : List ℕ → Type 0 = λ text. HasRun m steps text now in subst P (sym e) h

-- such an engine is ready for directives
module _ {S : Type 0} (beyond : ℕ) (mesh : S → Mesh) (kept : S → List Mesh) (m : Mesh) (first next : Engine S) (new : state_in mesh kept first ≡ unsaved m) (none : first.run.groups ≡ [])
    (saved : state_in mesh kept next ≡ record (state_in mesh kept first) { saved = first.run.saved + 1 }) (same : next.run.groups ≡ first.run.groups) where
  stands_so : state_in mesh kept next ≡ start m
  stands_so = begins m (state_in mesh kept first) (state_in mesh kept next) new saved

  pub ready_first : IsValidSurface m → IsReady beyond mesh kept next
  ready_first good = record {
    invariant = kept_first m (state_in mesh kept first) (state_in mesh kept next) new saved good;
    marks = (let P : List OpenGroup → Type 0 = λ groups. MarksHold beyond (kept next.mesh) groups in subst P (sym (same ∙ none)) tt);
    limits = (let P : State → Type 0 = λ s. AreWithinLimits s.set in subst P (sym stands_so) (record { depth = omega arith; passes = omega arith; halvings = omega arith }));
  }

  pub room_first : (count : ℕ) → count < 2 ^ 31 → HasRoom count next.run
  room_first count few =
      let steps : next.run.steps ≡ 0 = ap (λ (s : State). s.steps) stands_so in
      let one : next.run.saved ≡ 1 = ap (λ (s : State). s.saved) stands_so in
      record { steps = omega arith; saved = omega arith }
