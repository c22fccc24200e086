-- The whole log of a job ends as its cause says.
use Rattle.std.proofs.Common.{◌≡◌, ℕ, List, [], ◌∷◌, ◌++◌, length, map, Option, Some, None, Result, Ok, Err, refl, ap, sym, ◌∙◌, inl, inr}
use Rattle.std.specs.Prelude.{◌⊎◌}
use Rattle.std.proofs.lemmas.List.{length-map}
use Rattle.grid_base.specs.Points.{point_at}
use Rattle.mesh_base.specs.declared.Scale.{Scale}
use Rattle.mesh_base.specs.Mesh.{IsSound}
use Rattle.mesh_base.specs.Placements.{IsClearMesh}
use Rattle.pair_scan.proofs.Clear.{clear_exactly, answer_meets}
use Rattle.pair_scan.proofs.InOrder.{answer_is_first}
use Rattle.mesh_shape.proofs.Lists.{sound-mesh_under}
use Rattle.mesh_base.specs.declared.UseWhy.{UseWhy}
use Rattle.mesh_base.specs.declared.PairName.{PairName}
use Rattle.mesh_base.specs.declared.ShapeFault.{ShapeFault}
use Rattle.mesh_base.specs.declared.FileWord.TheVariants as file
use Rattle.mesh_shape.specs.Shape.{shape_fault}
use Rattle.line_text.specs.declared.TextFault.{TextFault}
use Rattle.obj_text.specs.Obj.{Lists, lists_of}
use Rattle.step_text.specs.declared.Placed.{Placed}
use Rattle.step_text.specs.Steps.{steps_of}
use Rattle.log_text.specs.declared.LogLine.{LogLine}
use Rattle.log_text.specs.declared.Refusal.{Refusal}
use Rattle.log_text.specs.declared.Refusal.TheVariants as refusal
use Rattle.track_run.specs.declared.outcome.Outcome.{Outcome}
use Rattle.track_run.specs.declared.outcome.Outcome.TheVariants as outcome
use Rattle.track_engine.specs.State.{State, start}
use Rattle.track_engine.specs.Answers.{Answers, first, later}
use Rattle.track_engine.specs.Effects.{Effect, Proceeds, Refused, Unanswered, ExpectedLog, Ending, Ended, CutShort, effect_of, and_then, log_from, log_of_mesh, refused}
use Rattle.track_input.specs.Source.{Source, Bytes, Absent, TooLong}
use Rattle.track_input.specs.Job.{Job, mesh_of_lists, met_first}
use Rattle.track_run.specs.Job.{log_of, log_of_test}
use Rattle.track_run.proofs.JobLogs.{log_of_files, log_of_lists, log_of_shape, log_of_steps}
use Rattle.track_run.specs.Outcomes.{outcome_of}
use Rattle.track_run.specs.Causes.{Cause, HasLists, HasMesh, HasSteps, HasClear, Reaches, IsRefusedAt, IsStopped, answers_after}

-- ---- the directives

-- how the directives end: all taken, or one is refused, unless one is not answered
abbrev Ends : Answers → State → List Placed → Ending → Type 0
Ends answers s directives (Ended None) = (end : State) × Reaches answers s directives end
Ends answers s directives (Ended (Some (refusal.StepUse line why))) = IsRefusedAt answers s directives line why
Ends answers s directives (Ended (Some _)) = ⊥
Ends answers s directives CutShort = Unit {0}

one_more : (answers : Answers) (p : Placed) (s n : State) (lines : List LogLine) (more : List Placed) (o : Ending) → effect_of (first answers) p.what s ≡ Proceeds lines n → Ends (later answers) n more o → Ends answers s (p ∷ more) o
one_more answers p s n lines more (Ended None) e h = (h.0, (lines, n, e, h.1))
one_more answers p s n lines more (Ended (Some (refusal.StepUse line why))) e h = record {
  front = p ∷ h.front;
  placed = h.placed;
  rest = h.rest;
  split = ap (λ l. p ∷ l) h.split;
  state = h.state;
  reached = (lines, n, e, h.reached);
  refused = h.refused;
  line_is = h.line_is;
}
one_more answers p s n lines more (Ended (Some (refusal.Long f seen))) e h = absurd h
one_more answers p s n lines more (Ended (Some (refusal.Missing f))) e h = absurd h
one_more answers p s n lines more (Ended (Some (refusal.Mesh f))) e h = absurd h
one_more answers p s n lines more (Ended (Some (refusal.Shape f))) e h = absurd h
one_more answers p s n lines more (Ended (Some (refusal.Meets f))) e h = absurd h
one_more answers p s n lines more (Ended (Some (refusal.Steps f))) e h = absurd h
one_more answers p s n lines more CutShort e h = tt

by_effect : (answers : Answers) (p : Placed) (s : State) (more : List Placed) (next : (n : State) → Ends (later answers) n more (log_from (later answers) more n).ending) (t : Effect) → effect_of (first answers) p.what s ≡ t → Ends answers s (p ∷ more) (and_then p.line t (log_from (later answers) more)).ending
by_effect answers p s more next (Proceeds lines n) e = one_more answers p s n lines more (log_from (later answers) more n).ending e (next n)
by_effect answers p s more next (Refused why) e = record { front = []; placed = p; rest = more; split = refl; state = s; reached = refl; refused = e; line_is = refl }
by_effect answers p s more next (Unanswered lines) e = tt

told_ends : (answers : Answers) (directives : List Placed) (s : State) → Ends answers s directives (log_from answers directives s).ending
told_ends answers [] s = (s, refl)
told_ends answers (p ∷ more) s = by_effect answers p s more (λ n. told_ends (later answers) more n) (effect_of (first answers) p.what s) refl

-- ---- the files

-- the cause of how a log ends, by a last line
abbrev pub CauseOf : Job → Answers → Ending → Type 0
CauseOf job answers (Ended told) = Cause job answers (outcome_of told)
CauseOf job answers CutShort = Unit {0}

use_cause : (answers : Answers) (job : Job) (lists : Lists) (directives : List Placed) (o : Ending) → HasClear job lists directives → Ends answers (start (mesh_of_lists job.scale lists)) directives o → CauseOf job answers o
use_cause answers job lists directives (Ended None) read h = (lists, directives, read, h.0, h.1)
use_cause answers job lists directives (Ended (Some (refusal.StepUse line why))) read h = (lists, directives, read, h)
use_cause answers job lists directives (Ended (Some (refusal.Long f seen))) read h = absurd h
use_cause answers job lists directives (Ended (Some (refusal.Missing f))) read h = absurd h
use_cause answers job lists directives (Ended (Some (refusal.Mesh f))) read h = absurd h
use_cause answers job lists directives (Ended (Some (refusal.Shape f))) read h = absurd h
use_cause answers job lists directives (Ended (Some (refusal.Meets f))) read h = absurd h
use_cause answers job lists directives (Ended (Some (refusal.Steps f))) read h = absurd h
use_cause answers job lists directives CutShort read h = tt

-- lists of good shape give a sound mesh
lists_sound : (scale : Scale) (lists : Lists) → shape_fault scale (length lists.points) lists.faces ≡ None → IsSound (mesh_of_lists scale lists)
lists_sound scale lists good =
    let points = map point_at lists.points in
    sound-mesh_under scale points lists.faces (ap (λ n. shape_fault scale n lists.faces) (length-map lists.points point_at) ∙ good)

meeting_cause : (answers : Answers) (job : Job) (lists : Lists) (directives : List Placed) (o : Option PairName) → HasSteps job lists directives → met_first (mesh_of_lists job.scale lists) ≡ o → CauseOf job answers (log_of_test answers (mesh_of_lists job.scale lists) directives o).ending
meeting_cause answers job lists directives (Some pair) h e =
    let m = mesh_of_lists job.scale lists in
    (lists, directives, h, record { found = e; meets = answer_meets m (Some pair) (sym e); none_before = answer_is_first m (Some pair) (lists_sound job.scale lists h.mesh_read.good) (sym e) })
meeting_cause answers job lists directives None h e =
    let clear : IsClearMesh (mesh_of_lists job.scale lists) = (clear_exactly (mesh_of_lists job.scale lists) None (lists_sound job.scale lists h.mesh_read.good) (sym e)).0 refl in
    use_cause answers job lists directives (log_of_mesh answers (mesh_of_lists job.scale lists) directives).ending (record { steps_read = h; clear = e; none_meets = clear }) (told_ends answers directives (start (mesh_of_lists job.scale lists)))

steps_cause : (answers : Answers) (job : Job) (lists : Lists) (steps : List ℕ) (r : Result (List Placed) TextFault) → HasMesh job lists steps → steps_of steps ≡ r → CauseOf job answers (log_of_steps job.scale answers lists r).ending
steps_cause answers job lists steps (Err fault) h e = (lists, steps, h, e)
steps_cause answers job lists steps (Ok directives) h e =
    meeting_cause answers job lists directives (met_first (mesh_of_lists job.scale lists)) (record { steps = steps; mesh_read = h; read = e }) refl

shape_cause : (answers : Answers) (job : Job) (lists : Lists) (steps : List ℕ) (o : Option ShapeFault) → HasLists job lists steps → shape_fault job.scale (length lists.points) lists.faces ≡ o → CauseOf job answers (log_of_shape job.scale answers lists o steps).ending
shape_cause answers job lists steps (Some fault) h e = (lists, steps, h, e)
shape_cause answers job lists steps None h e = steps_cause answers job lists steps (steps_of steps) (record { lists_read = h; good = e }) refl

abbrev job_with : Scale → ℕ → Source → Source → Job
job_with scale decimals mesh steps = record { mesh_file = mesh; step_file = steps; scale = scale; decimals = decimals }

lists_cause : (scale : Scale) (answers : Answers) (decimals : ℕ) (mesh steps : List ℕ) (r : Result Lists TextFault) → lists_of decimals mesh ≡ r → CauseOf (job_with scale decimals (Bytes mesh) (Bytes steps)) answers (log_of_lists scale answers r steps).ending
lists_cause scale answers decimals mesh steps (Err fault) e = (mesh, refl, (steps, refl), e)
lists_cause scale answers decimals mesh steps (Ok lists) e =
    shape_cause answers (job_with scale decimals (Bytes mesh) (Bytes steps)) lists steps (shape_fault scale (length lists.points) lists.faces) (record { mesh = mesh; mesh_file = refl; step_file = refl; read = e }) refl

files_cause : (scale : Scale) (answers : Answers) (decimals : ℕ) (mesh steps : Source) → CauseOf (job_with scale decimals mesh steps) answers (log_of_files scale answers decimals mesh steps).ending
files_cause scale answers decimals (TooLong seen) steps = refl
files_cause scale answers decimals Absent steps = refl
files_cause scale answers decimals (Bytes mesh) (TooLong seen) = ((mesh, refl), refl)
files_cause scale answers decimals (Bytes mesh) Absent = ((mesh, refl), refl)
files_cause scale answers decimals (Bytes mesh) (Bytes steps) = lists_cause scale answers decimals mesh steps (lists_of decimals mesh) refl

pub log_cause : (answers : Answers) (job : Job) → CauseOf job answers (log_of job answers).ending
log_cause answers job = files_cause job.scale answers job.decimals job.mesh_file job.step_file

-- ---- and a cause has no other outcome

ends_reached : (answers : Answers) (directives : List Placed) (s end : State) → Reaches answers s directives end → (log_from answers directives s).ending ≡ Ended None
ends_reached answers [] s end h = refl
ends_reached answers (p ∷ more) s end h = ap (λ t. (and_then p.line t (log_from (later answers) more)).ending) h.2 ∙ ends_reached (later answers) more h.1 end h.3

ends_refused : (answers : Answers) (front rest : List Placed) (p : Placed) (s state : State) (why : UseWhy) → Reaches answers s front state → effect_of (first (answers_after front answers)) p.what state ≡ Refused why
    → (log_from answers (front ++ p ∷ rest) s).ending ≡ Ended (Some (refusal.StepUse p.line why))
ends_refused answers [] rest p s state why h e =
    ap (λ z. (and_then p.line (effect_of (first answers) p.what z) (log_from (later answers) rest)).ending) h ∙ ap (λ t. (and_then p.line t (log_from (later answers) rest)).ending) e
ends_refused answers (q ∷ front) rest p s state why h e =
    ap (λ t. (and_then q.line t (log_from (later answers) (front ++ p ∷ rest))).ending) h.2 ∙ ends_refused (later answers) front rest p h.1 state why h.3 e

module _ (answers : Answers) (job : Job) where
  mesh_told : (source : Source) → job.mesh_file ≡ source → log_of_files job.scale answers job.decimals job.mesh_file job.step_file ≡ log_of_files job.scale answers job.decimals source job.step_file
  mesh_told source e = ap (λ f. log_of_files job.scale answers job.decimals f job.step_file) e

  both_told : (mesh : List ℕ) (source : Source) → job.mesh_file ≡ Bytes mesh → job.step_file ≡ source → log_of_files job.scale answers job.decimals job.mesh_file job.step_file ≡ log_of_files job.scale answers job.decimals (Bytes mesh) source
  both_told mesh source e f = mesh_told (Bytes mesh) e ∙ ap (λ s. log_of_files job.scale answers job.decimals (Bytes mesh) s) f

  lists_told : (lists : Lists) (steps : List ℕ) → HasLists job lists steps → log_of_files job.scale answers job.decimals job.mesh_file job.step_file ≡ log_of_shape job.scale answers lists (shape_fault job.scale (length lists.points) lists.faces) steps
  lists_told lists steps h = both_told h.mesh (Bytes steps) h.mesh_file h.step_file ∙ ap (λ r. log_of_lists job.scale answers r steps) h.read

  mesh_good : (lists : Lists) (steps : List ℕ) → HasMesh job lists steps → log_of_files job.scale answers job.decimals job.mesh_file job.step_file ≡ log_of_steps job.scale answers lists (steps_of steps)
  mesh_good lists steps h = lists_told lists steps h.lists_read ∙ ap (λ o. log_of_shape job.scale answers lists o steps) h.good

  steps_told : (lists : Lists) (directives : List Placed) → HasSteps job lists directives → log_of_files job.scale answers job.decimals job.mesh_file job.step_file ≡ log_of_test answers (mesh_of_lists job.scale lists) directives (met_first (mesh_of_lists job.scale lists))
  steps_told lists directives h = mesh_good lists h.steps h.mesh_read ∙ ap (log_of_steps job.scale answers lists) h.read

  pub clear_told : (lists : Lists) (directives : List Placed) → HasClear job lists directives → log_of_files job.scale answers job.decimals job.mesh_file job.step_file ≡ log_of_mesh answers (mesh_of_lists job.scale lists) directives
  clear_told lists directives h = steps_told lists directives h.steps_read ∙ ap (log_of_test answers (mesh_of_lists job.scale lists) directives) h.clear

  ended : (told : ExpectedLog) → log_of_files job.scale answers job.decimals job.mesh_file job.step_file ≡ told → (log_of job answers).ending ≡ told.ending
  ended told e = ap (λ (t : ExpectedLog). t.ending) e

  -- its log ends by a last line, which tells that outcome
  abbrev pub EndsAs : Outcome → Type 0
  EndsAs o = (told : Option Refusal) × ((log_of job answers).ending ≡ Ended told) × (outcome_of told ≡ o)

  refused_as : (why : Refusal) → log_of_files job.scale answers job.decimals job.mesh_file job.step_file ≡ refused why → EndsAs (outcome_of (Some why))
  refused_as why e = (Some why, ended (refused why) e, refl)

  -- a job with a cause ends so, or is stopped
  pub cause_ends : (o : Outcome) → Cause job answers o → EndsAs o ⊎ IsStopped o
  cause_ends outcome.Done h = inl (None, ended (log_of_mesh answers (mesh_of_lists job.scale h.0) h.1) (clear_told h.0 h.1 h.2) ∙ ends_reached answers h.1 (start (mesh_of_lists job.scale h.0)) h.3 h.4, refl)
  cause_ends (outcome.TooLong file.Mesh seen) h = inl (refused_as (refusal.Long file.Mesh seen) (mesh_told (TooLong seen) h))
  cause_ends (outcome.TooLong file.Steps seen) h = inl (refused_as (refusal.Long file.Steps seen) (both_told h.0.0 (TooLong seen) h.0.1 h.1))
  cause_ends (outcome.Missing file.Mesh) h = inl (refused_as (refusal.Missing file.Mesh) (mesh_told Absent h))
  cause_ends (outcome.Missing file.Steps) h = inl (refused_as (refusal.Missing file.Steps) (both_told h.0.0 Absent h.0.1 h.1))
  cause_ends (outcome.TooLong file.Log seen) h = absurd h
  cause_ends (outcome.TooLong file.Proof seen) h = absurd h
  cause_ends (outcome.Missing file.Log) h = absurd h
  cause_ends (outcome.Missing file.Proof) h = absurd h
  cause_ends (outcome.MeshText fault) h = inl (refused_as (refusal.Mesh fault) (both_told h.0 (Bytes h.2.0) h.1 h.2.1 ∙ ap (λ r. log_of_lists job.scale answers r h.2.0) h.3))
  cause_ends (outcome.MeshShape fault) h = inl (refused_as (refusal.Shape fault) (lists_told h.0 h.1 h.2 ∙ ap (λ o. log_of_shape job.scale answers h.0 o h.1) h.3))
  cause_ends (outcome.StepText fault) h = inl (refused_as (refusal.Steps fault) (mesh_good h.0 h.1 h.2 ∙ ap (log_of_steps job.scale answers h.0) h.3))
  cause_ends (outcome.StepUse line why) h =
      let at = h.3 in
      let m = mesh_of_lists job.scale h.0 in
      let ending : (log_of job answers).ending ≡ Ended (Some (refusal.StepUse line why)) =
      ended (log_of_mesh answers m h.1) (clear_told h.0 h.1 h.2)
      ∙ ap (λ l. (log_from answers l (start m)).ending) at.split
      ∙ ends_refused answers at.front at.rest at.placed (start m) at.state why at.reached at.refused
      ∙ ap (λ n. Ended (Some (refusal.StepUse n why))) (sym at.line_is) in
      inl (Some (refusal.StepUse line why), ending, refl)
  cause_ends (outcome.MeshMeets pair) h = inl (refused_as (refusal.Meets pair) (steps_told h.0 h.1 h.2 ∙ ap (log_of_test answers (mesh_of_lists job.scale h.0) h.1) h.3.found))
  cause_ends (outcome.LogText fault) h = absurd h
  cause_ends (outcome.LogUse line) h = absurd h
  cause_ends (outcome.ProofText fault) h = absurd h
  cause_ends (outcome.ProofBad line verdict) h = absurd h
  cause_ends outcome.Usage h = absurd h
  cause_ends outcome.NoMemory h = inr tt
  cause_ends outcome.DeskFault h = inr tt
  cause_ends outcome.SinkFault h = inr tt
