-- Where a run stands between two directives.
use Rattle.std.proofs.Common.{◌≡◌, ℕ, List, [], ◌∷◌, ◌++◌, length, map, None, ap, sym, ◌∙◌, subst, append_assoc}
use Rattle.std.proofs.lemmas.List.{length-map}
use Rattle.grid_base.specs.Points.{point_at}
use Rattle.mesh_base.specs.Mesh.{Mesh}
use Rattle.mesh_shape.specs.Shape.{shape_fault}
use Rattle.mesh_shape.proofs.Lists.{sound-mesh_under}
use Rattle.mesh_shape.proofs.Faults.{closed-mesh_under}
use Rattle.step_choose.specs.Settings.{AreWithinLimits}
use Rattle.step_text.specs.declared.Placed.{Placed}
use Rattle.step_text.specs.Ranges.{AreInRange}
use Rattle.step_text.proofs.StepLaws.{steps_are_in_range_lem}
use Rattle.obj_text.specs.Obj.{Lists}
use Rattle.log_text.specs.declared.LogLine.{LogLine}
use Rattle.log_text.specs.declared.LogLine.TheVariants.{First}
use Rattle.log_replay.specs.Replay.{after, at_mesh}
use Rattle.mesh_base.specs.Valid.{IsValidSurface}
use Rattle.track_engine.specs.State.{State, start, standing}
use Rattle.track_engine.specs.Answers.{Answers, first, later}
use Rattle.track_engine.specs.Effects.{ExpectedLog, mesh_line, and_then, log_from}
use Rattle.log_text.specs.declared.TheConstants.{VERSION}
use Rattle.track_input.specs.Job.{Job, mesh_of_lists, mesh_in, mesh_read}
use Rattle.track_run.specs.Causes.{HasLists, Reaches, answers_after}
use Rattle.track_engine.specs.Invariant.{IsRunInvariant}
use Rattle.track_run.specs.Reached.{IsReached, AgreesWithReplay}
use Rattle.log_replay.proofs.Replaying.{after-append}
use Rattle.track_run.proofs.CauseLemmas.{clear_told}
use Rattle.track_engine.proofs.Replayed.{effect_replayed}
use Rattle.track_engine.proofs.Keeping.{kept_next, kept_start}
use Rattle.track_engine.proofs.Limits.{limits_next, limits_start}

-- ---- the states that the directives of a job reach

reaches_kept : (answers : Answers) (front rest : List Placed) (s t : State) → IsRunInvariant s → Reaches answers s front t → IsRunInvariant t
reaches_kept answers [] rest s t kept same = let P : State → Type 0 = λ x. IsRunInvariant x in subst P same kept
reaches_kept answers (p ∷ front) rest s t kept reached = reaches_kept (later answers) front rest reached.1 t (kept_next (first answers) p.what s reached.1 reached.0 kept reached.2) reached.3

reached_kept : (job : Job) (answers : Answers) (s : State) → IsReached job answers s → IsRunInvariant s
reached_kept job answers s at =
    let read = at.clear.steps_read in
    let points = map point_at at.lists.points in
    let none : shape_fault job.scale (length points) at.lists.faces ≡ None = ap (λ n. shape_fault job.scale n at.lists.faces) (length-map at.lists.points point_at) ∙ read.mesh_read.good in
    let m : Mesh = mesh_of_lists job.scale at.lists in
    let sound = sound-mesh_under job.scale points at.lists.faces none in
    let good : IsValidSurface m = record { sound = sound; closed = closed-mesh_under job.scale points at.lists.faces none; clear = at.clear.none_meets } in
    reaches_kept answers at.front at.rest (start m) s (kept_start m good) at.reached

-- ---- the settings there

first_in_range : (front rest : List Placed) → AreInRange (front ++ rest) → AreInRange front
first_in_range [] rest range = tt
first_in_range (p ∷ front) rest range = (range.0, first_in_range front rest range.1)

reaches_limits : (answers : Answers) (front : List Placed) (s t : State) → AreInRange front → AreWithinLimits s.set → Reaches answers s front t → AreWithinLimits t.set
reaches_limits answers [] s t range limits same = let P : State → Type 0 = λ x. AreWithinLimits x.set in subst P same limits
reaches_limits answers (p ∷ front) s t range limits reached =
    reaches_limits (later answers) front reached.1 t range.1 (limits_next (first answers) p.what s reached.1 reached.0 range.0 limits reached.2) reached.3

reached_limits : (job : Job) (answers : Answers) (s : State) → IsReached job answers s → AreWithinLimits s.set
reached_limits job answers s at =
    let read = at.clear.steps_read in
    let range = (steps_are_in_range_lem read.steps at.directives read.read).0 in
    reaches_limits answers at.front (start (mesh_of_lists job.scale at.lists)) s (first_in_range at.front at.rest (subst AreInRange at.split range)) (limits_start (mesh_of_lists job.scale at.lists)) at.reached

-- ---- the log up to there

-- the lines of the first directives, those of the others, and the replay of the first
record LinesTo (answers : Answers) (front rest : List Placed) (s t : State) : Type 0 where
  pub so_far : List LogLine
  pub log : (log_from answers (front ++ rest) s).lines ≡ so_far ++ (log_from (answers_after front answers) rest t).lines
  pub replay : after (standing s) so_far ≡ standing t

lines_to : (answers : Answers) (front rest : List Placed) (s t : State) → Reaches answers s front t → LinesTo answers front rest s t
lines_to answers [] rest s t same = record { so_far = []; log = ap (λ z. (log_from answers rest z).lines) same; replay = ap standing same }
lines_to answers (p ∷ front) rest s t reached =
    let next : State = reached.1 in
    let others = lines_to (later answers) front rest next t reached.3 in record {
      so_far = reached.0 ++ others.so_far;
      log = ap (λ z. (and_then p.line z (log_from (later answers) (front ++ rest))).lines) reached.2
          ∙ ap (λ l. reached.0 ++ l) others.log
          ∙ sym (append_assoc reached.0 others.so_far (log_from (answers_after front (later answers)) rest t).lines);
      replay = after-append (standing s) reached.0 others.so_far ∙ ap (λ r. after r others.so_far) (effect_replayed (first answers) p.what s next reached.0 reached.2) ∙ others.replay;
    }

-- the mesh of the job is that of its lists
mesh_given : (job : Job) (lists : Lists) (steps : List ℕ) → HasLists job lists steps → mesh_in job.scale job.decimals job.mesh_file ≡ mesh_of_lists job.scale lists
mesh_given job lists steps h = ap (mesh_in job.scale job.decimals) h.mesh_file ∙ ap (mesh_read job.scale) h.read

pub agrees_well : (job : Job) (answers : Answers) (s : State) (there : IsReached job answers s) → AgreesWithReplay job answers s there.rest (answers_after there.front answers)
agrees_well job answers s there =
    let m : Mesh = mesh_of_lists job.scale there.lists in
    let opening : List LogLine = First VERSION ∷ mesh_line 0 m ∷ [] in
    let lines = lines_to answers there.front there.rest (start m) s there.reached in
    record {
      so_far = opening ++ lines.so_far;
      log = ap (λ (t : ExpectedLog). First VERSION ∷ t.lines) (clear_told answers job there.lists there.directives there.clear)
          ∙ ap (λ l. opening ++ (log_from answers l (start m)).lines) there.split
          ∙ ap (λ l. opening ++ l) lines.log;
      replay = ap (λ n. after (at_mesh n) lines.so_far) (mesh_given job there.lists _ there.clear.steps_read.mesh_read.lists_read) ∙ lines.replay;
      kept = reached_kept job answers s there;
      limits = reached_limits job answers s there;
    }
