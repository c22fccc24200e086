-- What the desk holds behind a replay of a whole log.
use Rattle.std.proofs.Common.{◌≡◌, ℕ, Option, None, Result, Ok, Err, refl, ap, ◌∙◌}
use Rattle.log_replay.specs.Replay.{at_mesh}
use Rattle.outside_io.specs.World.{World}
use Rattle.track_input.specs.Words.{ReplayNames}
use Rattle.track_log.specs.declared.refusal.LogRefusal.{LogRefusal}
use Rattle.track_log.specs.LogJob.{LogInput, input_of}
use Rattle.track_engine.specs.Saved.{stored}
use Rattle.track_replay.specs.Wanted.{NamedTexts, wanted_of}
use Rattle.track_replay.specs.Headline.{ComesToEnd, target_in, Replays}
use Rattle.track_replay.specs.Laws.{HoldsAllMeshes}
use Rattle.track_replay.proofs.WantedLines.{each_wanted}

module _ (names : ReplayNames) (old new : World) (each : names.only ≡ None) (replays : Replays names (Ok None) old new) where
  of_input : (input : Result LogInput LogRefusal) → input_of replays.job ≡ input → ComesToEnd names.only (target_in names) input None old.holds new.holds → HoldsAllMeshes names old new
  of_input (Ok input) is done =
      let to = target_in names in
      record {
        job = replays.job;
        is_job = replays.is_job;
        input = input;
        is_input = is;
        files = done.files ∙ ap (λ (only : Option ℕ). stored (wanted_of only to (at_mesh input.mesh) input.lines) old.holds.files) each
            ∙ ap (λ (texts : NamedTexts). stored texts old.holds.files) (each_wanted to (at_mesh input.mesh) input.lines);
      }
  of_input (Err why) is done = let refused = done.ends in absurd cc

  pub all_stored : HoldsAllMeshes names old new
  all_stored = of_input (input_of replays.job) refl replays.done
