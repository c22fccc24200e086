-- The whole of a replay from its parts.
use Rattle.std.proofs.Common.{◌≡◌, ◌⊎◌, inl, inr, ℕ, List, [], Option, Some, Result, Ok, Err, IfOk, refl, ap, sym, ◌∙◌, subst}
use Rattle.std.specs.Prelude.{IsErr}
use Rattle.mesh_journal.specs.Journal.{mesh_in}
use Rattle.log_text.specs.declared.LogLine.{LogLine}
use Rattle.outside_io.specs.declared.stop.Stop.{Stop}
use Rattle.outside_io.specs.declared.stop.Stop.TheVariants.{SinkFault}
use Rattle.outside_io.specs.Outside.{Around, HasCauses, OnlyLooks, holds_of}
use Rattle.outside_io.specs.Sink.{appended}
use Rattle.outside_io.specs.World.{World, Contents}
use Rattle.outside_io.proofs.Outsides.{counts_then, counts_stopped}
use Rattle.track_input.specs.Words.{ReplayNames}
use Rattle.track_log.specs.declared.LogRefusal.{LogRefusal}
use Rattle.track_log.specs.declared.PreparedLog.{PreparedLog}
use Rattle.track_log.specs.declared.PreparedLog.TheVariants as prepared
use Rattle.track_log.specs.LogJob.{LogJob, IsLogJob, LogInput, input_of}
use Rattle.track_log.specs.Preparing.{PreparesLog}
use Rattle.track_log.specs.Taking.{FitsTested}
use Rattle.track_log.specs.Ending.{EndsBy}
use Rattle.track_log.specs.Refused.{refused_text}
use Rattle.track_log.specs.Telling.{Tells}
use Rattle.track_log.proofs.Endings.{one_ending}
use Rattle.track_log.proofs.PrepareLemmas.{some_log_job}
use Rattle.track_engine.specs.Saved.{Target}
use Rattle.track_replay.specs.Wanted.{NamedTexts}
use Rattle.track_replay.specs.Storing.{StopsStoring}
use Rattle.track_replay.specs.Headline.{texts_stored, text_told, ComesToEnd, StopsIn, IsReplayOf, target_in, Replays, ReplaysLines}
use Rattle.track_replay.proofs.Storings.{stops_before, stops_in_text}

-- there is no other ending
only_one : (only : Option ℕ) (to : Target) (input : Result LogInput LogRefusal) (old new : Contents) (r : Result (Option LogRefusal) Stop) → IsReplayOf only to input old new r
    → (ending : Option LogRefusal) → EndsBy FitsTested input ending → (r ≡ Ok ending) ⊎ IsErr r
only_one only to input old new (Ok e) done ending h = inl (ap Ok (one_ending FitsTested input e ending done.ends h))
only_one only to input old new (Err stop) done ending h = inr refl

replays_of : (names : ReplayNames) (old new : World) (job : LogJob) → IsLogJob old.holds.files names.names job → (input : Result LogInput LogRefusal) → input_of job ≡ input → (r : Result (Option LogRefusal) Stop)
    → IsReplayOf names.only (target_in names) input old.holds new.holds r → HasCauses old new r → Replays names r old new
replays_of names old new job is input e r done causes =
    let P : Result LogInput LogRefusal → Type 0 = λ i. IsReplayOf names.only (target_in names) i old.holds new.holds r in
    let there = subst P (sym e) done in
    record {
      job = job;
      is_job = is;
      done = there;
      only = only_one names.only (target_in names) (input_of job) old.holds new.holds r there;
      faults = causes;
    }

-- nothing has changed, and it stops
pub stops_at_once : (stop : Stop) → (stop ≡ SinkFault → ⊥) → (texts : NamedTexts) (old new : Contents) → new ≡ old → StopsStoring stop texts old new
stops_at_once stop no_sink texts old new kept =
    stops_before stop [] texts old new no_sink (record { files = ap (λ (w : Contents). w.files) kept; written = ap (λ (w : Contents). w.written) kept })

module _ (names : ReplayNames) (a b : Around) where
  -- it is stopped before a line is taken
  pub replays_stopped : (stop : Stop) → OnlyLooks {T = PreparedLog} a b (Err stop) → Replays names (Err stop) a.world b.world
  replays_stopped stop looks =
      let some = some_log_job a.world.holds.files names.names in
      replays_of names a.world b.world some.0 some.1 (input_of some.0) refl (Err stop)
      (λ ending h. inl (stops_at_once stop (λ sink. looks.no_sink (ap Err sink)) (texts_stored names.only (target_in names) (input_of some.0) ending) (holds_of a) (holds_of b) looks.kept))
      (counts_stopped a b stop looks.counts).causes

  module _ (c : Around) (p : Result PreparedLog Stop) (looks : OnlyLooks a b p) (x : PreparedLog) (prepares : PreparesLog a.world.holds.files names.names x) (r : Result (Option LogRefusal) Stop) where
    input_is : (found : PreparedLog) → x ≡ found → PreparesLog a.world.holds.files names.names found
    input_is found e = subst (PreparesLog a.world.holds.files names.names) e prepares

    unwritten : b.world.holds.written ≡ a.world.holds.written
    unwritten = ap (λ (w : Contents). w.written) looks.kept

    unstored : b.world.holds.files ≡ a.world.holds.files
    unstored = ap (λ (w : Contents). w.files) looks.kept

    refused_done : (why : LogRefusal) (q : Result (Option LogRefusal) Stop) → Tells (refused_text why) b c q → IfOk q (λ e. e ≡ Some why) → IsReplayOf names.only (target_in names) (Err why) (holds_of a) (holds_of c) q
    refused_done why (Ok e) t same =
        let P : Option LogRefusal → Type 0 = λ y. ComesToEnd names.only (target_in names) (Err why) y (holds_of a) (holds_of c) in
        subst P (sym same) (record {
          ends = refl;
          files = t.nothing_stored.files ∙ unstored;
          written = t.whole ∙ ap (λ w. appended w (refused_text why)) unwritten;
        })
    refused_done why (Err stop) t same = λ ending h.
        let P : Option LogRefusal → Type 0 = λ y. StopsIn stop (texts_stored names.only (target_in names) (Err why) y) (text_told (texts_stored names.only (target_in names) (Err why) y) y) (holds_of a) (holds_of c) in
        subst P (sym h) (stops_in_text stop [] (refused_text why) a b c (record { files = unstored; written = unwritten }) t)

    -- what was given is refused
    pub replays_refused : (why : LogRefusal) → x ≡ prepared.No why → Tells (refused_text why) b c r → IfOk r (λ e. e ≡ Some why) → Replays names r a.world c.world
    replays_refused why e t same =
        let there = input_is (prepared.No why) e in
        replays_of names a.world c.world there.job there.is_job (Err why) there.input r (refused_done why r t same)
        (counts_then a b c p r looks.counts t.nothing_stored.counts).causes

    -- its lines are taken
    pub replays_taken : (mesh : _) (lines : List LogLine) → x ≡ prepared.Yes mesh lines → ReplaysLines names.only (target_in names) (mesh_in mesh) lines b c r → Replays names r a.world c.world
    replays_taken mesh lines e done =
        let there = input_is (prepared.Yes mesh lines) e in
        let P : Contents → Type 0 = λ w. IsReplayOf names.only (target_in names) (Ok (record { mesh = mesh_in mesh; lines = lines })) w (holds_of c) r in
        replays_of names a.world c.world there.job there.is_job (Ok (record { mesh = mesh_in mesh; lines = lines })) there.input r (subst P looks.kept done.done)
        (counts_then a b c p r looks.counts done.counts).causes
