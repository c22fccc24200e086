-- The whole of a measurement from its parts.
use Rattle.std.proofs.Common.{◌≡◌, ◌⊎◌, inl, inr, ℕ, List, Option, Some, Result, Ok, Err, IfOk, refl, ap, sym, ◌∙◌, subst}
use Rattle.mesh_journal.specs.Journal.{mesh_in}
use Rattle.log_text.specs.declared.LogLine.{LogLine}
use Rattle.outside_io.specs.declared.stop.Stop.{Stop}
use Rattle.outside_io.specs.Outside.{Around, HasCauses, OnlyLooks, written_of}
use Rattle.outside_io.specs.Sink.{appended, AppendsPart}
use Rattle.outside_io.specs.World.{World, Contents}
use Rattle.outside_io.proofs.Outsides.{counts_then, counts_stopped}
use Rattle.outside_io.proofs.Written.{appended-nil}
use Rattle.track_input.specs.Words.{LogNames}
use Rattle.track_log.specs.declared.LogRefusal.{LogRefusal}
use Rattle.track_log.specs.declared.PreparedLog.{PreparedLog}
use Rattle.track_log.specs.declared.PreparedLog.TheVariants as prepared
use Rattle.track_log.specs.LogJob.{LogJob, IsLogJob, LogInput, input_of}
use Rattle.track_log.specs.Preparing.{PreparesLog}
use Rattle.track_log.specs.Taking.{FitsTested}
use Rattle.track_log.specs.Ending.{EndsBy}
use Rattle.track_log.specs.Refused.{refused_text}
use Rattle.track_log.specs.Telling.{Tells}
use Rattle.track_log.proofs.Endings.{one_ending}
use Rattle.track_log.proofs.PrepareLemmas.{some_log_job}
use Rattle.track_measure.specs.Measured.{MeasuresLines}
use Rattle.track_measure.specs.Headline.{text_told, IsToldOf, IsStopped, Measures}
use Rattle.track_measure.proofs.Ends.{told_some}

-- there is no other ending
only_one : (input : Result LogInput LogRefusal) (old new : Option (List ℕ)) (r : Result (Option LogRefusal) Stop) → IsToldOf input old new r → (ending : Option LogRefusal) → EndsBy FitsTested input ending → (r ≡ Ok ending) ⊎ IsStopped r
only_one input old new (Ok e) told ending h = inl (ap Ok (one_ending FitsTested input e ending told.0 h))
only_one input old new (Err stop) told ending h = inr tt

measures_of : (names : LogNames) (old new : World) (job : LogJob) → IsLogJob old.holds.files names job → (input : Result LogInput LogRefusal) → input_of job ≡ input → (r : Result (Option LogRefusal) Stop)
    → IsToldOf input old.holds.written new.holds.written r → new.holds.files ≡ old.holds.files → HasCauses old new r → Measures names r old new
measures_of names old new job is input e r told files causes =
    let P : Result LogInput LogRefusal → Type 0 = λ i. IsToldOf i old.holds.written new.holds.written r in
    let there = subst P (sym e) told in
    record {
      job = job;
      is_job = is;
      told = there;
      only = only_one (input_of job) old.holds.written new.holds.written r there;
      files = files;
      faults = causes;
    }

module _ (names : LogNames) (a b : Around) where
  -- it is stopped before a line is taken
  pub measures_stopped : (stop : Stop) → OnlyLooks {T = PreparedLog} a b (Err stop) → Measures names (Err stop) a.world b.world
  measures_stopped stop looks =
      let some = some_log_job a.world.holds.files names in
      measures_of names a.world b.world some.0 some.1 (input_of some.0) refl (Err stop)
      (λ ending h. (0, told_some (input_of some.0) ending h, ap (λ (w : Contents). w.written) looks.kept ∙ sym (appended-nil (written_of a))))
      (ap (λ (w : Contents). w.files) looks.kept) (counts_stopped a b stop looks.counts).causes

  module _ (c : Around) (p : Result PreparedLog Stop) (looks : OnlyLooks a b p) (x : PreparedLog) (prepares : PreparesLog a.world.holds.files names x) (r : Result (Option LogRefusal) Stop) where
    input_is : (found : PreparedLog) → x ≡ found → PreparesLog a.world.holds.files names found
    input_is found e = subst (PreparesLog a.world.holds.files names) e prepares

    unwritten : written_of b ≡ written_of a
    unwritten = ap (λ (w : Contents). w.written) looks.kept

    unstored : b.world.holds.files ≡ a.world.holds.files
    unstored = ap (λ (w : Contents). w.files) looks.kept

    refused_told : (why : LogRefusal) (q : Result (Option LogRefusal) Stop) → Tells (refused_text why) b c q → IfOk q (λ e. e ≡ Some why) → IsToldOf (Err why) (written_of a) (written_of c) q
    refused_told why (Ok e) t same = (
      same,
      t.whole ∙ ap (λ w. appended w (refused_text why)) unwritten ∙ ap (λ y. appended (written_of a) (text_told (Err why) y)) (sym same),
    )
    refused_told why (Err stop) t same = λ ending h.
        let P : Option LogRefusal → Type 0 = λ y. AppendsPart (written_of a) (written_of c) (text_told (Err why) y) in
        let Q : Option (List ℕ) → Type 0 = λ w. AppendsPart w (written_of c) (refused_text why) in
        subst P (sym h) (subst Q unwritten t.part)

    -- what was given is refused
    pub measures_refused : (why : LogRefusal) → x ≡ prepared.No why → Tells (refused_text why) b c r → IfOk r (λ e. e ≡ Some why) → Measures names r a.world c.world
    measures_refused why e t same =
        let there = input_is (prepared.No why) e in
        measures_of names a.world c.world there.job there.is_job (Err why) there.input r (refused_told why r t same)
        (t.nothing_stored.files ∙ unstored) (counts_then a b c p r looks.counts t.nothing_stored.counts).causes

    -- its lines are taken
    pub measures_taken : (mesh : _) (lines : List LogLine) → x ≡ prepared.Yes mesh lines → MeasuresLines (mesh_in mesh) lines b c r → Measures names r a.world c.world
    measures_taken mesh lines e told =
        let there = input_is (prepared.Yes mesh lines) e in
        let P : Option (List ℕ) → Type 0 = λ w. IsToldOf (Ok (record { mesh = mesh_in mesh; lines = lines })) w (written_of c) r in
        measures_of names a.world c.world there.job there.is_job (Ok (record { mesh = mesh_in mesh; lines = lines })) there.input r (subst P unwritten told.told)
        (told.nothing_stored.files ∙ unstored) (counts_then a b c p r looks.counts told.nothing_stored.counts).causes
