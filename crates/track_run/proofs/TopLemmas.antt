-- The whole of a run from its parts.
use Rattle.std.proofs.Common.{◌≡◌, ℕ, ◌+◌, ◌≤◌, List, [], ◌∷◌, refl, ap, sym, ◌∙◌, subst, IfOk, OnOk, OnErr, Result, Ok, Err, inl, inr, false, is_ok}
use Rattle.std.specs.Prelude.{◌⊎◌, IfSome, option_map}
use Rattle.std.specs.declared.option.Option.{Option}
use Rattle.std.specs.declared.option.Option.TheVariants.{None, Some}
use Rattle.mesh_base.specs.declared.PairName.{PairName}
use Rattle.mesh_base.specs.declared.Scale.{Scale}
use Rattle.mesh_base.specs.Mesh.{Mesh}
use Rattle.mesh_base.specs.declared.MeshLists.{MeshLists}
use Rattle.step_text.specs.declared.Placed.{Placed}
use Rattle.log_text.specs.Lines.{text_of_line}
use Rattle.log_text.specs.declared.TheConstants.{VERSION}
use Rattle.log_text.specs.declared.Refusal.{Refusal}
use Rattle.log_text.specs.declared.Refusal.TheVariants as refusal
use Rattle.log_text.specs.declared.LogLine.TheVariants.{First, Refused as RefusedLine}
use Rattle.log_replay.specs.Replay.{Replay, at_mesh}
use Rattle.outside_io.specs.Causes.{Rose}
use Rattle.outside_io.specs.Desk.{Files}
use Rattle.outside_io.specs.Outside.{Around, HasCauses, OnlyLooks, StoresNothing, holds_of, written_of}
use Rattle.outside_io.specs.Sink.{appended, AppendsPart}
use Rattle.log_write.specs.Written.{Says, Written}
use Rattle.mesh_make.specs.Cubes.{IsRow}
use Rattle.track_input.specs.declared.command.TheConstants.{CUBES_MAX}
use Rattle.track_input.specs.declared.command.Command.{Command}
use Rattle.track_input.specs.declared.command.Command.TheVariants as command
use Rattle.track_input.specs.Taken.{IsReading}
use Rattle.track_input.specs.Commands.{IsReadExactly}
use Rattle.track_input.specs.Named.{named_by, IsInLimits}
use Rattle.track_input.specs.declared.inputs.Ready.{Ready}
use Rattle.track_input.specs.declared.inputs.Ready.TheVariants as ready
use Rattle.track_input.specs.Job.{Job, IsJob, Input, input_of, mesh_of_job, mesh_of_lists, met_first}
use Rattle.track_input.specs.Reading.{Prepares, IsReady, given, input_by}
use Rattle.track_input.proofs.Sources.{some_source}
use Rattle.track_input.proofs.ReadLemmas.{same_mesh}
use Rattle.track_try.specs.Summary.{summary_of}
use Rattle.outside_io.specs.declared.stop.Stop.{Stop}
use Rattle.outside_io.specs.declared.stop.Stop.TheVariants as stop
use Rattle.track_engine.specs.State.{State, start, unsaved, standing}
use Rattle.track_engine.specs.Answers.{Answers}
use Rattle.track_engine.specs.Answered.{Known, AreAnswered, FollowsAnswers}
use Rattle.track_engine.specs.Effects.{ExpectedLog, Ending, Ended, CutShort, log_from, log_of_mesh, mesh_line, refused}
use Rattle.track_engine.specs.Saved.{Target}
use Rattle.outside_io.specs.World.{world}
use Rattle.track_engine.specs.World.{World, Contents, Logs, StopsIn, StopsShort, Follows}
use Rattle.track_engine.proofs.Worlds.{logs_then, short_then, short_more, short_nothing, short_line}
use Rattle.track_engine.proofs.Remaining.{log_left}
use Rattle.track_engine.proofs.SoFars.{none_answered}
use Rattle.track_engine.proofs.Replayed.{effect_replayed}
use Rattle.track_engine.proofs.Promises.{step_is_told}
use Rattle.track_run.specs.declared.outcome.Outcome.{Outcome}
use Rattle.track_run.specs.declared.outcome.Outcome.TheVariants as outcome
use Rattle.track_run.specs.Outcomes.{outcome_of, outcome_at, outcome_from, outcome_of_try}
use Rattle.track_run.specs.Job.{log_of, log_of_input, log_of_test, replay_of}
use Rattle.track_run.specs.Answered.{IsInputAnswered, FollowsMesh, FollowsTest}
use Rattle.track_run.specs.Causes.{Cause, IsStopped}
use Rattle.track_run.specs.Headline.{TracksJob, TracksCommand, TriesCommand, IsWrittenBy, Runs, RunsFor, LogPromises, IsCaused, FaultsAreCounted}
use Rattle.track_run.proofs.JobLogs.{test_left, input_left, keeps_log}
use Rattle.track_run.proofs.Again.{log_again}
use Rattle.track_run.proofs.Agreeing.{agrees_well}
use Rattle.track_run.proofs.Scaled.{keeps_scale}
use Rattle.track_run.proofs.ReadBack.{read_back}
use Rattle.track_run.proofs.CauseLemmas.{CauseOf, EndsAs, log_cause, cause_ends}

-- what is written changes no file
unchanged : (P : Contents → Type 0) (a b : Contents) → b.files ≡ a.files → P (record { files = a.files; written = b.written }) → P b
unchanged P a b same h = let Q : Option Files → Type 0 = λ files. P (record { files = files; written = b.written }) in subst Q (sym same) h

-- ---- nothing is asked

-- what was read is not begun with
none_begun : (scale : Scale) (fields : Known) (r : Result Input Refusal) → IsInputAnswered scale fields false [] r
none_begun scale fields (Err why) = tt
none_begun scale fields (Ok input) = λ clear. none_answered fields input.steps (start (mesh_of_lists scale input.lists))

-- ---- the first mesh, and then the directives

-- an engine of the mesh, of which the first mesh is then saved
module _ (fields : Known) (to : Target) (m : Mesh) (steps : List Placed) (first : State) (new : first ≡ unsaved m) where
  -- it stops before the first directive
  begin_stopped : (a b : Contents) (stop : Stop) → StopsShort stop to (at_mesh m) (log_of_mesh [] m steps) a b → FollowsMesh fields to m steps a b (Err stop)
  begin_stopped a b stop short = record { answers = []; answered = none_answered fields steps (start m); follows = short }

  -- it stops before the first line
  pub begin_nothing : (a : Contents) (stop : Stop) → FollowsMesh fields to m steps a a (Err stop)
  begin_nothing a stop = begin_stopped a a stop (short_nothing stop to (at_mesh m) (log_of_mesh [] m steps) a (test_left [] m steps None))

  -- it stops in that line
  pub begin_part : (a b : Contents) (stop : Stop) → StopsIn stop to (standing first) (mesh_line first.saved first.mesh ∷ []) a b → FollowsMesh fields to m steps a b (Err stop)
  begin_part a b stop stops =
      let P : State → Type 0 = λ s. StopsIn stop to (standing s) (mesh_line s.saved s.mesh ∷ []) a b in
      begin_stopped a b stop (short_more stop to (at_mesh m) (mesh_line 0 m ∷ []) (log_from [] steps (start m)) a b (log_left [] steps (start m)) (subst P new stops))

  -- where the directives begin
  pub saved_first : (next : State) → next ≡ record first { saved = first.saved + 1 } → next ≡ start m
  saved_first next saved = saved ∙ ap (λ (s : State). record s { saved = s.saved + 1 }) new

  follows_first : (answers : Answers) (a b c : Contents) (r : Result (Option Refusal) Stop) → Logs to (at_mesh m) (mesh_line 0 m ∷ []) a b → Follows to (at_mesh m) (log_from answers steps (start m)) b c r → Follows to (at_mesh m) (log_of_mesh answers m steps) a c r
  follows_first answers a b c (Ok ending) l f = (logs_then to (at_mesh m) (mesh_line 0 m ∷ []) (log_from answers steps (start m)).lines a b c l f.0, f.1)
  follows_first answers a b c (Err stop) l f = short_then stop to (at_mesh m) (mesh_line 0 m ∷ []) (log_from answers steps (start m)) a b c l f

  pub begin_follows : (next last : State) (given_steps : List Placed) (a b c : Contents) (r : Result (Option Refusal) Stop) → next ≡ record first { saved = first.saved + 1 } → given_steps ≡ steps
      → Logs to (standing first) (mesh_line first.saved first.mesh ∷ []) a b → FollowsAnswers fields to given_steps next last b c r → FollowsMesh fields to m steps a c r
  begin_follows next last given_steps a b c r saved same logs f =
      let P : State → Type 0 = λ s. FollowsAnswers fields to steps s last b c r in
      let Q : State → Type 0 = λ s. Logs to (standing s) (mesh_line s.saved s.mesh ∷ []) a b in
      let R : List Placed → Type 0 = λ l. FollowsAnswers fields to l next last b c r in
      let told = subst P (saved_first next saved) (subst R same f) in
      record { answers = told.answers; answered = told.answered; follows = follows_first told.answers a b c r (subst Q new logs) told.follows }

-- ---- the mesh is tested

module _ (fields : Known) (to : Target) (m : Mesh) (steps : List Placed) where
  -- no pair meets
  pub tested_clear : (a b : Contents) (r : Result (Option Refusal) Stop) (o : Option PairName) → o ≡ met_first m → o ≡ None → FollowsMesh fields to m steps a b r → FollowsTest fields to m steps a b r
  tested_clear a b r o first none f =
      let P : Option PairName → Type 0 = λ o. Follows to (at_mesh m) (log_of_test f.answers m steps o) a b r in
      record { answers = f.answers; answered = λ clear. f.answered; follows = subst P (sym none ∙ first) f.follows }

  meets_at_first : (files : Option Files) (old new : Option (List ℕ)) (pair : PairName) (r : Result (Option Refusal) Stop) → Written old new (RefusedLine (refusal.Meets pair) ∷ []) r → OnErr r (AppendsPart old new (text_of_line (RefusedLine (refusal.Meets pair)))) → IfOk r (λ e. e ≡ Some (refusal.Meets pair))
      → Follows to (at_mesh m) (log_of_test [] m steps (Some pair)) (record { files = files; written = old }) (record { files = files; written = new }) r
  meets_at_first files old new pair (Ok e) said part ending = (record { written = said; files = refl }, ap Ended (sym ending))
  meets_at_first files old new pair (Err stop) said part ending = short_line stop to (at_mesh m) (RefusedLine (refusal.Meets pair)) (record { lines = []; ending = Ended (Some (refusal.Meets pair)) }) files old new part

  -- the mesh is not tested, and nothing is done
  pub tested_nothing : (w : Contents) (stop : Stop) → FollowsTest fields to m steps w w (Err stop)
  tested_nothing w stop = record {
    answers = [];
    answered = λ clear. none_answered fields steps (start m);
    follows = short_nothing stop to (at_mesh m) (log_of_test [] m steps (met_first m)) w (test_left [] m steps (met_first m));
  }

  -- a pair meets, and is told
  pub tested_meets : (a b : Around) (pair : PairName) (r : Result (Option Refusal) Stop) (o : Option PairName) → o ≡ met_first m → o ≡ Some pair
      → Says (RefusedLine (refusal.Meets pair) ∷ []) a b r → OnErr r (AppendsPart (written_of a) (written_of b) (text_of_line (RefusedLine (refusal.Meets pair)))) → IfOk r (λ e. e ≡ Some (refusal.Meets pair))
      → FollowsTest fields to m steps (holds_of a) (holds_of b) r
  tested_meets a b pair r o first some says part ending =
      let P : Option PairName → Type 0 = λ o. Follows to (at_mesh m) (log_of_test [] m steps o) (holds_of a) (holds_of b) r in
      let Q : Contents → Type 0 = λ w. Follows to (at_mesh m) (log_of_test [] m steps (Some pair)) (holds_of a) w r in
      let told = meets_at_first (holds_of a).files (written_of a) (written_of b) pair r says.written part ending in
      record {
        answers = [];
        answered = λ clear. let never : ◌≡◌ {A = Option PairName} (Some pair) None = sym some ∙ first ∙ clear in absurd cc;
        follows = subst P (sym some ∙ first) (unchanged Q (holds_of a) (holds_of b) says.nothing_stored.files told);
      }

-- ---- the whole log

-- the log of what was read
abbrev log_of_ready : Scale → Answers → Ready → ExpectedLog
log_of_ready scale answers (ready.No why) = refused why
log_of_ready scale answers (ready.Yes lists steps) = log_of_test answers (given scale lists) steps (met_first (given scale lists))

ready_log : (scale : Scale) (answers : Answers) (r : Ready) → log_of_input scale answers (input_by r) ≡ log_of_ready scale answers r
ready_log scale answers (ready.No why) = refl
ready_log scale answers (ready.Yes lists steps) = ap (λ m. log_of_test answers m steps (met_first m)) (same_mesh scale lists)

module _ (scale : Scale) (fields : Known) (mesh_name step_name : List ℕ) (to : Target) where
  any_job : Option Files → Job
  any_job files = record { scale = scale; decimals = to.decimals; mesh_file = (some_source scale files mesh_name).0; step_file = (some_source scale files step_name).0 }

  any_is_job : (files : Option Files) → IsJob scale files mesh_name step_name to.decimals (any_job files)
  unfolding any_job
  any_is_job files = record { scale_is = refl; decimals_are = refl; mesh = (some_source scale files mesh_name).1; steps = (some_source scale files step_name).1 }

  abbrev pub PreparesTo : Around → Ready → Type 0
  PreparesTo a found = Prepares scale (holds_of a).files mesh_name step_name to.decimals found

  pub prepared_at : (a : Around) (found is : Ready) → found ≡ is → PreparesTo a found → PreparesTo a is
  prepared_at a found is e p = let P : Ready → Type 0 = λ x. PreparesTo a x in subst P e p

  -- the first line of the log is written before a file is fetched, and is not whole
  pub tracks_first : (a b : Around) (stop : Stop) → Says {T = Unit {0}} (First VERSION ∷ []) a b (Err stop) → AppendsPart (written_of a) (written_of b) (text_of_line (First VERSION)) → TracksJob scale fields mesh_name step_name to (holds_of a) (holds_of b) (Err stop)
  tracks_first a b stop says part =
      let job = any_job (holds_of a).files in
      let P : Contents → Type 0 = λ w. StopsShort stop to (replay_of job) (log_of job []) (holds_of a) w in
      record {
        job = job;
        is_job = any_is_job (holds_of a).files;
        answers = [];
        answered = none_begun job.scale fields (input_of job);
        follows = unchanged P (holds_of a) (holds_of b) says.nothing_stored.files (short_line stop to (replay_of job) (First VERSION) (log_of_input job.scale [] (input_of job)) (holds_of a).files (written_of a) (written_of b) part);
      }

  -- it is written, and then the files are read
  module _ (a b c : Around) (u : Unit {0}) (first : Says (First VERSION ∷ []) a b (Ok u)) (p : Result Ready Stop) (looks : OnlyLooks b c p) where
    first_logs : (from : Replay) → Logs to from (First VERSION ∷ []) (holds_of a) (holds_of c)
    first_logs from = record {
      written = ap (λ (w : Contents). w.written) looks.kept ∙ first.written;
      files = ap (λ (w : Contents). w.files) looks.kept ∙ first.nothing_stored.files;
    }

    whole_follows : (answers : Answers) (from : Replay) (job : Job) (new : Contents) (r : Result (Option Refusal) Stop) → Follows to from (log_of_input job.scale answers (input_of job)) (holds_of c) new r → Follows to from (log_of job answers) (holds_of a) new r
    whole_follows answers from job new (Ok ending) f = (logs_then to from (First VERSION ∷ []) (log_of_input job.scale answers (input_of job)).lines _ _ new (first_logs from) f.0, f.1)
    whole_follows answers from job new (Err stop) f = short_then stop to from (First VERSION ∷ []) (log_of_input job.scale answers (input_of job)) _ _ new (first_logs from) f

    -- nothing after it
    pub tracks_second : (stop : Stop) → TracksJob scale fields mesh_name step_name to (holds_of a) (holds_of c) (Err stop)
    tracks_second stop =
        let job = any_job (holds_of a).files in
        record {
          job = job;
          is_job = any_is_job (holds_of a).files;
          answers = [];
          answered = none_begun job.scale fields (input_of job);
          follows = whole_follows [] (replay_of job) job (holds_of c) (Err stop) (short_nothing stop to (replay_of job) (log_of_input job.scale [] (input_of job)) (holds_of c) (input_left job.scale [] (input_of job)));
        }

    tracks_then : (answers : Answers) (found : Ready) → PreparesTo b found → (new : Contents) (r : Result (Option Refusal) Stop) → IsInputAnswered scale fields (is_ok r) answers (input_by found)
        → ((job : Job) → IsReady scale (mesh_of_job job) found → Follows to (replay_of job) (log_of_ready scale answers found) (holds_of c) new r) → TracksJob scale fields mesh_name step_name to (holds_of a) new r
    tracks_then answers found p new r answered f =
        let P : ExpectedLog → Type 0 = λ t. Follows to (replay_of p.job) t (holds_of c) new r in
        let Q : Result Input Refusal → Type 0 = λ i. IsInputAnswered p.job.scale fields (is_ok r) answers i in
        let C : Scale → Type 0 = λ c. IsInputAnswered c fields (is_ok r) answers (input_by found) in
        let R : Option Files → Type 0 = λ files. IsJob scale files mesh_name step_name to.decimals p.job in
        record {
          job = p.job;
          is_job = subst R first.nothing_stored.files p.is_job;
          answers = answers;
          answered = subst Q (sym p.input) (subst C (sym p.is_job.scale_is) answered);
          follows = whole_follows answers (replay_of p.job) p.job new r
              (subst P (sym (ap (log_of_input p.job.scale answers) p.input ∙ ap (λ c. log_of_input c answers (input_by found)) p.is_job.scale_is ∙ ready_log scale answers found)) (f p.job p.ready));
        }

    -- the refusal that was read is written, as far as it goes
    refusal_follows : (d : Around) (why : Refusal) (r : Result (Option Refusal) Stop) (from : Replay) → Says (RefusedLine why ∷ []) c d r → OnErr r (AppendsPart (written_of c) (written_of d) (text_of_line (RefusedLine why))) → IfOk r (λ e. e ≡ Some why)
        → Follows to from (refused why) (holds_of c) (holds_of d) r
    refusal_follows d why (Ok e) from says part ending = (record { written = says.written; files = says.nothing_stored.files }, ap Ended (sym ending))
    refusal_follows d why (Err stop) from says part ending =
        let P : Contents → Type 0 = λ w. StopsShort stop to from (refused why) (holds_of c) w in
        unchanged P (holds_of c) (holds_of d) says.nothing_stored.files (short_line stop to from (RefusedLine why) (record { lines = []; ending = Ended (Some why) }) (holds_of c).files (written_of c) (written_of d) part)

    pub tracks_no : (d : Around) (why : Refusal) (r : Result (Option Refusal) Stop) → PreparesTo b (ready.No why) → Says (RefusedLine why ∷ []) c d r → OnErr r (AppendsPart (written_of c) (written_of d) (text_of_line (RefusedLine why))) → IfOk r (λ e. e ≡ Some why)
        → TracksJob scale fields mesh_name step_name to (holds_of a) (holds_of d) r
    tracks_no d why r p says part ending = tracks_then [] (ready.No why) p (holds_of d) r tt (λ job is. refusal_follows d why r (replay_of job) says part ending)

    -- a mesh and directives, and nothing is done with them
    pub tracks_third : (lists : MeshLists) (steps : List Placed) (stop : Stop) → PreparesTo b (ready.Yes lists steps) → TracksJob scale fields mesh_name step_name to (holds_of a) (holds_of c) (Err stop)
    tracks_third lists steps stop p =
        tracks_then [] (ready.Yes lists steps) p (holds_of c) (Err stop) (none_begun scale fields (input_by (ready.Yes lists steps)))
        (λ job is. short_nothing stop to (replay_of job) (log_of_test [] (given scale lists) steps (met_first (given scale lists))) (holds_of c) (test_left [] (given scale lists) steps (met_first (given scale lists))))

    -- a mesh and directives
    pub tracks_ready : (lists : MeshLists) (steps : List Placed) (m : Mesh) (new : Contents) (r : Result (Option Refusal) Stop) → PreparesTo b (ready.Yes lists steps)
        → m ≡ given scale lists → FollowsTest fields to m steps (holds_of c) new r → TracksJob scale fields mesh_name step_name to (holds_of a) new r
    tracks_ready lists steps m new r p same f =
        let answers = f.answers in
        let P : Mesh → Type 0 = λ n. Follows to (at_mesh n) (log_of_test answers (given scale lists) steps (met_first (given scale lists))) (holds_of c) new r in
        let Q : Mesh → Type 0 = λ n. Follows to (at_mesh n) (log_of_test answers n steps (met_first n)) (holds_of c) new r in
        let A : Mesh → Type 0 = λ n. met_first n ≡ None → AreAnswered fields (is_ok r) answers steps (start n) in
        tracks_then answers (ready.Yes lists steps) p new r (subst A (same ∙ sym (same_mesh scale lists)) f.answered) (λ job is. subst P is.mesh (subst Q same f.follows))

-- ---- the headline

-- where the whole log is written, the job's cause is the outcome's
whole_cause : (answers : Answers) (job : Job) (result : Outcome) (told : Option Refusal) → result ≡ outcome_of told → (log_of job answers).ending ≡ Ended told → Cause job answers result
whole_cause answers job result told e same =
    let P : Outcome → Type 0 = λ o. Cause job answers o in
    let Q : Ending → Type 0 = λ x. CauseOf job answers x in
    subst P (sym e) (subst Q same (log_cause answers job))

-- a last line tells one refusal, or none
told_alike : (x : Ending) (a b : Option Refusal) → x ≡ Ended a → x ≡ Ended b → a ≡ b
told_alike x a b p q = ap told_by (sym p ∙ q)
  where
    told_by : Ending → Option Refusal
    told_by (Ended told) = told
    told_by CutShort = None

whole_alone : (answers : Answers) (job : Job) (result : Outcome) (told : Option Refusal) → result ≡ outcome_of told → (log_of job answers).ending ≡ Ended told → (other : Outcome) → Cause job answers other → (result ≡ other) ⊎ IsStopped other ⊎ IsStopped result
whole_alone answers job result told e same other h = by_end (cause_ends answers job other h)
  where
    by_end : EndsAs answers job other ⊎ IsStopped other → (result ≡ other) ⊎ IsStopped other ⊎ IsStopped result
    by_end (inl ends) = inl (e ∙ ap outcome_of (told_alike (log_of job answers).ending told ends.0 same ends.1) ∙ ends.2)
    by_end (inr stopped) = inr (inl stopped)

stop_cause : (answers : Answers) (job : Job) (stop : Stop) → Cause job answers (outcome_at stop)
stop_cause answers job stop.NoMemory = tt
stop_cause answers job stop.DeskFault = tt
stop_cause answers job stop.SinkFault = tt

stop_stops : (stop : Stop) → IsStopped (outcome_at stop)
stop_stops stop.NoMemory = tt
stop_stops stop.DeskFault = tt
stop_stops stop.SinkFault = tt

is_caused : (answers : Answers) (job : Job) (to : Target) (result : Outcome) (ended : Result (Option Refusal) Stop) (old new : Contents) → result ≡ outcome_from ended → Follows to (replay_of job) (log_of job answers) old new ended → IsCaused job answers result
is_caused answers job to result (Ok ending) old new e follows = record { cause = whole_cause answers job result ending e follows.1; no_other = whole_alone answers job result ending e follows.1 }
is_caused answers job to result (Err stop) old new e follows = record {
  cause = (let P : Outcome → Type 0 = λ o. Cause job answers o in subst P (sym e) (stop_cause answers job stop));
  no_other = λ other h. inr (inr (let P : Outcome → Type 0 = λ o. IsStopped o in subst P (sym e) (stop_stops stop)));
}

log_promises : (answers : Answers) (job : Job) → LogPromises job answers
log_promises answers job = record {
  safe = keeps_log answers job;
  again = log_again answers job;
  told = record { steps = step_is_told; replayed = effect_replayed };
  reached = agrees_well job answers;
  scaled = keeps_scale job;
}

-- a whole log has no outcome of a fault
not_desk : (ending : Option Refusal) → outcome_of ending ≡ outcome.DeskFault → (P : Type 0) → P
not_desk None e P = absurd cc
not_desk (Some (refusal.Long file seen)) e P = absurd cc
not_desk (Some (refusal.Missing file)) e P = absurd cc
not_desk (Some (refusal.Mesh fault)) e P = absurd cc
not_desk (Some (refusal.Shape fault)) e P = absurd cc
not_desk (Some (refusal.Meets pair)) e P = absurd cc
not_desk (Some (refusal.Steps fault)) e P = absurd cc
not_desk (Some (refusal.StepUse line why)) e P = absurd cc

not_sink : (ending : Option Refusal) → outcome_of ending ≡ outcome.SinkFault → (P : Type 0) → P
not_sink None e P = absurd cc
not_sink (Some (refusal.Long file seen)) e P = absurd cc
not_sink (Some (refusal.Missing file)) e P = absurd cc
not_sink (Some (refusal.Mesh fault)) e P = absurd cc
not_sink (Some (refusal.Shape fault)) e P = absurd cc
not_sink (Some (refusal.Meets pair)) e P = absurd cc
not_sink (Some (refusal.Steps fault)) e P = absurd cc
not_sink (Some (refusal.StepUse line why)) e P = absurd cc

faults_counted : (old new : World) (ended : Result (Option Refusal) Stop) → HasCauses old new ended → FaultsAreCounted old new (outcome_from ended)
faults_counted old new (Ok ending) h = record { desk = h.desk; sink = h.out; desk_fault = λ e. not_desk ending e _; sink_fault = λ e. not_sink ending e _ }
faults_counted old new (Err stop.NoMemory) h = record { desk = h.desk; sink = h.out; desk_fault = λ e. absurd cc; sink_fault = λ e. absurd cc }
faults_counted old new (Err stop.DeskFault) h = record { desk = h.desk; sink = h.out; desk_fault = λ e. h.desk_fault refl; sink_fault = λ e. absurd cc }
faults_counted old new (Err stop.SinkFault) h = record { desk = h.desk; sink = h.out; desk_fault = λ e. absurd cc; sink_fault = λ e. h.sink_fault refl }

pub run_ends : (scale : Scale) (fields : Known) (mesh_name step_name : List ℕ) (to : Target) (old new : World) (result : Outcome) (ended : Result (Option Refusal) Stop) → result ≡ outcome_from ended → HasCauses old new ended
    → TracksJob scale fields mesh_name step_name to old.holds new.holds ended → TracksCommand scale fields mesh_name step_name to result old new
run_ends scale fields mesh_name step_name to old new result ended e causes t = record {
  job = t.job;
  is_job = t.is_job;
  tracks = record {
    answers = t.answers;
    ended = ended;
    answered = t.answered;
    outcome_is = e;
    log = t.follows;
    promises = log_promises t.answers t.job;
    caused = is_caused t.answers t.job to result ended old.holds new.holds e t.follows;
  };
  read_back = read_back scale t.answers old.holds.files mesh_name step_name to.decimals t.job t.is_job;
  faults = (let P : Outcome → Type 0 = λ o. FaultsAreCounted old new o in subst P (sym e) (faults_counted old new ended causes));
}

-- ---- what the words of a command tell is within the limits

pub limits_of : (o : Option Command) (f g : Command) → o ≡ Some f → f ≡ g → IfSome o IsInLimits → IsInLimits g
limits_of o f g some is few =
    let P : Option Command → Type 0 = λ x. IfSome x IsInLimits in
    subst P (some ∙ ap Some is) few

-- ---- a try

-- the words of a try tell few enough cubes in a row
pub is_row : (o : Option Command) (f : Command) (cubes key : ℕ) → o ≡ Some f → f ≡ command.Try cubes key → IfSome o IsInLimits → IsRow cubes
is_row o f cubes key some is few =
    let limits : (1 ≤ cubes) × (cubes ≤ CUBES_MAX) = limits_of o f (command.Try cubes key) some is few in
    record { some = limits.0; few = limits.1 }

-- the sink is at fault only where its count rose
sink_counted : (old new : World) (ended : Result (Unit {0}) Stop) (result : Outcome) → result ≡ outcome_of_try ended → HasCauses old new ended → result ≡ outcome.SinkFault → Rose old.sink_faults new.sink_faults
sink_counted old new (Ok d) result e causes s = absurd (cc)
sink_counted old new (Err stop.NoMemory) result e causes s = absurd (cc)
sink_counted old new (Err stop.DeskFault) result e causes s = absurd (cc)
sink_counted old new (Err stop.SinkFault) result e causes s = causes.sink_fault refl

is_summary : (text : List ℕ) (ended : Result (Unit {0}) Stop) (old new : Option (List ℕ)) → OnOk ended (new ≡ appended old text) → OnErr ended (AppendsPart old new text) → IsWrittenBy text ended old new
is_summary text (Ok d) old new done stopped = done
is_summary text (Err why) old new done stopped = stopped

-- how a try ended is what the command promises of it
pub tries : (cubes key : ℕ) (a b : Around) (result : Outcome) (ended : Result (Unit {0}) Stop) → result ≡ outcome_of_try ended → OnOk ended (b.world.holds.written ≡ appended a.world.holds.written (summary_of cubes key))
    → OnErr ended (AppendsPart a.world.holds.written b.world.holds.written (summary_of cubes key)) → StoresNothing a b ended → TriesCommand cubes key result a.world b.world
tries cubes key a b result ended e done stopped quiet = record {
  ended = ended;
  outcome_is = e;
  summary = is_summary (summary_of cubes key) ended a.world.holds.written b.world.holds.written done stopped;
  files = quiet.files;
  desk = quiet.desk;
  no_desk = quiet.no_desk;
  sink = quiet.counts.causes.out;
  sink_fault = sink_counted a.world b.world ended result e quiet.counts.causes;
}

-- ---- the words

-- a run for the words of a command
pub runs_command : (fields : Known) (o : Option Command) (f g : Command) (words : List (List ℕ)) (result : Outcome) (old new : World) → o ≡ Some f → f ≡ g → IsReading words (option_map named_by o) → IsReadExactly words (option_map named_by o) → Runs fields (Some (named_by g)) result old new → RunsFor fields words result old new
runs_command fields o f g words result old new some is read exact runs =
    let P : Option Command → Type 0 = λ x. IsReading words (option_map named_by x) in
    let Q : Option Command → Type 0 = λ x. IsReadExactly words (option_map named_by x) in
    let here : o ≡ Some g = some ∙ ap Some is in
    inl (record { named = Some (named_by g); read = subst P here read; exact = subst Q here exact; runs = runs })

-- words that are no command
pub runs_nothing : (fields : Known) (o : Option Command) (words : List (List ℕ)) (w : World) → o ≡ None → IsReading words (option_map named_by o) → IsReadExactly words (option_map named_by o) → RunsFor fields words outcome.Usage w w
runs_nothing fields o words w none read exact =
    let P : Option Command → Type 0 = λ x. IsReading words (option_map named_by x) in
    let Q : Option Command → Type 0 = λ x. IsReadExactly words (option_map named_by x) in
    inl (record { named = None; read = subst P none read; exact = subst Q none exact; runs = (refl, refl) })

-- a run over two sides that are the same afterwards
pub runs_at : {D K : Type 0} (files : D → Option Files) (faults : D → ℕ) (written : K → Option (List ℕ)) (sink_faults : K → ℕ) (fields : Known) (words : List (List ℕ)) (result : Outcome) (old : World) (desk left : D) (out told : K) → desk ≡ left → out ≡ told
    → RunsFor fields words result old (world files faults written sink_faults left told) → RunsFor fields words result old (world files faults written sink_faults desk out)
runs_at {D = D} {K = K} files faults written sink_faults fields words result old desk left out told same_desk same_out runs =
    let P : D → Type 0 = λ d. RunsFor fields words result old (world files faults written sink_faults d told) in
    let Q : K → Type 0 = λ k. RunsFor fields words result old (world files faults written sink_faults desk k) in
    subst Q (sym same_out) (subst P (sym same_desk) runs)
