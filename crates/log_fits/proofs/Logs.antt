-- Logs that were written, and their first lines.
use Rattle.std.proofs.Common.{◌≡◌, ◌⊎◌, inl, inr, ℕ, zero, suc, List, [], ◌∷◌, take, Option, Some, None, Result, Ok, Err, refl, ap, sym, subst, arith}
use Rattle.std.proofs.lemmas.List.Elements.{All-nil, All-cons, All-take}
use Rattle.mesh_base.specs.declared.Scale.{Scale}
use Rattle.mesh_base.specs.Limits.{limits_of}
use Rattle.mesh_base.specs.Mesh.{Mesh}
use Rattle.step_text.specs.declared.Placed.{Placed}
use Rattle.log_text.specs.declared.TheConstants.{VERSION, IDS_VERSION}
use Rattle.log_text.specs.declared.LogLine.{LogLine}
use Rattle.log_text.specs.Lines.{text_of_lines}
use Rattle.log_read.specs.Reading.{log_of as lines_of_text}
use Rattle.log_read.proofs.LogLaws.{written_logs_are_read_lem, numbered_logs_are_read_lem}
use Rattle.mesh_base.proofs.MeshLaws.{small_texts_of}
use Rattle.log_replay.specs.Laws.{IsWithin}
use Rattle.log_replay.proofs.Limits.{within_same}
use Rattle.log_replay.specs.Again.{LineIsAgain, LinesAreAgain}
use Rattle.log_replay.specs.Replay.{Replay, replayed, at_mesh, EachAt}
use Rattle.log_run.specs.States.{LogState, without_lines, with_line}
use Rattle.run_laws.specs.Lines.{MayFollow, AreInRange}
use Rattle.std.specs.Prelude.{IfSome, All}
use Rattle.std.specs.declared.option.Option.{Option as Told}
use Rattle.grid_decided.specs.Decided.{meets_exactly}
use Rattle.mesh_base.specs.declared.PairName.{PairName}
use Rattle.mesh_base.specs.Mesh.{IsSound}
use Rattle.mesh_base.specs.Placements.{rest_positions}
use Rattle.mesh_base.specs.Sides.{IsClosed}
use Rattle.pair_scan.proofs.Clear.{clear_exactly}
use Rattle.log_text.specs.declared.Refusal.{Refusal}
use Rattle.log_text.specs.declared.Refusal.TheVariants as refusal
use Rattle.log_text.specs.declared.LogLine.TheVariants.{First, Refused as RefusedLine}
use Rattle.log_read.specs.Laws.{IsPairInRange}
use Rattle.outside_io.specs.Desk.{Files}
use Rattle.run_laws.specs.Inputs.{IsSeen, AreCounted, IsInputInRange}
use Rattle.run_laws.proofs.Names.{meeting_in_range}
use Rattle.run_laws.proofs.Inputs.{inputs_in_range, mesh_logs_in_range}
use Rattle.track_input.specs.Source.{Source, Bytes, Absent, TooLong, IsSource}
use Rattle.track_input.specs.Job.{Job, Input, IsJob, mesh_of_lists, mesh_of_job, input_of, met_first}
use Rattle.track_engine.specs.Answers.{Answers}
use Rattle.track_engine.specs.Answered.{Known}
use Rattle.track_engine.specs.Kept.{LineHolds, LogIsSafe}
use Rattle.track_run.specs.Job.{log_of, log_of_input, log_of_test}
use Rattle.log_fits.specs.Fitting.{LinesFit}
use Rattle.log_fits.specs.Logs.{MayFollowAs, LogsAreRead, FirstPartsAreLogs, RunsHaveLogs}
use Rattle.log_fits.proofs.Jobs.{job_logs_fit}
use Rattle.log_fits.proofs.Measured.{mesh_is}

pub logs_are_read : LogsAreRead
logs_are_read scale m lines log =
    let P : List LogLine → Type 0 = λ ls. lines_of_text scale (text_of_lines ls) ≡ Ok ls in
    subst P (sym log.lines_are) (by_version log.version log.rest log.is_written log.range)
  where
    ReadBack : ℕ → List LogLine → Type 0
    ReadBack version rest = lines_of_text scale (text_of_lines (First version ∷ rest)) ≡ Ok (First version ∷ rest)

    by_version : (version : ℕ) (rest : List LogLine) → (version ≡ VERSION) ⊎ (version ≡ IDS_VERSION) → All (MayFollowAs scale version) rest → ReadBack version rest
    by_version version rest (inl is) range = subst (λ v. ReadBack v rest) (sym is) (written_logs_are_read_lem scale rest (subst (λ v. All (MayFollowAs scale v) rest) is range))
    by_version version rest (inr is) range = subst (λ v. ReadBack v rest) (sym is) (numbered_logs_are_read_lem scale rest (subst (λ v. All (MayFollowAs scale v) rest) is range))

-- ---- first lines

each_first : (Keeps : Replay → LogLine → Type 0) (r : Replay) (lines : List LogLine) (count : ℕ) → EachAt Keeps r lines → EachAt Keeps r (take count lines)
each_first Keeps r lines zero h = tt
each_first Keeps r [] (suc count) h = tt
each_first Keeps r (line ∷ lines) (suc count) h = (h.0, each_first Keeps (replayed r line) lines count h.1)

first_fit : (s : LogState) (lines : List LogLine) (count : ℕ) → LinesFit s lines → LinesFit s (take count lines)
first_fit s lines zero h = tt
first_fit s [] (suc count) h = tt
first_fit s (line ∷ lines) (suc count) h = (h.0, first_fit (with_line s line) lines count h.1)

pub first_parts_are_logs : FirstPartsAreLogs
first_parts_are_logs scale m lines zero some log = absurd (omega (arith, some))
first_parts_are_logs scale m lines (suc count) some log = record {
  version = log.version;
  is_written = log.is_written;
  rest = take count log.rest;
  lines_are = ap (take (suc count)) log.lines_are;
  range = All-take (MayFollowAs scale log.version) count log.rest log.range;
  fits = first_fit (without_lines m) lines (suc count) log.fits;
  again = each_first LineIsAgain (at_mesh m) lines (suc count) log.again;
  safe = each_first LineHolds (at_mesh m) lines (suc count) log.safe;
}

-- ---- runs

-- the only line
refused_alone : (scale : Scale) (why : Refusal) → MayFollow scale (RefusedLine why) → AreInRange scale (log_of_input scale [] (Err why)).lines
refused_alone scale why h = All-cons (MayFollow scale) (RefusedLine why) [] h (All-nil (MayFollow scale))

test_in_range : (scale : Scale) (answers : Answers) (m : Mesh) (steps : List Placed) → IsWithin scale m.limits → IsSound m → IsClosed m → AreCounted steps → (o : Option PairName) → met_first m ≡ o → AreInRange scale (log_of_test answers m steps o).lines
test_in_range scale answers m steps within sound closed counted (Some pair) e =
    let P : Option PairName → Type 0 = λ o. IfSome o IsPairInRange in
    refused_alone scale (refusal.Meets pair) (subst P e (meeting_in_range meets_exactly m (rest_positions m) sound), tt)
test_in_range scale answers m steps within sound closed counted None e =
    mesh_logs_in_range scale answers m steps within (record { sound = sound; closed = closed; clear = (clear_exactly m None sound (sym e)).0 refl }) counted

input_in_range : (scale : Scale) (answers : Answers) (r : Result Input Refusal) → IsInputInRange scale r → AreInRange scale (log_of_input scale answers r).lines
input_in_range scale answers (Err why) h = refused_alone scale why (h, tt)
input_in_range scale answers (Ok input) h = test_in_range scale answers (mesh_of_lists scale input.lists) input.steps (within_same scale (limits_of scale) refl) h.sound h.closed h.steps (met_first (mesh_of_lists scale input.lists)) refl

seen_of : (scale : Scale) (files : Told Files) (name : List ℕ) (source : Source) → IsSource scale files name source → IsSeen source
seen_of scale files name (Bytes bytes) is = omega (arith, is.0, small_texts_of scale)
seen_of scale files name Absent is = tt
seen_of scale files name (TooLong seen) is = is.1

-- the lines behind the first of the log of a job whose files a desk held
job_in_range : (scale : Scale) (answers : Answers) (files : Told Files) (mesh_name step_name : List ℕ) (decimals : ℕ) (job : Job) → IsJob scale files mesh_name step_name decimals job → AreInRange job.scale (log_of_input job.scale answers (input_of job)).lines
job_in_range scale answers files mesh_name step_name decimals job is =
    input_in_range job.scale answers (input_of job) (inputs_in_range job (seen_of scale files mesh_name job.mesh_file is.mesh) (seen_of scale files step_name job.step_file is.steps))

pub runs_have_logs : (known : Known) → RunsHaveLogs known
runs_have_logs known scale mesh_name step_name to tracked before after track lists directives clear =
    let job = track.job in
    let answers = track.tracks.answers in
    let lines : List LogLine = (log_of job answers).lines in
    let same : mesh_of_job job ≡ mesh_of_lists job.scale lists = mesh_is job lists directives clear in
    record {
      version = VERSION;
      is_written = inl refl;
      rest = (log_of_input job.scale answers (input_of job)).lines;
      lines_are = refl;
      range = job_in_range scale answers before.holds.files mesh_name step_name to.decimals job track.is_job;
      fits = subst (λ n. LinesFit (without_lines n) lines) same (job_logs_fit job answers);
      again = subst (λ n. LinesAreAgain (at_mesh n) lines) same track.tracks.promises.again;
      safe = subst (λ n. LogIsSafe (at_mesh n) lines) same track.tracks.promises.safe;
    }
