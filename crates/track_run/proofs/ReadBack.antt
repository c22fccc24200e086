-- The text of a job's log is read as its lines.
use Rattle.std.proofs.Common.{◌≡◌, ℕ, List, [], Option, Some, None, Result, Ok, Err, refl, sym, subst, arith}
use Rattle.std.specs.Prelude.{IfSome}
use Rattle.std.specs.declared.option.Option.{Option as Told}
use Rattle.std.proofs.lemmas.List.Elements.{All-cons, All-nil}
use Rattle.grid_decided.specs.Decided.{meets_exactly}
use Rattle.mesh_base.specs.declared.PairName.{PairName}
use Rattle.mesh_base.specs.declared.Scale.{Scale}
use Rattle.mesh_base.specs.Limits.{limits_of}
use Rattle.mesh_base.specs.Mesh.{Mesh, IsSound}
use Rattle.mesh_base.specs.Placements.{rest_positions}
use Rattle.mesh_base.specs.Sides.{IsClosed}
use Rattle.mesh_base.proofs.MeshLaws.{small_texts_of}
use Rattle.pair_scan.proofs.Clear.{clear_exactly}
use Rattle.step_text.specs.declared.Placed.{Placed}
use Rattle.log_text.specs.declared.Refusal.{Refusal}
use Rattle.log_text.specs.declared.Refusal.TheVariants as refusal
use Rattle.log_text.specs.declared.LogLine.TheVariants.{Refused as RefusedLine}
use Rattle.log_read.specs.Laws.{IsPairInRange}
use Rattle.log_read.proofs.LogLaws.{written_logs_are_read_lem}
use Rattle.log_replay.specs.Laws.{IsWithin}
use Rattle.run_laws.specs.Lines.{MayFollow, AreInRange}
use Rattle.run_laws.proofs.Names.{meeting_in_range}
use Rattle.run_laws.specs.Inputs.{IsSeen, AreCounted, IsInputInRange}
use Rattle.run_laws.proofs.Inputs.{inputs_in_range, mesh_logs_in_range}
use Rattle.outside_io.specs.Desk.{Files}
use Rattle.track_input.specs.Source.{Source, Bytes, Absent, TooLong, IsSource}
use Rattle.track_input.specs.Job.{Job, Input, IsJob, input_of, mesh_of_lists, met_first}
use Rattle.track_engine.specs.Answers.{Answers}
use Rattle.track_run.specs.Job.{log_of_input, log_of_test}
use Rattle.track_run.specs.Headline.{IsReadBack}

-- the only line
refused_alone : (scale : Scale) (why : Refusal) → MayFollow scale (RefusedLine why) → AreInRange scale (log_of_input scale [] (Err why)).lines
refused_alone scale why h = All-cons (MayFollow scale) (RefusedLine why) [] h (All-nil (MayFollow scale))

test_in_range : (scale : Scale) (answers : Answers) (m : Mesh) (steps : List Placed) → IsWithin scale m.limits → IsSound m → IsClosed m → AreCounted steps → (o : Option PairName) → met_first m ≡ o → AreInRange scale (log_of_test answers m steps o).lines
test_in_range scale answers m steps within sound closed counted (Some pair) e =
    let P : Option PairName → Type 0 = λ o. IfSome o IsPairInRange in
    refused_alone scale (refusal.Meets pair) (subst P e (meeting_in_range meets_exactly m (rest_positions m) sound), tt)
test_in_range scale answers m steps within sound closed counted None e =
    mesh_logs_in_range scale answers m steps within (record { sound = sound; closed = closed; clear = (clear_exactly m None sound (sym e)).0 refl }) counted

-- the limits of a scale are within it
own_limits : (scale : Scale) → IsWithin scale (limits_of scale)
own_limits scale = record { vertices = omega arith; faces = omega arith }

input_in_range : (scale : Scale) (answers : Answers) (r : Result Input Refusal) → IsInputInRange scale r → AreInRange scale (log_of_input scale answers r).lines
input_in_range scale answers (Err why) h = refused_alone scale why (h, tt)
input_in_range scale answers (Ok input) h =
    let m = mesh_of_lists scale input.lists in
    test_in_range scale answers m input.steps (own_limits scale) h.sound h.closed h.steps (met_first m) refl

seen_of : (scale : Scale) (files : Told Files) (name : List ℕ) (source : Source) → IsSource scale files name source → IsSeen source
seen_of scale files name (Bytes bytes) is = omega (arith, is.0, small_texts_of scale)
seen_of scale files name Absent is = tt
seen_of scale files name (TooLong seen) is = is.1

-- the lines behind the first of the log of a job whose files a desk held
pub job_in_range : (scale : Scale) (answers : Answers) (files : Told Files) (mesh_name step_name : List ℕ) (decimals : ℕ) (job : Job) → IsJob scale files mesh_name step_name decimals job → AreInRange job.scale (log_of_input job.scale answers (input_of job)).lines
job_in_range scale answers files mesh_name step_name decimals job is =
    input_in_range job.scale answers (input_of job) (inputs_in_range job (seen_of scale files mesh_name job.mesh_file is.mesh) (seen_of scale files step_name job.step_file is.steps))

-- that log is read as its lines
pub read_back : (scale : Scale) (answers : Answers) (files : Told Files) (mesh_name step_name : List ℕ) (decimals : ℕ) (job : Job) → IsJob scale files mesh_name step_name decimals job → IsReadBack job answers
read_back scale answers files mesh_name step_name decimals job is =
    written_logs_are_read_lem job.scale (log_of_input job.scale answers (input_of job)).lines (job_in_range scale answers files mesh_name step_name decimals job is)
