-- The headline: what `prove` and `verify` do.
use Rattle.std.specs.Prelude.{◌≡◌, ◌⊎◌, ℕ, List, Option, None, Result, Ok, Err}
use Rattle.log_replay.specs.Replay.{at_mesh}
use Rattle.log_replay.specs.Safe.{LinesKeepTheMesh}
use Rattle.outside_io.specs.declared.stop.Stop.{Stop}
use Rattle.outside_io.specs.Outside.{HasCauses}
use Rattle.outside_io.specs.Sink.{appended, AppendsPart}
use Rattle.outside_io.specs.World.{World}
use Rattle.track_input.specs.Words.{LogNames, ProofNames}
use Rattle.track_log.specs.declared.refusal.LogRefusal.{LogRefusal}
use Rattle.track_log.specs.LogJob.{LogJob, IsLogJob, LogInput, input_of}
use Rattle.track_prove.specs.Proving.{ProveEnds}
use Rattle.track_prove.specs.Verifying.{ProofJob, IsProofJob, ProofInput, proof_input_of, VerifyEnds}

-- THE HEADLINE, read from here down. `prove` writes a proof of a log: the certificate of each of
-- its motions. `verify` tests such a proof, whoever wrote it. Each writes the text of its ending in
-- whole; or it is stopped, and nothing is written, or the first bytes of that text and not all.
-- Nothing is stored. Where it is done, the log keeps a clear mesh clear.

-- the text of this ending is written
pub record IsWritten (Ends : Option LogRefusal → List ℕ → Type 0) (ending : Option LogRefusal)
    (old new : Option (List ℕ)) : Type 0 where
  pub text : List ℕ
  pub ends : Ends ending text
  pub whole : new ≡ appended old text

-- a part of the text of its ending is written
pub record IsWrittenInPart (Ends : Option LogRefusal → List ℕ → Type 0) (old new : Option (List ℕ))
    : Type 0 where
  pub ending : Option LogRefusal
  pub text : List ℕ
  pub ends : Ends ending text
  pub part : AppendsPart old new text

-- what is written, where it is done, and where it is stopped
abbrev pub IsToldBy : (Option LogRefusal → List ℕ → Type 0) → Option (List ℕ) → Option (List ℕ) →
    Result (Option LogRefusal) Stop → Type 0
IsToldBy Ends old new (Ok ending) = IsWritten Ends ending old new
IsToldBy Ends old new (Err stop) = (new ≡ old) ⊎ IsWrittenInPart Ends old new

-- the command was stopped
abbrev pub IsStopped : Result (Option LogRefusal) Stop → Type 0
IsStopped (Ok ending) = ⊥
IsStopped (Err stop) = Unit {0}

-- it has this ending if it is not stopped, whenever that is one of what was given
abbrev pub IsTheOnly : (Option LogRefusal → List ℕ → Type 0) → Result (Option LogRefusal) Stop →
    Type 0
IsTheOnly Ends result = (ending : Option LogRefusal) (text : List ℕ) → Ends ending text →
    (result ≡ Ok ending) ⊎ IsStopped result

-- Each line of the log is safe where it stands: the motion of each step and of each edit is clear
-- as its kind asks, no solid vertex moves, and each mesh on the way is sound, closed and clear.
abbrev pub IsSafe : LogInput → Type 0
IsSafe log = LinesKeepTheMesh (at_mesh log.mesh) log.lines

-- nothing of what was given is refused, and the log is safe
abbrev pub IsSafeLog : Result LogInput LogRefusal → Type 0
IsSafeLog (Err why) = ⊥
IsSafeLog (Ok log) = IsSafe log

-- the same where a proof is given too
abbrev pub IsSafeProof : Result ProofInput LogRefusal → Type 0
IsSafeProof (Err why) = ⊥
IsSafeProof (Ok input) = IsSafe input.log

-- The log that the desk held at entry under the one name is proved, from
-- the mesh under the other name on.
pub record Proves (names : LogNames) (result : Result (Option LogRefusal) Stop)
    (old new : World) : Type 0 where
  pub job : LogJob
  pub is_job : IsLogJob old.holds.files names job
  pub told : IsToldBy (ProveEnds (input_of job)) old.holds.written new.holds.written result
  pub only : IsTheOnly (ProveEnds (input_of job)) result
  pub safe : result ≡ Ok None → IsSafeLog (input_of job)
  pub files : new.holds.files ≡ old.holds.files
  pub faults : HasCauses old new result

-- The proof that the desk held at entry under its name is tested, of
-- the log and the mesh under theirs.
pub record Verifies (names : ProofNames) (result : Result (Option LogRefusal) Stop)
    (old new : World) : Type 0 where
  pub job : ProofJob
  pub is_job : IsProofJob old.holds.files names job
  pub told : IsToldBy (VerifyEnds (proof_input_of job)) old.holds.written new.holds.written result
  pub only : IsTheOnly (VerifyEnds (proof_input_of job)) result
  pub safe : result ≡ Ok None → IsSafeProof (proof_input_of job)
  pub files : new.holds.files ≡ old.holds.files
  pub faults : HasCauses old new result
