-- What becomes of one line.
use Rattle.std.specs.Prelude.{◌≡◌, ◌==◌, ℕ, List, [], ◌∷◌, ◌++◌, length, Option, Some, None, option_to_list, if◌then◌else◌}
use Rattle.edit_base.specs.Scaffold.{Scaffold}
use Rattle.motion_proof.specs.declared.Made.{Made}
use Rattle.motion_proof.specs.declared.Verdict.{Verdict}
use Rattle.motion_proof.specs.declared.Verdict.TheVariants.{Accepted, NoMotion}
use Rattle.proof_text.specs.declared.ProofAt.{ProofAt}
use Rattle.proof_text.specs.Plain.{PlainProof}
use Rattle.proof_text.specs.Views.{proof_view}
use Rattle.log_text.specs.declared.LogLine.{LogLine}
use Rattle.log_replay.specs.Safe.{LineKeepsTheMesh}
use Rattle.log_run.specs.States.{LogState, with_line}
use Rattle.log_run.specs.Fits.{LineFits}
use Rattle.log_run.specs.Laws.{IsValidState}
use Rattle.log_run.specs.Motions.{moved_in, IsCertified, IsJudged, IsClearWhereMoved}
use Rattle.track_prove.specs.declared.taken_lines.LineOutcome.{LineOutcome}
use Rattle.track_prove.specs.declared.taken_lines.LineOutcome.TheVariants.{Fits, Unfit, Bad}
use Rattle.track_prove.specs.Proving.{IsProofOf}

-- A line fits, and nothing is against it; or it does not fit; or it fits, and a verdict is
-- against it: by what is found of it.
abbrev pub IsTaken : (Verdict → Type 0) → LogState → LogLine → LineOutcome → Type 0
IsTaken Found s line Fits = LineFits s line × Found Accepted
IsTaken Found s line Unfit = ¬ (LineFits s line)
IsTaken Found s line (Bad verdict) = LineFits s line × (Found verdict × (¬ (verdict ≡ Accepted)))

-- a line that is taken fits, and one that is not does not
abbrev pub IsFitOrNot : LogState → LogLine → LineOutcome → Type 0
IsFitOrNot s line Fits = LineFits s line
IsFitOrNot s line Unfit = ¬ (LineFits s line)
IsFitOrNot s line (Bad verdict) = ⊥

-- no line is taken: it does not fit, or there is no motion against it,
-- or no certificate for its motion
abbrev pub IsDenied : LogState → LogLine → LineOutcome → Type 0
IsDenied s line Fits = ⊥
IsDenied s line Unfit = ¬ (LineFits s line)
IsDenied s line (Bad verdict) = LineFits s line × (verdict ≡ NoMotion)

-- if the line fits, its motion is clear, as its kind claims
pub record IsClearIfFits (s : LogState) (line : LogLine) : Type 0 where
  pub clear : LineFits s line → IsClearWhereMoved (moved_in s.replay line)

-- this is made of the motion of the line
pub record IsMadeHere (s : LogState) (line : LogLine) (made : Made) : Type 0 where
  pub certified : IsCertified s line (Some made)

-- this is found of the certificate for the motion of the line
pub record IsJudgedHere (s : LogState) (line : LogLine) (at : ProofAt)
    (verdict : Verdict) : Type 0 where
  pub judged : IsJudged s line at.proof.claim at.proof.entries (Some verdict)

-- the replay has taken the line, which was safe, and stays one of sound, closed and clear meshes
pub record Goes (s : LogState) (line : LogLine) (next : LogState) : Type 0 where
  pub taken : next ≡ with_line s line
  pub valid : IsValidState next
  pub keeps : LineKeepsTheMesh s.replay line

-- the certificates with that of a motion, if there is one, at their end
abbrev pub AddsProof : ℕ → Option Scaffold → List ProofAt → List ProofAt → Type 0
AddsProof number None old new = new ≡ old
AddsProof number (Some motion) old new =
    (p : ProofAt)
    × (IsProofOf (record { line = number; motion = motion }) p × (new ≡ old ++ p ∷ []))

-- the first certificate, where it is that of the line with this number
abbrev pub front_at : List PlainProof → ℕ → Option PlainProof
front_at [] number = None
front_at (p ∷ proofs) number = if p.line == number then Some p else None

-- the certificates behind that of the line with this number, where that is the first
abbrev pub behind : List PlainProof → ℕ → List PlainProof
behind [] number = []
behind (p ∷ proofs) number = if p.line == number then proofs else p ∷ proofs

-- the line of the first certificate, if there is one
abbrev pub first_line : List PlainProof → Option ℕ
first_line [] = None
first_line (p ∷ proofs) = Some p.line

-- the certificates that are left, by the one at hand; where none is, none is left
abbrev pub proofs_due : Option ProofAt → List PlainProof → List PlainProof
proofs_due None others = []
proofs_due (Some first) others = proof_view first ∷ others

-- certificates are passed over, so many: the first, where it is that of the line with this number
pub record Passes (number : ℕ) (old new : List PlainProof) (count : ℕ) : Type 0 where
  pub left : new ≡ behind old number
  pub count_is : count ≡ length (option_to_list (front_at old number))
