-- How `prove` ends, and the text that it writes.
use Rattle.std.specs.Prelude.{◌≡◌, ⊤, ℕ, List, [], ◌∷◌, Option, Some, None, Result, Ok, Err}
use Rattle.edit_base.specs.Scaffold.{Scaffold, motion_of}
use Rattle.edit_scaffold.specs.Made.{claim_of}
use Rattle.motion_proof.specs.declared.Verdict.{Verdict}
use Rattle.motion_proof.specs.declared.Verdict.TheVariants.{Accepted, Missing}
use Rattle.motion_proof.specs.Making.{IsFirstFailing, AreByRule}
use Rattle.proof_text.specs.declared.ProofAt.{ProofAt}
use Rattle.proof_text.specs.Lines.{text_of}
use Rattle.proof_text.specs.Views.{proofs_view}
use Rattle.log_text.specs.declared.LogLine.{LogLine}
use Rattle.log_run.specs.States.{LogState}
use Rattle.log_run.specs.Motions.{MotionAt, moved_in, motions_of, PassesWhereMoved}
use Rattle.track_log.specs.declared.refusal.LogRefusal.{LogRefusal}
use Rattle.track_log.specs.LogJob.{LogInput}
use Rattle.track_log.specs.Refused.{refused_text}
use Rattle.track_prove.specs.Judged.{EndsJudged}

-- What is found of a motion, if there is one, where a certificate is to be made of
-- it: nothing is against it where each pair passes, as its kind claims; else the
-- first pair that does not is missing.
abbrev pub MakesVerdict : Option Scaffold → Verdict → Type 0
MakesVerdict motion Accepted = PassesWhereMoved motion
MakesVerdict (Some motion) (Missing pair) =
    IsFirstFailing motion.mesh (motion_of motion) (claim_of motion.touch) pair
MakesVerdict _ _ = ⊥

-- what is found of a line: what is found of the motion of which it tells
abbrev pub ProveFinds : ℕ → LogState → LogLine → Verdict → Type 0
ProveFinds number s line verdict = MakesVerdict (moved_in s.replay line) verdict

-- the certificate is the one that the rule makes for the motion, and stands at its line
pub record IsProofOf (at : MotionAt) (p : ProofAt) : Type 0 where
  pub line : p.line ≡ at.line
  pub claim : p.proof.claim ≡ claim_of at.motion.touch
  pub ruled :
      AreByRule at.motion.mesh (motion_of at.motion) (claim_of at.motion.touch) p.proof.entries

-- one for each motion, in order
abbrev pub AreProofsOf : List MotionAt → List ProofAt → Type 0
AreProofsOf [] [] = ⊤
AreProofsOf (at ∷ motions) (p ∷ proofs) = IsProofOf at p × AreProofsOf motions proofs
AreProofsOf _ _ = ⊥

-- the text of certificates, one for each motion of the lines
pub record IsProofText (input : LogInput) (text : List ℕ) : Type 0 where
  pub proofs : List ProofAt
  pub are : AreProofsOf (motions_of input.mesh input.lines) proofs
  pub text_is : text ≡ text_of (proofs_view proofs)

-- the text of an ending of the lines
abbrev pub IsProvedText : LogInput → Option LogRefusal → List ℕ → Type 0
IsProvedText input None text = IsProofText input text
IsProvedText input (Some why) text = text ≡ refused_text why

-- How it ends for what was given, and the text that is written in whole with that ending: the
-- refusal of what was given; or the proof of a log of which each line fits and each motion passes;
-- or the refusal of the first line that does not.
abbrev pub ProveEnds : Result LogInput LogRefusal → Option LogRefusal → List ℕ → Type 0
ProveEnds (Err why) ending text = (ending ≡ Some why) × (text ≡ refused_text why)
ProveEnds (Ok input) ending text =
    EndsJudged ProveFinds None input.mesh input.lines ending × IsProvedText input ending text
