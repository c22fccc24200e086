-- The line of a refusal.
use Rattle.std.specs.Prelude.{ℕ, List, [], ◌∷◌, codes, decimal}
use Rattle.line_text.specs.WrittenLines.{line_of_words}
use Rattle.log_text.specs.declared.LogLine.TheVariants.{Refused}
use Rattle.log_text.specs.Lines.{text_of_line, why_word, pair_words}
use Rattle.motion_proof.specs.declared.Verdict.{Verdict}
use Rattle.motion_proof.specs.declared.Verdict.TheVariants.{Accepted, NoMotion, Stranger, Invalid, Missing}
use Rattle.track_log.specs.declared.refusal.LogRefusal.{LogRefusal}
use Rattle.track_log.specs.declared.refusal.LogRefusal.TheVariants.{Input, Log, Proof, Replay, Motion}

-- what is found of a motion, and the pair that it is found of
abbrev pub verdict_words : Verdict → List (List ℕ)
verdict_words Accepted = codes "accepted" ∷ []
verdict_words NoMotion = codes "nomotion" ∷ []
verdict_words (Stranger pair) = codes "stranger" ∷ pair_words pair
verdict_words (Invalid pair) = codes "invalid" ∷ pair_words pair
verdict_words (Missing pair) = codes "missing" ∷ pair_words pair

-- the line of a motion
abbrev pub motion_text : ℕ → List (List ℕ) → List ℕ
motion_text line found = line_of_words (codes "refused" ∷ codes "motion" ∷ decimal line ∷ found)

-- `refused` and what is refused: of what was given as a log tells it, `log LINE WHY`, `proof LINE
-- WHY`, `replay LINE`, or `motion LINE` and what is found of it
abbrev pub refused_text : LogRefusal → List ℕ
refused_text (Input why) = text_of_line (Refused why)
refused_text (Log fault) =
    line_of_words (codes "refused" ∷ codes "log" ∷ decimal fault.line ∷ why_word fault.why ∷ [])
refused_text (Proof fault) =
    line_of_words (codes "refused" ∷ codes "proof" ∷ decimal fault.line ∷ why_word fault.why ∷ [])
refused_text (Replay line) = line_of_words (codes "refused" ∷ codes "replay" ∷ decimal line ∷ [])
refused_text (Motion line verdict) = motion_text line (verdict_words verdict)
