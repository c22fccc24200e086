-- How a log ends of which each line is judged in turn. What is found of a line is a
-- verdict, by the number of the line and by where a replay stands before it; `Accepted`
-- says that nothing is against the line.
use Rattle.std.specs.Prelude.{◌≡◌, ◌⊎◌, ⊤, ℕ, suc, List, [], ◌∷◌, ◌++◌, length, Option, Some, None}
use Rattle.mesh_base.specs.Mesh.{Mesh}
use Rattle.motion_proof.specs.declared.Verdict.{Verdict}
use Rattle.motion_proof.specs.declared.Verdict.TheVariants.{Accepted, NoMotion}
use Rattle.log_text.specs.declared.LogLine.{LogLine}
use Rattle.log_run.specs.States.{LogState, with_line, without_lines}
use Rattle.log_run.specs.Fits.{LineFits}
use Rattle.track_log.specs.declared.refusal.LogRefusal.{LogRefusal}
use Rattle.track_log.specs.declared.refusal.LogRefusal.TheVariants.{Replay, Motion}
use Rattle.track_log.specs.Taking.{with_lines, HasNoLine}

-- a line of this number fits where a replay stands, and nothing is against it
pub record Stands (Finds : ℕ → LogState → LogLine → Verdict → Type 0) (number : ℕ) (s : LogState)
    (line : LogLine) : Type 0 where
  pub fits : LineFits s line
  pub found : Finds number s line Accepted

-- each of the lines, the first of which has this number, stands where those before it lead
abbrev pub EachStands : (ℕ → LogState → LogLine → Verdict → Type 0) → ℕ → LogState → List LogLine →
    Type 0
EachStands Finds number s [] = ⊤
EachStands Finds number s (line ∷ lines) =
    Stands Finds number s line × EachStands Finds (suc number) (with_line s line) lines

-- there are lines, and each of them stands
pub record AllStand (Finds : ℕ → LogState → LogLine → Verdict → Type 0) (s : LogState)
    (lines : List LogLine) : Type 0 where
  pub some : ¬ (lines ≡ [])
  pub each : EachStands Finds 1 s lines

-- The line of this number is reached: each line before it stands, and here is where those lead.
pub record IsReached (Finds : ℕ → LogState → LogLine → Verdict → Type 0) (s : LogState)
    (lines : List LogLine) (number : ℕ) (here : LogState) (line : LogLine) : Type 0 where
  pub front : List LogLine
  pub rest : List LogLine
  pub split : lines ≡ front ++ line ∷ rest
  pub stand : EachStands Finds 1 s front
  pub here_is : here ≡ with_lines s front
  pub number_is : number ≡ suc (length front)

-- the line of this number is reached, and does not fit
pub record IsUnfitLine (Finds : ℕ → LogState → LogLine → Verdict → Type 0) (s : LogState)
    (lines : List LogLine) (number : ℕ) : Type 0 where
  pub here : LogState
  pub line : LogLine
  pub reached : IsReached Finds s lines number here line
  pub unfit : ¬ (LineFits here line)

-- the line of this number is reached and fits, and this verdict is against it
pub record IsBadLine (Finds : ℕ → LogState → LogLine → Verdict → Type 0) (s : LogState)
    (lines : List LogLine) (number : ℕ) (verdict : Verdict) : Type 0 where
  pub here : LogState
  pub line : LogLine
  pub reached : IsReached Finds s lines number here line
  pub fits : LineFits here line
  pub found : Finds number here line verdict
  pub against : ¬ (verdict ≡ Accepted)

-- all lines stand, and behind them is the number of a motion of which the log has no line
pub record IsBeyond (Finds : ℕ → LogState → LogLine → Verdict → Type 0) (beyond : Option ℕ)
    (s : LogState) (lines : List LogLine) (number : ℕ) (verdict : Verdict) : Type 0 where
  pub all : AllStand Finds s lines
  pub number_is : beyond ≡ Some number
  pub verdict_is : verdict ≡ NoMotion

-- How the lines of a log that begins with a mesh end, where `beyond` is the number of a motion
-- behind them, if there is one: well, where all stand and there is none; refused at the first line
-- that does not fit or against which something is found, or at that motion.
abbrev pub EndsJudged : (ℕ → LogState → LogLine → Verdict → Type 0) → Option ℕ → Mesh →
    List LogLine → Option LogRefusal → Type 0
EndsJudged Finds beyond m lines None = AllStand Finds (without_lines m) lines × (beyond ≡ None)
EndsJudged Finds beyond m lines (Some (Replay number)) =
    HasNoLine lines number ⊎ IsUnfitLine Finds (without_lines m) lines number
EndsJudged Finds beyond m lines (Some (Motion number verdict)) =
    IsBadLine Finds (without_lines m) lines number verdict
    ⊎ IsBeyond Finds beyond (without_lines m) lines number verdict
EndsJudged Finds beyond m lines (Some why) = ⊥
