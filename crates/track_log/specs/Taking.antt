-- Which lines of a log are taken, one after another.
use Rattle.std.specs.Prelude.{◌≡◌, ◌⊎◌, ⊤, ℕ, suc, List, [], ◌∷◌, ◌++◌, length}
use Rattle.grid_base.specs.declared.TheConstants.{DEPTH_MAX}
use Rattle.grid_decided.specs.Decided.{meets_exactly}
use Rattle.mesh_base.specs.Failing.{failing}
use Rattle.log_text.specs.declared.LogLine.{LogLine}
use Rattle.log_text.specs.declared.LogLine.TheVariants.{Moved}
use Rattle.log_replay.specs.Replay.{Replay}
use Rattle.log_run.specs.States.{LogState, with_line}
use Rattle.log_run.specs.Fits.{LineFits}

-- no pair of the motion of a step that ends fails, tested to the greatest depth
abbrev pub StepPasses : Replay → LogLine → Type 0
StepPasses r (Moved how) = failing meets_exactly r.mesh r.moves DEPTH_MAX ≡ []
StepPasses r _ = ⊤

-- a line fits the lines before it, and if it ends a step, no pair of its motion fails
pub record FitsTested (s : LogState) (line : LogLine) : Type 0 where
  pub fits : LineFits s line
  pub passes : StepPasses s.replay line

-- ---- lines in turn, by what it means that one fits

-- where lines lead
abbrev pub with_lines : LogState → List LogLine → LogState
with_lines s [] = s
with_lines s (line ∷ lines) = with_lines (with_line s line) lines

-- each of the lines fits where those before it lead
abbrev pub EachFits : (LogState → LogLine → Type 0) → LogState → List LogLine → Type 0
EachFits Fits s [] = ⊤
EachFits Fits s (line ∷ lines) = Fits s line × EachFits Fits (with_line s line) lines

-- the line of this number is the first of the lines that does not fit
pub record IsFirstUnfit (Fits : LogState → LogLine → Type 0) (s : LogState) (lines : List LogLine)
    (number : ℕ) : Type 0 where
  pub front : List LogLine
  pub line : LogLine
  pub rest : List LogLine
  pub split : lines ≡ front ++ line ∷ rest
  pub fit : EachFits Fits s front
  pub unfit : ¬ Fits (with_lines s front) line
  pub number_is : number ≡ suc (length front)

-- a log without a line does not fit, at line 1
pub record HasNoLine (lines : List LogLine) (number : ℕ) : Type 0 where
  pub none : lines ≡ []
  pub number_is : number ≡ 1

-- the log does not fit, at the line of this number
abbrev pub IsUnfitAt : (LogState → LogLine → Type 0) → LogState → List LogLine → ℕ → Type 0
IsUnfitAt Fits s lines number = HasNoLine lines number ⊎ IsFirstUnfit Fits s lines number

-- there are lines, and each of them fits
pub record AllFit (Fits : LogState → LogLine → Type 0) (s : LogState)
    (lines : List LogLine) : Type 0 where
  pub some : ¬ (lines ≡ [])
  pub each : EachFits Fits s lines
