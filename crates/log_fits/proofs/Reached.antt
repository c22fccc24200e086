-- Where a replay of a run's log stands before one of its lines.
use Rattle.std.proofs.Common.{◌≡◌, List, [], ◌∷◌, ◌++◌, subst}
use Rattle.log_text.specs.declared.LogLine.{LogLine}
use Rattle.log_text.specs.declared.LogLine.TheVariants as line
use Rattle.log_replay.specs.Replay.{Replay}
use Rattle.log_replay.specs.Again.{LineIsAgain, LinesAreAgain}
use Rattle.log_run.specs.States.{LogState, with_line}
use Rattle.log_run.specs.Fits.{LineFits}
use Rattle.log_run.specs.Laws.{IsValidState, StepIsClear}
use Rattle.log_run.specs.Motions.{StepHasNoneFailing}
use Rattle.log_run.proofs.Surfaces.{fitting_is_safe}
use Rattle.track_log.specs.Taking.{with_lines}
use Rattle.track_engine.specs.Kept.{LineHolds, LogIsSafe}
use Rattle.log_fits.specs.Fitting.{LinesFit}

-- what a line holds says of a step that ends
pub step_clear : (r : Replay) (l : LogLine) → LineHolds r l → StepIsClear r l
step_clear r (line.Moved how) holds = holds.along
step_clear r (line.First version) holds = tt
step_clear r (line.Mesh k vertices faces) holds = tt
step_clear r (line.Step k) holds = tt
step_clear r (line.Solid v) holds = tt
step_clear r (line.Hit pair) holds = tt
step_clear r (line.Vertices new) holds = tt
step_clear r (line.Faces new) holds = tt
step_clear r (line.Block ids) holds = tt
step_clear r (line.Move shift) holds = tt
step_clear r (line.Pass kind) holds = tt
step_clear r line.PassFit holds = tt
step_clear r (line.Did change) holds = tt
step_clear r (line.No what why) holds = tt
step_clear r line.Group holds = tt
step_clear r (line.Close kept) holds = tt
step_clear r (line.Refused why) holds = tt
step_clear r line.End holds = tt

-- no pair of a step fails that can be done again
pub step_passes_again : (r : Replay) (l : LogLine) → LineIsAgain r l → StepHasNoneFailing r l
step_passes_again r (line.Moved how) again = again.passes
step_passes_again r (line.First version) again = tt
step_passes_again r (line.Mesh k vertices faces) again = tt
step_passes_again r (line.Step k) again = tt
step_passes_again r (line.Solid v) again = tt
step_passes_again r (line.Hit pair) again = tt
step_passes_again r (line.Vertices new) again = tt
step_passes_again r (line.Faces new) again = tt
step_passes_again r (line.Block ids) again = tt
step_passes_again r (line.Move shift) again = tt
step_passes_again r (line.Pass kind) again = tt
step_passes_again r line.PassFit again = tt
step_passes_again r (line.Did change) again = tt
step_passes_again r (line.No what why) again = tt
step_passes_again r line.Group again = tt
step_passes_again r (line.Close kept) again = tt
step_passes_again r (line.Refused why) again = tt
step_passes_again r line.End again = tt

-- Where a replay stands before a line of a log: its meshes are sound, closed and clear, the line fits, and what it tells can be done again.
pub record IsAtLine (here : LogState) (l : LogLine) : Type 0 where
  pub valid : IsValidState here
  pub fits : LineFits here l
  pub again : LineIsAgain here.replay l

pub reached : (s : LogState) (lines front rest : List LogLine) (l : LogLine) → IsValidState s → LinesFit s lines → LogIsSafe s.replay lines → LinesAreAgain s.replay lines → lines ≡ front ++ l ∷ rest → IsAtLine (with_lines s front) l
reached s [] [] rest l valid fit safe again split = absurd cc
reached s [] (x ∷ front) rest l valid fit safe again split = absurd cc
reached s (y ∷ lines) [] rest l valid fit safe again split =
    let here : y ≡ l = cc in
    subst (IsAtLine s) here (record { valid = valid; fits = fit.0; again = again.0 })
reached s (y ∷ lines) (x ∷ front) rest l valid fit safe again split =
    let here : y ≡ x = cc in
    let behind : lines ≡ front ++ l ∷ rest = cc in
    let next = fitting_is_safe s y valid fit.0 (step_clear s.replay y safe.0) in
    let later = reached (with_line s y) lines front rest l next.1 fit.1 safe.1 again.1 behind in
    subst (λ z. IsAtLine (with_lines (with_line s z) front) l) here later
