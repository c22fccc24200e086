-- What is kept of a replay, and what it stands for.
use Rattle.std.specs.Prelude.{◌≡◌, ◌↔◌, ℕ, ⊤, Bool, true, false, List, map, Result, Ok, IfOk, IsTrue}
use Rattle.std.specs.FinMap as finite
use Rattle.grid_base.specs.declared.NoMemory.{NoMemory}
use Rattle.mesh_base.specs.Mesh.{Mesh}
use Rattle.log_text.specs.declared.LogLine.{LogLine}
use Rattle.log_replay.specs.Replay.{Replay}
use Rattle.log_run.specs.declared.replay_state.StepSoFar.{StepSoFar}
use Rattle.log_run.specs.declared.replay_state.ReplayState.{ReplayState}
use Rattle.log_run.specs.States.{LogState, with_line}
use Rattle.log_replay.specs.Moves.{AreMoves}
use Rattle.log_run.specs.Steps.{shifts_of, names_of}
use Rattle.log_run.specs.Fits.{FitsLater}
use Rattle.log_run.specs.Groups.{stack_of, MarksHold}

-- the lists of a step are those of its moves
pub record StepHolds (m : Mesh) (step : StepSoFar) : Type 0 where
  pub moves : AreMoves m step.moves
  pub shifts : step.shifts ≡ shifts_of m step.moves
  pub named : step.named ≡ names_of m step.moves

-- the marks of the open groups hold, and so do the lists of a step that is begun
pub record Holds (beyond : ℕ) (m : Mesh) (kept : List Mesh) (at : ReplayState) : Type 0 where
  pub marks : MarksHold beyond kept at.marks
  pub step : at.begun ≡ true → StepHolds m at.step

-- the same, unless nothing more can be taken
abbrev pub HoldsUnless : Bool → ℕ → Mesh → List Mesh → ReplayState → Type 0
HoldsUnless true beyond m kept at = ⊤
HoldsUnless false beyond m kept at = Holds beyond m kept at

-- the replay
abbrev pub replay_of : Mesh → List Mesh → ReplayState → Replay
replay_of m kept at = record { mesh = m; moves = at.step.moves; stack = stack_of kept at.marks }

-- where a replay stands, of which this is kept
abbrev pub state_of : Mesh → List Mesh → ReplayState → Bool → Bool → LogState
state_of m kept at has_line is_spent = record {
  replay = replay_of m kept at;
  is_begun = at.begun;
  has_line = has_line;
  is_spent = is_spent;
}

-- the state in which a line that has others before it is taken
abbrev pub state_now : Mesh → List Mesh → ReplayState → LogState
state_now m kept at = state_of m kept at true false

-- What the call that takes a line after others promises, from one mesh, kept meshes and lists to
-- the next: it answers whether the line fits, and if so, the line is taken.
pub record Takes (beyond : ℕ) (line : LogLine) (m : Mesh) (kept : List Mesh) (at : ReplayState)
    (n : Mesh) (left : List Mesh) (next : ReplayState) (result : Result Bool NoMemory) :
    Type 0 where
  pub fits : IfOk result (λ fits. IsTrue fits ↔ FitsLater (state_now m kept at) line)
  pub taken : result ≡ Ok true → state_now n left next ≡ with_line (state_now m kept at) line
  pub holds : result ≡ Ok true → Holds beyond n left next
