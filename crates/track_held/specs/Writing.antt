-- What a call writes to the lines of an engine that is held, and in which state it leaves it.
use Rattle.std.specs.Prelude.{◌≡◌, Option, Result, IfOk, IsSome}
use Rattle.in_out.specs.InOut.{InOut, value_before, value_after}
use Rattle.grid_base.specs.declared.Point.{Point}
use Rattle.mesh_base.specs.declared.UseWhy.{UseWhy}
use Rattle.mesh_base.specs.declared.surface.Surface.{Ghosts}
use Rattle.mesh_sizing.specs.declared.sizing.Band.{Band}
use Rattle.outside_io.specs.declared.stop.Stop.{Stop}
use Rattle.pass_run.specs.declared.passes.PassCount.{PassCount}
use Rattle.track_engine.specs.State.{State}
use Rattle.track_engine.specs.Effects.{Effect}
use Rattle.track_engine.specs.Parts.{Writes, FitTells}
use Rattle.track_held.specs.declared.held.Held.{Held}
use Rattle.track_held.specs.Held.{held_state, log_in}

module _ {S : Type 0} {g : Ghosts S} where
  -- the lines of what the effect is in its state are told, and it stands in the state after them; or
  -- it is refused; or it stops in its lines
  abbrev pub WritesEffect : (State → Effect) → InOut (Held S g) → Result (Option UseWhy) Stop →
      Type 0
  WritesEffect effect held result =
      Writes (effect (held_state (value_before held))) (held_state (value_after held))
      (log_in (value_before held)) (log_in (value_after held)) result

  -- the same of a pass by a sizing that may answer so, at which point which band
  abbrev pub WritesFit : (Point → Band → Type 0) → InOut (Held S g) → Result PassCount Stop → Type 0
  WritesFit may_size held result =
      FitTells may_size (held_state (value_before held)) (held_state (value_after held))
      (log_in (value_before held)) (log_in (value_after held)) result

  -- a refusal leaves the state as it was
  abbrev pub RefusalLeavesState : InOut (Held S g) → Result (Option UseWhy) Stop → Type 0
  RefusalLeavesState held result =
      IfOk result
      (λ refused. IsSome refused →
      held_state (value_after held) ≡ held_state (value_before held))
