-- What a step, a pass and edits that are asked for tell of themselves.
use Rattle.std.specs.Prelude.{ℕ, List, length, Option, Some, None, Result, Ok, Err}
use Rattle.mesh_base.specs.declared.UseWhy.{UseWhy}
use Rattle.mesh_base.specs.Pairs.{edges}
use Rattle.mesh_sizing.specs.declared.sizing.Want.{Want}
use Rattle.edit_base.specs.declared.PassKind.{PassKind}
use Rattle.edit_base.specs.declared.Asked.{Asked}
use Rattle.outside_io.specs.declared.stop.Stop.{Stop}
use Rattle.pass_run.specs.declared.passes.PassCount.{PassCount}
use Rattle.pass_run.specs.PassLines.{done_in, refused_in}
use Rattle.track_engine.specs.declared.told.StepTold.{StepTold}
use Rattle.track_engine.specs.State.{State}
use Rattle.track_engine.specs.Effects.{hits, taken, passed_lines, fitted_lines, edited_lines}

-- how the step is taken, and how many pairs have a `hit` line
abbrev pub step_told : State → StepTold
step_told s = record { how = (taken s).how; hits = length (hits s) }

-- how many lines of the pass are of done edits, and how many of refused ones
abbrev pub pass_told : PassKind → State → PassCount
pass_told kind s =
    record { done = done_in (passed_lines kind s); refused = refused_in (passed_lines kind s) }

-- the same of a pass by a sizing, by what that wants of each edge
abbrev pub fit_told : (ℕ × ℕ → Want) → State → PassCount
fit_told wants s = record {
  done = done_in (fitted_lines wants (edges s.mesh) s);
  refused = refused_in (fitted_lines wants (edges s.mesh) s);
}

-- the same of edits that are asked for
abbrev pub edits_counted : List Asked → State → PassCount
edits_counted asked s =
    record { done = done_in (edited_lines asked s); refused = refused_in (edited_lines asked s) }

-- what a step answers as a directive
abbrev pub step_untold : Result (Result StepTold UseWhy) Stop → Result (Option UseWhy) Stop
step_untold (Ok (Ok told)) = Ok None
step_untold (Ok (Err why)) = Ok (Some why)
step_untold (Err stop) = Err stop

-- what a pass answers as a directive
abbrev pub pass_untold : Result PassCount Stop → Result (Option UseWhy) Stop
pass_untold (Ok count) = Ok None
pass_untold (Err stop) = Err stop
