-- What a log tells of motions and of edits, by which whoever reads it can do them again.
use Rattle.std.specs.Prelude.{◌≡◌, ⊤, false, List, []}
use Rattle.std.specs.List.{AllByRecursion}
use Rattle.grid_base.specs.declared.TheConstants.{DEPTH_MAX}
use Rattle.grid_decided.specs.Decided.{meets_exactly}
use Rattle.mesh_base.specs.Failing.{failing}
use Rattle.mesh_base.specs.Mesh.{is_solid}
use Rattle.edit_any.specs.Answered.{IsAnswered}
use Rattle.log_text.specs.declared.LogLine.{LogLine}
use Rattle.log_text.specs.declared.LogLine.TheVariants.{Move, Moved, Did}
use Rattle.log_replay.specs.Moves.{MayMove, AreMoves}
use Rattle.log_replay.specs.Replay.{Replay, EachAt}

-- A motion by the `move` lines so far can be done again: they are moves, none of a solid vertex,
-- and each pair passes, tested to the greatest depth.
pub record MotionIsAgain (r : Replay) : Type 0 where
  pub moves : AreMoves r.mesh r.moves
  pub free : AllByRecursion (λ s. is_solid r.mesh s.v ≡ false) r.moves
  pub passes : failing meets_exactly r.mesh r.moves DEPTH_MAX ≡ []

-- A `move` line can be taken again where it stands; so can the motion of a `moved`
-- line; and the line of a done edit tells what the edit answers, tested to the greatest
-- depth, when it is asked for again.
abbrev pub LineIsAgain : Replay → LogLine → Type 0
LineIsAgain r (Move s) = MayMove r.mesh r.moves s
LineIsAgain r (Moved how) = MotionIsAgain r
LineIsAgain r (Did change) = IsAnswered r.mesh change
LineIsAgain r _ = ⊤

-- each of the lines can be done again, in turn
abbrev pub LinesAreAgain : Replay → List LogLine → Type 0
LinesAreAgain r lines = EachAt LineIsAgain r lines
