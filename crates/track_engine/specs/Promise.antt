-- What a step promises.
use Rattle.std.specs.Prelude.{◌≡◌, ◌≢◌, ◌↔◌, ℕ, ◌+◌, List, [], ◌∷◌, ◌++◌}
use Rattle.grid_base.specs.Separation.{Passes}
use Rattle.grid_decided.specs.Decided.{meets_exactly}
use Rattle.mesh_base.specs.declared.How.{How}
use Rattle.mesh_base.specs.declared.How.TheVariants.{Whole, Zones}
use Rattle.mesh_base.specs.Mesh.{Mesh, IsSound}
use Rattle.mesh_base.specs.Pairs.{Pair, IsPair}
use Rattle.mesh_base.specs.Placements.{positions}
use Rattle.mesh_base.specs.Shifts.{Shifts, moved_by}
use Rattle.mesh_base.specs.Failing.{failing}
use Rattle.pair_scan.specs.Failed.{AreFailing}
use Rattle.step_zones.specs.Zones.{blocks}
use Rattle.step_zones.specs.Rounds.{round_labels}
use Rattle.step_choose.specs.Choice.{IsFirstWay, NoneFails}
use Rattle.log_text.specs.declared.LogLine.{LogLine}
use Rattle.log_text.specs.declared.LogLine.TheVariants.{Step, Moved}
use Rattle.track_engine.specs.State.{State}
use Rattle.track_engine.specs.Effects.{hits, lines_of_step, move_lines, taken}
use Rattle.track_engine.specs.Invariant.{IsAskedWell}

-- each pair passes the written test when each vertex goes from its point by its shift
abbrev pub EachPasses : Mesh → ℕ → Shifts → Type 0
EachPasses m depth by = (p : Pair) → IsPair m p →
    Passes depth (positions (moved_by m by).start p) (positions (moved_by m by).end p)

-- the blocks that move as one: those of two or more vertices of the round that
-- is taken, and none in another way
abbrev pub blocks_moved : State → How → List (List ℕ)
blocks_moved s (Zones round) =
    blocks s.mesh (round_labels meets_exactly s.mesh s.asked s.set.depth round)
blocks_moved s _ = []

-- Where all pairs pass in the asked step, its lines are the asked shifts, unaltered. Otherwise each
-- pair that does not pass has its line, in order, and the step is not taken whole. The way that is
-- taken is the first that applies, and by whichever shifts, none fails exactly where each pair
-- passes. The pairs that have a line are those that do not pass, each once and in order. The blocks
-- that have a line are those that move as one.
pub record StepIsTold (s : State) (lines : List LogLine) : Type 0 where
  pub unaltered : hits s ≡ [] →
      lines ≡ Step (s.steps + 1) ∷ (move_lines s.asked ++ Moved Whole ∷ [])
  pub altered : hits s ≢ [] → (taken s).how ≢ Whole
  pub told : lines ≡ lines_of_step (s.steps + 1) (hits s) (taken s)
  pub first_way : IsAskedWell s.mesh s.asked →
      IsFirstWay meets_exactly s.mesh s.asked s.set (taken s).how (taken s).taken
  pub blocks_told : (taken s).blocks ≡ blocks_moved s (taken s).how
  pub all_hits : IsSound s.mesh → AreFailing s.mesh s.asked s.set.depth (hits s)
  pub all_failing : IsSound s.mesh → (by : Shifts) →
      AreFailing s.mesh by s.set.depth (failing meets_exactly s.mesh by s.set.depth)
  pub none_fails : IsSound s.mesh → (by : Shifts) →
      NoneFails meets_exactly s.mesh s.set.depth by ↔ EachPasses s.mesh s.set.depth by
