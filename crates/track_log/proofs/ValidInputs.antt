-- What is replayed begins with a mesh that is sound, closed and clear, and each line that fits leaves such a mesh.
use Rattle.std.proofs.Common.{◌≡◌, ℕ, List, map, length, Option, Some, None, Result, Ok, Err, refl, ap, sym, ◌∙◌, subst}
use Rattle.std.proofs.lemmas.List.{length-map}
use Rattle.grid_base.specs.declared.TheConstants.{DEPTH_MAX}
use Rattle.grid_base.specs.Points.{point_at}
use Rattle.mesh_base.specs.declared.PairName.{PairName}
use Rattle.mesh_base.specs.declared.ShapeFault.{ShapeFault}
use Rattle.mesh_base.specs.declared.Scale.{Scale}
use Rattle.mesh_base.specs.Mesh.{Mesh}
use Rattle.mesh_base.specs.Placements.{IsClearMesh}
use Rattle.mesh_base.specs.Valid.{IsValidSurface}
use Rattle.mesh_shape.specs.Shape.{shape_fault}
use Rattle.mesh_shape.proofs.Lists.{sound-mesh_under}
use Rattle.mesh_shape.proofs.Faults.{closed-mesh_under}
use Rattle.pair_scan.proofs.Clear.{clear_exactly}
use Rattle.pair_scan.proofs.Fails.{clear_along}
use Rattle.line_text.specs.declared.TextFault.{TextFault}
use Rattle.obj_text.specs.Obj.{Lists, lists_of}
use Rattle.log_text.specs.declared.LogLine.{LogLine}
use Rattle.log_text.specs.declared.LogLine.TheVariants.{Moved}
use Rattle.log_read.specs.Reading.{log_of}
use Rattle.log_run.specs.Laws.{IsValidState, StepIsClear}
use Rattle.log_run.specs.States.{LogState, with_line, without_lines}
use Rattle.log_run.proofs.StepMoves.{none_moves}
use Rattle.log_run.proofs.Surfaces.{fitting_is_safe}
use Rattle.track_input.specs.Source.{Source, Bytes, Absent, TooLong}
use Rattle.track_input.specs.Job.{mesh_of_lists, met_first}
use Rattle.track_log.specs.declared.refusal.LogRefusal.{LogRefusal}
use Rattle.track_log.specs.LogJob.{LogJob, LogInput, read_of_log, read_of_shape, read_of_lists, read_of_files, input_of_test, input_of_read, input_of}
use Rattle.track_log.specs.Taking.{FitsTested, StepPasses}

-- ---- meshes

-- the mesh of lists of good shape, of which no pair meets
pub valid_mesh : (scale : Scale) (lists : Lists) → shape_fault scale (length lists.points) lists.faces ≡ None → IsClearMesh (mesh_of_lists scale lists) → IsValidSurface (mesh_of_lists scale lists)
valid_mesh scale lists good clear =
    let points = map point_at lists.points in
    let none : shape_fault scale (length points) lists.faces ≡ None = ap (λ n. shape_fault scale n lists.faces) (length-map lists.points point_at) ∙ good in
    record { sound = sound-mesh_under scale points lists.faces none; closed = closed-mesh_under scale points lists.faces none; clear = clear }

pub valid_where_clear : (scale : Scale) (lists : Lists) → shape_fault scale (length lists.points) lists.faces ≡ None → met_first (mesh_of_lists scale lists) ≡ None → IsValidSurface (mesh_of_lists scale lists)
valid_where_clear scale lists good none =
    let points = map point_at lists.points in
    let shaped : shape_fault scale (length points) lists.faces ≡ None = ap (λ n. shape_fault scale n lists.faces) (length-map lists.points point_at) ∙ good in
    valid_mesh scale lists good ((clear_exactly (mesh_of_lists scale lists) None (sound-mesh_under scale points lists.faces shaped) (sym none)).0 refl)

-- ---- what a job gives

module _ (scale : Scale) (input : LogInput) where
  abbrev IsGiven : Result LogInput LogRefusal → Type 0
  IsGiven r = r ≡ Ok input

  refused : (why : LogRefusal) → IsGiven (Err why) → ⊥
  refused why e = absurd cc

  same_mesh : (m : Mesh) (lines : List LogLine) → IsGiven (Ok (record { mesh = m; lines = lines })) → m ≡ input.mesh
  same_mesh m lines e = cc

  of_test : (lists : Lists) → shape_fault scale (length lists.points) lists.faces ≡ None → (o : Option PairName) → met_first (mesh_of_lists scale lists) ≡ o → (lines : List LogLine)
      → IsGiven (input_of_test (mesh_of_lists scale lists) o lines) → IsValidSurface input.mesh
  of_test lists good (Some pair) met lines e = absurd (refused _ e)
  of_test lists good None met lines e = subst IsValidSurface (same_mesh (mesh_of_lists scale lists) lines e) (valid_where_clear scale lists good met)

  of_log : (lists : Lists) → shape_fault scale (length lists.points) lists.faces ≡ None → (r : Result (List LogLine) TextFault) → IsGiven (input_of_read scale (read_of_log lists r)) → IsValidSurface input.mesh
  of_log lists good (Err fault) e = absurd (refused _ e)
  of_log lists good (Ok lines) e = of_test lists good (met_first (mesh_of_lists scale lists)) refl lines e

  of_shape : (lists : Lists) (o : Option ShapeFault) → shape_fault scale (length lists.points) lists.faces ≡ o → (log : List ℕ) → IsGiven (input_of_read scale (read_of_shape scale lists o log)) → IsValidSurface input.mesh
  of_shape lists (Some fault) is log e = absurd (refused _ e)
  of_shape lists None is log e = of_log lists is (log_of scale log) e

  of_lists : (r : Result Lists TextFault) (log : List ℕ) → IsGiven (input_of_read scale (read_of_lists scale r log)) → IsValidSurface input.mesh
  of_lists (Err fault) log e = absurd (refused _ e)
  of_lists (Ok lists) log e = of_shape lists (shape_fault scale (length lists.points) lists.faces) refl log e

  of_files : (decimals : ℕ) (mesh log : Source) → IsGiven (input_of_read scale (read_of_files scale decimals mesh log)) → IsValidSurface input.mesh
  of_files decimals (TooLong seen) log e = absurd (refused _ e)
  of_files decimals Absent log e = absurd (refused _ e)
  of_files decimals (Bytes mesh) (TooLong seen) e = absurd (refused _ e)
  of_files decimals (Bytes mesh) Absent e = absurd (refused _ e)
  of_files decimals (Bytes mesh) (Bytes log) e = of_lists (lists_of decimals mesh) log e

pub valid_input : (job : LogJob) (input : LogInput) → input_of job ≡ Ok input → IsValidSurface input.mesh
valid_input job input e = of_files job.scale input job.decimals job.mesh_file job.log_file e

-- ---- lines

pub valid_start : (m : Mesh) → IsValidSurface m → IsValidState (without_lines m)
valid_start m good = record { now = good; groups = tt; moves = none_moves m; between = λ e. refl }

step_clear : (s : LogState) (line : LogLine) → IsValidState s → StepPasses s.replay line → StepIsClear s.replay line
step_clear s (Moved how) valid passes = clear_along s.replay.mesh s.replay.moves DEPTH_MAX valid.now.sound passes
step_clear s _ valid passes = tt

pub valid_next : (s : LogState) (line : LogLine) → IsValidState s → FitsTested s line → IsValidState (with_line s line)
valid_next s line valid fits = (fitting_is_safe s line valid fits.fits (step_clear s line valid fits.passes)).1
