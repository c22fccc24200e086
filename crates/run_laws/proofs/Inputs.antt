-- What the two files of a job give is in range.
use Rattle.std.proofs.Common.{◌≡◌, ℕ, ◌≤◌, List, map, length, Option, Some, None, Result, Ok, Err, refl, ap, ◌∙◌, arith}
use Rattle.std.proofs.lemmas.List.{length-map}
use Rattle.std.proofs.lemmas.List.Elements.{All-cons}
use Rattle.grid_base.specs.declared.TheConstants.{TEXT_MAX}
use Rattle.grid_base.specs.Points.{point_at}
use Rattle.mesh_base.specs.declared.Scale.{Scale}
use Rattle.mesh_base.specs.declared.ShapeFault.{ShapeFault}
use Rattle.mesh_shape.specs.Shape.{shape_fault}
use Rattle.mesh_shape.proofs.Lists.{sound-mesh_under}
use Rattle.mesh_shape.proofs.Faults.{closed-mesh_under}
use Rattle.line_text.specs.declared.TextFault.{TextFault}
use Rattle.obj_text.specs.Obj.{Lists, lists_of}
use Rattle.step_text.specs.declared.Placed.{Placed}
use Rattle.step_text.specs.Steps.{steps_of}
use Rattle.run_laws.specs.Lines.{MayFollow}
use Rattle.run_laws.proofs.StepLines.{mesh_in_range}
use Rattle.run_laws.proofs.Texts.{mesh_faults_in_range, shape_faults_in_range, step_faults_in_range, directives_in_range, directives_are_few}
use Rattle.track_input.specs.Source.{Source, Bytes, Absent, TooLong}
use Rattle.track_input.specs.Job.{input_of_steps, input_of_shape, input_of_lists, input_of_files}
use Rattle.track_engine.specs.State.{start}
use Rattle.track_engine.specs.Effects.{mesh_line, log_from}
use Rattle.track_engine.proofs.Keeping.{kept_start}
use Rattle.run_laws.specs.Inputs.{IsSeen, AreCounted, IsInputInRange, InputsAreInRange, LogsOfMeshesAreInRange}
use Rattle.run_laws.proofs.Effects.{logs_in_range}

module _ (scale : Scale) (decimals : ℕ) (mesh steps : List ℕ) (mesh_short : length mesh ≤ TEXT_MAX) (steps_short : length steps ≤ TEXT_MAX) where
  counted : (placed : List Placed) → steps_of steps ≡ Ok placed → AreCounted placed
  counted placed e =
      let few = directives_are_few steps placed e in
      record { placed = directives_in_range steps placed steps_short e; few = omega (arith, few, steps_short) }

  by_steps : (lists : Lists) → shape_fault scale (length lists.points) lists.faces ≡ None → (r : Result (List Placed) TextFault) → steps_of steps ≡ r → IsInputInRange scale (input_of_steps lists r)
  by_steps lists good (Err fault) e = step_faults_in_range steps fault steps_short e
  by_steps lists good (Ok placed) e =
      let points = map point_at lists.points in
      let none : shape_fault scale (length points) lists.faces ≡ None = ap (λ n. shape_fault scale n lists.faces) (length-map lists.points point_at) ∙ good in
      record { sound = sound-mesh_under scale points lists.faces none; closed = closed-mesh_under scale points lists.faces none; steps = counted placed e }

  by_shape : (lists : Lists) → lists_of decimals mesh ≡ Ok lists → (o : Option ShapeFault) → shape_fault scale (length lists.points) lists.faces ≡ o → IsInputInRange scale (input_of_shape lists o steps)
  by_shape lists e (Some fault) is = shape_faults_in_range scale decimals mesh lists fault mesh_short e is
  by_shape lists e None is = by_steps lists is (steps_of steps) refl

  by_lists : (r : Result Lists TextFault) → lists_of decimals mesh ≡ r → IsInputInRange scale (input_of_lists scale r steps)
  by_lists (Err fault) e = mesh_faults_in_range decimals mesh fault mesh_short e
  by_lists (Ok lists) e = by_shape lists e (shape_fault scale (length lists.points) lists.faces) refl

by_files : (scale : Scale) (decimals : ℕ) (mesh steps : Source) → IsSeen mesh → IsSeen steps → IsInputInRange scale (input_of_files scale decimals mesh steps)
by_files scale decimals (TooLong seen) steps few others = few
by_files scale decimals Absent steps few others = tt
by_files scale decimals (Bytes mesh) (TooLong seen) few others = others
by_files scale decimals (Bytes mesh) Absent few others = tt
by_files scale decimals (Bytes mesh) (Bytes steps) few others = by_lists scale decimals mesh steps few others (lists_of decimals mesh) refl

pub inputs_in_range : InputsAreInRange
inputs_in_range job mesh steps = by_files job.scale job.decimals job.mesh_file job.step_file mesh steps

pub mesh_logs_in_range : LogsOfMeshesAreInRange
mesh_logs_in_range scale answers m steps within good counted =
    let few = counted.few in
    All-cons (MayFollow scale) (mesh_line 0 m) (log_from answers steps (start m)).lines (mesh_in_range scale m 0 within good.sound (omega arith))
    (logs_in_range scale answers steps (start m)
    (record { kept = kept_start m good; within = record { mesh = within; groups = tt }; limits = record { depth = omega arith; passes = omega arith; halvings = omega arith }; steps = omega (arith, few); saved = omega (arith, few) })
    counted.placed)
