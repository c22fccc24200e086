-- The ending of a check of lists: the first fault of their shape, or else the first pair that meets.
use Rattle.std.proofs.Common.{◌≡◌, List, [], ◌∷◌, map, length, slice_get, option_map, Some, None, Ok, refl, ap, ◌∙◌}
use Rattle.std.specs.declared.option.Option.{Option}
use Rattle.mesh_base.specs.declared.PairName.{PairName}
use Rattle.mesh_base.specs.declared.ShapeFault.{ShapeFault}
use Rattle.mesh_base.specs.declared.limits.Scale.{Scale}
use Rattle.mesh_base.specs.Mesh.{Mesh}
use Rattle.mesh_shape.specs.Shape.{shape_fault}
use Rattle.mesh_shape.specs.ShapeFaults.{shape_faults}
use Rattle.mesh_faults.specs.MeetingPairs.{meeting_pairs}
use Rattle.mesh_shape.proofs.Heads.{first_is_shape_fault}
use Rattle.mesh_faults.proofs.Still.{first_is_first_meeting}
use Rattle.obj_text.specs.Obj.{Lists}
use Rattle.log_text.specs.declared.Refusal.{Refusal}
use Rattle.log_text.specs.declared.Refusal.TheVariants as refusal
use Rattle.track_input.specs.Job.{mesh_of_lists, met_first}
use Rattle.track_check.specs.Check.{pair_as_fault, faults_by, refusal_of, ending_told}

-- the ending by the first fault of shape and the first pair
abbrev pub ending_by : Option ShapeFault → Option PairName → Option Refusal
ending_by (Some fault) pair = Some (refusal.Shape fault)
ending_by None (Some pair) = Some (refusal.Meets pair)
ending_by None None = None

of_pairs : (pairs : List PairName) → option_map refusal_of (slice_get (map pair_as_fault pairs) 0) ≡ ending_by None (slice_get pairs 0)
of_pairs [] = refl
of_pairs (p ∷ ps) = refl

of_faults : (found : List ShapeFault) (m : Mesh) → option_map refusal_of (slice_get (faults_by found m) 0) ≡ ending_by (slice_get found 0) (slice_get (meeting_pairs m) 0)
of_faults [] m = of_pairs (meeting_pairs m)
of_faults (f ∷ fs) m = refl

pub ending_of_lists : (scale : Scale) (lists : Lists) → ending_told scale (Ok lists) ≡ ending_by (shape_fault scale (length lists.points) lists.faces) (met_first (mesh_of_lists scale lists))
ending_of_lists scale lists =
    let m : Mesh = mesh_of_lists scale lists in
    of_faults (shape_faults scale (length lists.points) lists.faces) m
    ∙ ap (λ o. ending_by o (slice_get (meeting_pairs m) 0)) (first_is_shape_fault scale (length lists.points) lists.faces)
    ∙ ap (ending_by (shape_fault scale (length lists.points) lists.faces)) (first_is_first_meeting m)
