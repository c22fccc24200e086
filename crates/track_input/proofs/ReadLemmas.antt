-- What two texts give that are read without a fault.
use Rattle.std.proofs.Common.{◌≡◌, ℕ, ◌<◌, ◌^◌, List, [], ◌∷◌, map, length, Ok, refl, ap, sym, ◌∙◌}
use Rattle.std.proofs.lemmas.List.{length-map}
use Rattle.grid_base.specs.declared.Point.{Point}
use Rattle.grid_base.specs.Points.{position_of, point_at}
use Rattle.grid_base.proofs.PointLaws.{point_at-position_of}
use Rattle.mesh_base.specs.declared.MeshLists.{MeshLists}
use Rattle.mesh_base.specs.declared.Scale.{Scale}
use Rattle.mesh_base.specs.Given.{mesh_under}
use Rattle.mesh_shape.specs.Shape.{shape_fault}
use Rattle.obj_text.specs.Obj.{lists_of}
use Rattle.obj_text.specs.Views.{lists_view}
use Rattle.step_text.specs.declared.Placed.{Placed}
use Rattle.step_text.specs.Ranges.{AreInRange}
use Rattle.step_text.specs.Steps.{steps_of}
use Rattle.track_input.specs.declared.inputs.Ready.TheVariants as ready
use Rattle.track_input.specs.Job.{input_of_lists, input_of_shape, input_of_steps, mesh_of_lists, mesh_read}
use Rattle.track_input.specs.Reading.{Reads, given, AreGood}

same_points : (points : List Point) → map point_at (map position_of points) ≡ points
same_points [] = refl
same_points (p ∷ points) = ap (λ q. q ∷ map point_at (map position_of points)) (point_at-position_of p) ∙ ap (λ l. p ∷ l) (same_points points)

-- the mesh of the lists, seen as triples, is theirs
pub same_mesh : (scale : Scale) (lists : MeshLists) → mesh_of_lists scale (lists_view lists) ≡ given scale lists
same_mesh scale lists = ap (λ points. mesh_under scale points lists.faces) (same_points lists.points)

-- as many points, seen as triples
same_shape : (scale : Scale) (lists : MeshLists) → shape_fault scale (length (lists_view lists).points) (lists_view lists).faces ≡ shape_fault scale (length lists.points) lists.faces
same_shape scale lists = ap (λ n. shape_fault scale n lists.faces) (length-map lists.points position_of)

pub reads_yes : (scale : Scale) (decimals : ℕ) (mesh steps : List ℕ) (lists : MeshLists) (directives : List Placed) → lists_of decimals mesh ≡ Ok (lists_view lists) → AreGood scale lists → steps_of steps ≡ Ok directives → length directives < 2 ^ 31 → AreInRange directives
    → Reads scale decimals mesh steps (ready.Yes lists directives)
reads_yes scale decimals mesh steps lists directives read good taken few ranges = record {
  input = ap (λ r. input_of_lists scale r steps) read
      ∙ ap (λ o. input_of_shape (lists_view lists) o steps) (same_shape scale lists ∙ good)
      ∙ ap (input_of_steps (lists_view lists)) taken;
  ready = record { mesh = sym (same_mesh scale lists) ∙ sym (ap (mesh_read scale) read); good = good; few = few; ranges = ranges };
}
