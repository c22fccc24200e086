-- What is stored of lists of good shape.
use Rattle.std.proofs.Common.{◌≡◌, ℕ, suc, ◌<◌, ◌≤◌, List, [], ◌∷◌, length, get_or, map, None, Ok, ap, ◌∙◌, arith}
use Rattle.std.specs.List.{AllByRecursion}
use Rattle.std.specs.declared.option.Option.{Option}
use Rattle.grid_base.specs.declared.TheConstants.{DECIMALS_MAX}
use Rattle.grid_base.specs.declared.Point.{Point}
use Rattle.grid_base.specs.Points.{position_of}
use Rattle.mesh_base.specs.declared.limits.Scale.{Scale}
use Rattle.mesh_shape.specs.Shape.{shape_fault}
use Rattle.obj_text.specs.Obj.{Lists}
use Rattle.obj_text.proofs.ListsAgain.{lists_are_read_lem}
use Rattle.other_text.proofs.OffAgain.{off_is_read_lem}
use Rattle.other_text.proofs.PlyAgain.{ply_is_read_lem}
use Rattle.outside_io.specs.Desk.{Files, with_file}
use Rattle.track_input.specs.declared.Format.{Format}
use Rattle.track_input.specs.declared.Format.TheVariants as format
use Rattle.track_input.specs.Words.{MeshName}
use Rattle.track_convert.specs.Formats.{lists_in, text_in}
use Rattle.track_convert.specs.Endings.{IsStored}

-- arrays of three are lists of three
pub triangles : (fs : List (List ℕ)) → ((i : ℕ) → i < length fs → length (get_or fs i []) ≡ 3) → AllByRecursion (λ f. length f ≡ 3) fs
triangles [] h = tt
triangles (f ∷ fs) h = (h 0 (omega arith), triangles fs (λ i lt. h (suc i) (omega arith)))

module _ (scale : Scale) (points : List Point) (faces : List (List ℕ)) (decimals : ℕ) (good : shape_fault scale (length points) faces ≡ None) (sizes : AllByRecursion (λ f. length f ≡ 3) faces) (few : decimals ≤ DECIMALS_MAX) where
  abbrev given : Lists
  given = record { points = map position_of points; faces = faces }

  -- the text of each format is read again
  again : (to : Format) → lists_in to decimals (text_in to decimals given) ≡ Ok given
  again format.Obj = lists_are_read_lem scale points faces decimals good sizes few
  again format.Off = off_is_read_lem scale points faces decimals good sizes few
  again format.Ply = ply_is_read_lem scale points faces decimals good sizes few

  -- a store of the text
  pub is_stored : (to : MeshName) (text : List ℕ) (old new : Option Files) → text ≡ text_in to.format decimals given → new ≡ with_file old to.name text → IsStored to decimals given old new
  is_stored to text old new is e = record { stored = e ∙ ap (with_file old to.name) is; same_content = again to.format }
