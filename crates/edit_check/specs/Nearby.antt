-- The faces of a list of ids.
use Rattle.std.specs.Prelude.{ℕ, List, [], ◌∷◌}
use Rattle.std.specs.List.{flat_map}
use Rattle.std.proofs.Common.{Option, Some, None}
use Rattle.grid_base.specs.declared.Extent.{Extent}
use Rattle.mesh_base.specs.Mesh.{Mesh}
use Rattle.mesh_base.specs.Near.{faces_near}
use Rattle.edit_base.specs.declared.Move.{Move}
use Rattle.edit_base.specs.Scaffold.{motion_by}
use Rattle.pair_paths.specs.declared.MovingFace.{MovingFace}
use Rattle.pair_paths.specs.Moving.{live_face}

-- what there is, as a list of one, or none
abbrev pub as_list : {X : Type 0} → Option X → List X
as_list None = []
as_list (Some x) = x ∷ []

-- those of the ids that are faces, with where their corners go
abbrev pub faces_among : Mesh → List Move → List ℕ → List MovingFace
faces_among m moves ids = flat_map (λ f. as_list (live_face m (motion_by m moves) f)) ids

-- those near an extent
abbrev pub near_faces : Mesh → List Move → Extent → List MovingFace
near_faces m moves reach = faces_among m moves (faces_near m reach)
