-- Lists that are written.
use Rattle.std.specs.Prelude.{◌≡◌, ℕ, ◌≤◌, List, map, length, Ok}
use Rattle.std.specs.List.{AllByRecursion}
use Rattle.grid_base.specs.declared.TheConstants.{DECIMALS_MAX}
use Rattle.grid_base.specs.declared.Point.{Point}
use Rattle.grid_base.specs.Points.{position_of}
use Rattle.mesh_base.specs.declared.limits.Scale.{Scale}
use Rattle.mesh_base.specs.Given.{mesh_under}
use Rattle.mesh_shape.specs.Shape.{HasNoFault}
use Rattle.obj_text.specs.Obj.{lists_of}
use Rattle.obj_text.specs.Written.{mesh_text}
use Rattle.obj_text.specs.ListsWritten.{lists_text}

-- the text of lists of good shape is that of the mesh that they make
abbrev pub ListsAreWrittenAsMesh : Type 0
ListsAreWrittenAsMesh =
    (scale : Scale) (points : List Point) (faces : List (List ℕ)) (decimals : ℕ) →
    HasNoFault scale points faces → AllByRecursion (λ f. length f ≡ 3) faces →
    lists_text decimals (record { points = map position_of points; faces = faces })
    ≡ mesh_text decimals (mesh_under scale points faces)

-- on a grid of as many decimals, it gives these lists
abbrev pub ListsAreRead : Type 0
ListsAreRead =
    (scale : Scale) (points : List Point) (faces : List (List ℕ)) (decimals : ℕ) →
    HasNoFault scale points faces → AllByRecursion (λ f. length f ≡ 3) faces →
    decimals ≤ DECIMALS_MAX →
    lists_of decimals
    (lists_text decimals (record { points = map position_of points; faces = faces }))
    ≡ Ok (record { points = map position_of points; faces = faces })
