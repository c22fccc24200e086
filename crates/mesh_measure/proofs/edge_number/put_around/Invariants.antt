use Rattle.std.proofs.Common.{take}
use Rattle.std.specs.List.{flat_map}
use Rattle.mesh_base.specs.Changes.{corner_list}
use Rattle.edit_base.specs.Edges.{corners_at}
use Rattle.mesh_measure.specs.Above.{AddsAbove}
use Rattle.mesh_measure.proofs.edge_number.put_around.Given as goal

-- the corners above v of the faces so far are put
abbrev pub invariant-loop-f : goal.invariant-loop-f
invariant-loop-f g l =
    let m = g.S.Surface.mesh l.mesh in
    AddsAbove l.v (flat_map (λ f. corner_list (corners_at m f)) (take l.f-index l.faces)) l.fn.near.items l.near.items
