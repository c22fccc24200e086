use Rattle.std.proofs.Common.{◌≡◌, drop}
use Rattle.std.specs.List.{list_any}
use Rattle.mesh_base.specs.Changes.{corner_list}
use Rattle.edit_base.specs.Edges.{corners_at}
use Rattle.shape_laws.specs.Link.{is_other_neighbour, has_other_neighbour}
use Rattle.shape_laws.proofs.link.has_other_neighbour.Given as goal

-- there is one where there is one at the faces that are left
abbrev pub invariant-loop-f : goal.invariant-loop-f
invariant-loop-f g l = let m = g.S.Surface.mesh l.mesh in list_any (λ f. list_any (is_other_neighbour m l.s) (corner_list (corners_at m f))) (drop l.f-index l.f-items) ≡ has_other_neighbour m l.s
