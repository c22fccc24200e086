use Rattle.std.proofs.Common.{◌≡◌, ◌&&◌, drop}
use Rattle.std.specs.List.{list_any}
use Rattle.mesh_base.specs.Sides.{has_corner}
use Rattle.edit_base.specs.Edges.{corners_at}
use Rattle.shape_laws.specs.Link.{has_face_with}
use Rattle.shape_laws.proofs.link.has_face_with.Given as goal

-- there is one where there is one among the faces that are left
abbrev pub invariant-loop-f : goal.invariant-loop-f
invariant-loop-f g l = let m = g.S.Surface.mesh l.mesh in list_any (λ f. has_corner (corners_at m f) l.c && has_corner (corners_at m f) l.d) (drop l.f-index l.f-items) ≡ has_face_with m l.fn.v l.c l.d
