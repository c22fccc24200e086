-- The mesh of lists is sound with greater next ids.
use Rattle.std.proofs.Common.{ℕ, List, length, arith}
use Rattle.grid_base.specs.declared.Point.{Point}
use Rattle.mesh_base.specs.declared.limits.Scale.{Scale}
use Rattle.mesh_base.specs.Mesh.{IsSound}
use Rattle.mesh_base.specs.Given.{Faces, mesh_under}
use Rattle.mesh_shape.specs.Numbered.{MayBeNext, numbered}
use Rattle.mesh_shape.specs.Shape.{HasNoFault}
use Rattle.mesh_shape.proofs.Lists.{sound-mesh_under}

pub sound-numbered : (scale : Scale) (points : List Point) (faces : Faces) (v f : ℕ) → HasNoFault scale points faces → MayBeNext (length points) v → MayBeNext (length faces) f → IsSound (numbered (mesh_under scale points faces) v f)
sound-numbered scale points faces v f good of_v of_f =
    let s = sound-mesh_under scale points faces good in
    let low_v = of_v.above in
    let low_f = of_f.above in
    record {
      is_mesh = record {
        vertex_ids = λ q live. let b = s.is_mesh.vertex_ids q live in (b.0, omega arith);
        face_ids = λ q live. let b = s.is_mesh.face_ids q live in (b.0, omega arith);
        solid_ids = s.is_mesh.solid_ids;
        live_corners = s.is_mesh.live_corners;
        different_corners = s.is_mesh.different_corners;
        different_faces = s.is_mesh.different_faces;
      };
      limits = record {
        vertices = s.limits.vertices;
        faces = s.limits.faces;
        greatest = s.limits.greatest;
        vertex_ids = (omega arith, of_v.made);
        face_ids = (omega arith, of_f.made);
      };
    }
