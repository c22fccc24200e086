-- A mesh stays sound, and what is buried of it apart, where the next ids are greater.
use Rattle.std.proofs.Common.{ℕ, ◌+◌, ◌≤◌, arith}
use Rattle.grid_base.specs.declared.TheConstants.{ID_MAX}
use Rattle.mesh_base.specs.Mesh.{Mesh, IsSound}
use Rattle.mesh_shape.specs.Numbered.{numbered}
use Rattle.half_mesh.specs.States.{State, AreApart, with_mesh}

pub sound-next : (m : Mesh) (v f : ℕ) → IsSound m → m.next_vertex ≤ v → m.next_face ≤ f → v ≤ (ID_MAX + 1) → f ≤ (ID_MAX + 1) → IsSound (numbered m v f)
sound-next m v f s up_v up_f few_v few_f = record {
  is_mesh = record {
    vertex_ids = λ q live. let b = s.is_mesh.vertex_ids q live in (b.0, omega (arith, b, up_v));
    face_ids = λ q live. let b = s.is_mesh.face_ids q live in (b.0, omega (arith, b, up_f));
    solid_ids = s.is_mesh.solid_ids;
    live_corners = s.is_mesh.live_corners;
    different_corners = s.is_mesh.different_corners;
    different_faces = s.is_mesh.different_faces;
  };
  limits = record {
    greatest = s.limits.greatest;
    vertices = s.limits.vertices;
    faces = s.limits.faces;
    vertex_ids = let b = s.limits.vertex_ids in (omega (arith, b, up_v), few_v);
    face_ids = let b = s.limits.face_ids in (omega (arith, b, up_f), few_f);
  };
}

pub apart-next : (s : State) (v f : ℕ) → AreApart s → s.mesh.next_vertex ≤ v → s.mesh.next_face ≤ f → AreApart (with_mesh s (numbered s.mesh v f))
apart-next s v f a up_v up_f = record {
  vertices = a.vertices;
  vertex_ids = λ q h. let b = a.vertex_ids q h in (b.0, omega (arith, b, up_v));
  faces = a.faces;
  face_ids = λ q h. let b = a.face_ids q h in (b.0, omega (arith, b, up_f));
  corners = λ g c h. let b = a.corners g c h in omega (arith, b, up_v);
  different = a.different;
}
