-- How a mesh is stored, by which a proof tells meshes apart.
use Rattle.std.specs.Prelude.{ℕ, refl}
use Rattle.std.specs.Ordering.{nat_cmp}
use Rattle.std.specs.FinMap as map
use Rattle.std.specs.Coded.{Coded, code_by, coded×, coded_ℕ}
use base.Stored.{coded_unit}
use Rattle.grid_base.specs.declared.Point.{Point}
use Rattle.mesh_base.specs.declared.ids.Corners.{Corners}
use Rattle.mesh_base.specs.declared.limits.Limits.{Limits}
use Rattle.mesh_base.specs.Mesh.{Mesh, IdSet}

-- meshes by codes, so that two with one code are equal
abbrev pub mesh_code : Coded Point → Coded Corners → Coded Limits → Coded Mesh
mesh_code point corners limits =
    code_by (map.FinMap nat_cmp Point × (map.FinMap nat_cmp Corners × (IdSet × (ℕ × (ℕ × Limits)))))
    (coded× (map.code coded_ℕ point)
    (coded× (map.code coded_ℕ corners)
    (coded× (map.code coded_ℕ coded_unit) (coded× coded_ℕ (coded× coded_ℕ limits)))))
    (λ m. (m.points, (m.faces, (m.solid, (m.next_vertex, (m.next_face, m.limits))))))
    (λ p. record {
      points = p.0;
      faces = p.1.0;
      solid = p.1.1.0;
      next_vertex = p.1.1.1.0;
      next_face = p.1.1.1.1.0;
      limits = p.1.1.1.1.1;
    })
    (λ _. refl)
