-- Moves of vertices leave the pieces and the Euler number.
use Rattle.std.proofs.Common.{ℕ, ℤ, pos, ◌+ℤ◌, ◌-ℤ◌, List, length, refl, ap}
use Rattle.std.specs.List.{filter}
use Rattle.std.specs.Ordering.{nat_cmp}
use Rattle.std.specs.FinMap as finite
use Rattle.mesh_base.specs.declared.ids.Corners.{Corners}
use Rattle.mesh_base.specs.Mesh.{Mesh}
use Rattle.mesh_base.specs.Pairs.{is_edge, id_pairs}
use Rattle.mesh_base.specs.Changes.{with_solid}
use Rattle.mesh_base.specs.Shifts.{Shifts, with_moves, NameOnce}
use Rattle.mesh_base.proofs.Moves.{faces-with_moves}
use Rattle.mesh_base.proofs.KeysKept.{keys-with_moves}
use Rattle.mesh_measure.specs.Shape.{components, has_face}
use Rattle.shape_laws.specs.Kept.{HaveSameShape}

-- the Euler number by the faces and the ids of the vertices
abbrev euler_by : Mesh → finite.FinMap nat_cmp Corners → List ℕ → ℤ
euler_by m faces ids =
    let n : Mesh = record m { faces = faces } in
    pos (length (filter (λ v. has_face n v) ids)) -ℤ pos (length (filter (λ e. is_edge n e.0 e.1) (id_pairs ids))) +ℤ pos (finite.len faces)

pub moves_keep : (m : Mesh) (moves : Shifts) → NameOnce m moves → HaveSameShape m (with_moves m moves)
moves_keep m moves named =
    let faces = faces-with_moves m moves in
    let ids = keys-with_moves m moves named.live in
    record {
      components = ap (λ fs. components (record m { faces = fs })) faces;
      euler = λ i. euler_by m (faces i) (ids i);
    }

pub mark_keeps : (m : Mesh) (v : ℕ) → HaveSameShape m (with_solid m v)
mark_keeps m v = record { components = refl; euler = refl }
