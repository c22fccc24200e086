-- An edge that is there, with the two faces beside it.
use Rattle.std.proofs.Common.{◌≡◌, ℕ, true, min, max, sym, subst}
use Rattle.mesh_base.specs.Mesh.{Mesh, IsSound}
use Rattle.mesh_base.specs.Sides.{IsClosed}
use Rattle.mesh_base.specs.Pairs.{is_edge}
use Rattle.edit_base.specs.Edges.{Edge, edge_of}
use Rattle.edit_base.specs.Required.{HasEdge}
use Rattle.edit_base.specs.Beside.{IsBeside}
use Rattle.edit_base.proofs.Beside.{beside_of}
use Rattle.edit_base.proofs.ReasonLaws.{edge_again}

pub beside_it : (m : Mesh) (s : Edge) → IsSound m → IsClosed m → HasEdge m s → IsBeside m s
beside_it m s sound closed edge =
    subst (IsBeside m) edge.beside (beside_of m s.a s.b sound closed (subst (λ (e : Edge). is_edge m e.a e.b ≡ true) (sym edge.beside) edge.is_edge))

pub has_edge_of : (m : Mesh) (u v : ℕ) → is_edge m (min u v) (max u v) ≡ true → HasEdge m (edge_of m u v)
has_edge_of m u v edge = record { is_edge = edge; beside = edge_again m u v }
