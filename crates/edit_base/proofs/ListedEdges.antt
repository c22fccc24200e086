-- Each listed edge is one, its smaller end first.
use Rattle.std.proofs.Common.{◌≡◌, ℕ, ◌<◌, List, length, get_or, subst, sym}
use Rattle.std.specs.List.{All, Contains}
use Rattle.std.proofs.lemmas.List.Elements.{All-get_or, All-weaker, All-contains_itself}
use Rattle.mesh_base.specs.Mesh.{Mesh, IsSound}
use Rattle.mesh_base.specs.Sides.{IsEdge}
use Rattle.mesh_base.specs.Pairs.{edges}
use Rattle.mesh_base.proofs.ListedPairs.{edge_listed}

abbrev pub IsOrderedEdge : Mesh → ℕ × ℕ → Type 0
IsOrderedEdge m e = (e.0 < e.1) × IsEdge m e.0 e.1

pub edge_at : (m : Mesh) → IsSound m → (items : List (ℕ × ℕ)) (i : ℕ) (item : ℕ × ℕ) (d : ℕ × ℕ) → items ≡ edges m → i < length items → item ≡ get_or items i d → IsOrderedEdge m item
edge_at m sound items i item d all within is =
    subst (IsOrderedEdge m) (sym is)
    (All-get_or (IsOrderedEdge m) items i d within (subst (All (IsOrderedEdge m)) (sym all)
    (All-weaker (Contains (edges m)) (IsOrderedEdge m) (λ e h. (edge_listed m sound e.0 e.1).0 h) (edges m) (All-contains_itself (edges m)))))
