-- An edge whose two faces are to be drawn together, as pages of a book at its back.
use Rattle.std.specs.Prelude.{◌≡◌, ℕ, ◌==◌, not, false, List, [], ◌∷◌, Option, None, min, max, if◌then◌else◌}
use Rattle.std.specs.Option.{option_or, option_map_or}
use Rattle.std.specs.List.{find, AllByRecursion}
use Rattle.std.specs.FinMap as finite
use Rattle.mesh_base.specs.Mesh.{Mesh, IsSound}
use Rattle.mesh_base.specs.Changes.{corner_list}
use Rattle.mesh_base.specs.Sides.{faces_at, IsClosed}
use Rattle.mesh_base.specs.Pairs.{is_edge, is_crowded}
use Rattle.edit_base.specs.declared.Asked.{Asked}
use Rattle.edit_base.specs.declared.Asked.TheVariants as asked
use Rattle.edit_base.specs.declared.Why.{Why}
use Rattle.edit_base.specs.declared.Why.TheVariants.{NoEdge, Crowded}
use Rattle.edit_base.specs.declared.Why.TheVariants.{Edge as IsAnEdge}
use Rattle.edit_base.specs.Edges.{Edge, edge_of}
use Rattle.log_read.specs.Laws.{IsAskedInRange}
use Rattle.edit_base.specs.Reasons.{reason_if, first_reason}

-- Why an edge is no fold: its ends are no edge, more than one face runs one way along it, or the
-- corners opposite it are one. Else it has two faces, with a corner each.
abbrev pub fold_why : Mesh → Edge → Option Why
fold_why m s =
    first_reason (
    reason_if (not (is_edge m s.a s.b)) NoEdge
    ∷ reason_if (is_crowded m s.a s.b) Crowded
    ∷ reason_if (s.c == s.d) IsAnEdge ∷ [])

-- the corners opposite the edge are drawn together
abbrev pub fold_collapse : Edge → Asked
fold_collapse s = asked.Collapse (min s.c s.d) (max s.c s.d)

-- The edits that close a fold: its edge is flipped, which joins the corners opposite it, and that
-- edge is collapsed. Where it is there already, it is only collapsed.
abbrev pub fold_edits : Mesh → Edge → List Asked
fold_edits m s =
    if is_edge m (min s.c s.d) (max s.c s.d) then fold_collapse s ∷ []
    else asked.Flip s.a s.b ∷ fold_collapse s ∷ []

-- the vertex into which the collapse draws them
abbrev pub fold_vertex : Edge → ℕ
fold_vertex s = min s.c s.d

-- ---- edges with more than two faces

-- the first corner of a face with which a vertex has a crowded edge
abbrev pub crowded_corner : Mesh → ℕ → ℕ → Option ℕ
crowded_corner m v f =
    option_map_or (λ c. find (λ w. is_crowded m v w) (corner_list c)) (finite.get m.faces f) None

-- the first of these faces' corners with which it has one
abbrev pub crowded_among : Mesh → ℕ → List ℕ → Option ℕ
crowded_among m v [] = None
crowded_among m v (f ∷ fs) = option_or (crowded_corner m v f) (crowded_among m v fs)

-- the other end of the first crowded edge at a vertex, by the faces at it
abbrev pub first_crowded : Mesh → ℕ → Option ℕ
first_crowded m v = crowded_among m v (faces_at m v)

-- where none is found, there is none at the vertex
abbrev pub FindsCrowded : Mesh → ℕ → Option ℕ → Type 0
FindsCrowded m v found = found ≡ None → (w : ℕ) → is_crowded m v w ≡ false

-- the edits that close a fold of a sound and closed mesh are in the ranges of the log
abbrev pub FoldsAskInRange : Type 0
FoldsAskInRange = (m : Mesh) (a b : ℕ) → IsSound m → IsClosed m →
    fold_why m (edge_of m a b) ≡ None →
    AllByRecursion IsAskedInRange (fold_edits m (edge_of m a b))
