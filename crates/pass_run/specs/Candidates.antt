-- The candidates of a pass, in order, and when each is due.
use Rattle.std.specs.Prelude.{ℕ, ◌*◌, ◌&&◌, not, Bool, List, [], ◌∷◌, ◌++◌, map, length, nat_le}
use Rattle.std.specs.Prelude.{ℤ, pos, ◌*ℤ◌, int_lt, int_le, Option, Some, None, if◌then◌else◌}
use Rattle.std.specs.FinMap as finite
use Rattle.grid_base.specs.Triples.{minus}
use Rattle.edit_base.specs.declared.Asked.{Asked}
use Rattle.edit_base.specs.declared.Asked.TheVariants as asked
use Rattle.edit_base.specs.declared.PassKind.{PassKind}
use Rattle.edit_base.specs.declared.PassKind.TheVariants.{Split, Collapse, Flip, Zip, Pinch}
use Rattle.mesh_base.specs.Mesh.{Mesh}
use Rattle.mesh_base.specs.Pairs.{edges, is_edge, is_crowded}
use Rattle.mesh_base.specs.Placements.{rest_positions}
use Rattle.edit_base.specs.Edges.{edge_of, exact_mid}
use Rattle.edit_zip.specs.Zip.{square}
use Rattle.edit_pinch.specs.Pinch.{fans}
use Rattle.edit_zip.specs.Answer.{is_zip_ready}

-- each two of the list, the earlier one first, in order
abbrev pub with_later : List (ℕ × ℕ) → List ((ℕ × ℕ) × (ℕ × ℕ))
with_later [] = []
with_later (e ∷ es) = map (λ f. (e, f)) es ++ with_later es

-- a zip of two edges
abbrev pub zip_of : ℕ × ℕ → ℕ × ℕ → Asked
zip_of e f = asked.Zip e.0 e.1 f.0 f.1

-- the splits of all edges
abbrev pub all_splits : Mesh → List Asked
all_splits m = map (λ e. asked.Split e.0 e.1) (edges m)

-- the collapses of all edges
abbrev pub all_collapses : Mesh → List Asked
all_collapses m = map (λ e. asked.Collapse e.0 e.1) (edges m)

-- the flips of all edges
abbrev pub all_flips : Mesh → List Asked
all_flips m = map (λ e. asked.Flip e.0 e.1) (edges m)

-- the zips of all pairs of edges
abbrev pub all_zips : Mesh → List Asked
all_zips m = map (λ two. zip_of two.0 two.1) (with_later (edges m))

-- the pinches of all vertices
abbrev pub all_pinches : Mesh → List Asked
all_pinches m = map (λ v. asked.Pinch v) (finite.keys m.points)

-- what is asked, in order: of each edge of the opening mesh, of each two of them, or of each vertex
abbrev pub candidates : Mesh → PassKind → List Asked
candidates m (Split over) = all_splits m
candidates m (Collapse under) = all_collapses m
candidates m Flip = all_flips m
candidates m (Zip within) = all_zips m
candidates m Pinch = all_pinches m

-- what a pass over edges asks of one of them
abbrev pub ask_of : PassKind → ℕ × ℕ → Asked
ask_of (Split over) e = asked.Split e.0 e.1
ask_of (Collapse under) e = asked.Collapse e.0 e.1
ask_of _ e = asked.Flip e.0 e.1

-- the square of the length from one vertex to another
abbrev pub length_squared : Mesh → ℕ → ℕ → ℤ
length_squared m u v = square (minus (rest_positions m u) (rest_positions m v))

-- the square of a limit
abbrev pub squared : ℕ → ℤ
squared n = pos n *ℤ pos n

-- whether the midpoints of two edges are no further apart than a
-- limit; they are compared in half units
abbrev pub are_near : Mesh → ℕ → ℕ → ℕ → ℕ → ℕ → Bool
are_near m a b e f within =
    int_le (square (minus (exact_mid m a b) (exact_mid m e f))) (squared (2 * within))

-- the length that a pass goes by
abbrev pub limit_of : PassKind → ℕ
limit_of (Split over) = over
limit_of (Collapse under) = under
limit_of Flip = 0
limit_of (Zip within) = within
limit_of Pinch = 0

-- what is asked still stands, and the condition of the pass holds
abbrev pub is_due : Mesh → PassKind → Asked → Bool
is_due m kind (asked.Split a b) =
    is_edge m a b && int_lt (squared (limit_of kind)) (length_squared m a b)
is_due m kind (asked.Collapse a b) =
    is_edge m a b && int_lt (length_squared m a b) (squared (limit_of kind))
is_due m kind (asked.Flip a b) =
    let s = edge_of m a b in
    is_edge m a b
    && not (is_crowded m a b)
    && int_lt (length_squared m s.c s.d) (length_squared m a b)
is_due m kind (asked.Zip a b e f) = is_zip_ready m a b e f && are_near m a b e f (limit_of kind)
is_due m kind (asked.Pinch v) = nat_le 2 (length (fans m v))

-- what is asked at a candidate's turn: the candidate itself where it is due, and else nothing
abbrev pub choice_in : PassKind → Mesh → Asked → Option Asked
choice_in kind m what = if is_due m kind what then Some what else None
