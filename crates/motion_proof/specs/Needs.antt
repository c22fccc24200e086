-- Which pairs need an entry, and the list of these.
use Rattle.std.specs.Prelude.{ℕ, Bool, ◌↔◌, ◌⊎◌, ◌&&◌, ◌||◌, not, List, map}
use Rattle.std.specs.List.{Any, Contains, filter, list_any}
use Rattle.std.specs.List.Sorted.{IsStrictlySortedBy}
use Rattle.std.proofs.Common.{Option}
use Rattle.grid_base.specs.declared.Positions.{Positions}
use Rattle.grid_base.specs.Meeting.{MeetAt}
use Rattle.grid_base.specs.Separation.{KeepsApart, MoveTogether, axes}
use Rattle.grid_base.specs.SeparationTests.{keeps_apart, move_together}
use Rattle.grid_decided.specs.Decided.{meets_exactly}
use Rattle.mesh_base.specs.declared.ids.Corners.{Corners}
use Rattle.mesh_base.specs.declared.ids.PairName.{PairName}
use Rattle.mesh_base.specs.Mesh.{Mesh}
use Rattle.mesh_base.specs.Pairs.{Pair, IsPair, pairs, name_cmp}
use Rattle.mesh_base.specs.Placements.{Motion, positions}
use Rattle.pair_paths.specs.declared.MovingEdge.{MovingEdge}
use Rattle.pair_paths.specs.declared.MovingFace.{MovingFace}
use Rattle.pair_paths.specs.Pairing.{name_with, starts, ends}
use Rattle.pair_candidates.specs.Told.{one_or_none, told_with, told_among, told_along}

-- needs no entry: it moves as one and does not meet at the start, or an axis keeps it apart
abbrev pub NeedsNone : Positions → Positions → Type 0
NeedsNone s t = (MoveTogether s t × ¬ (MeetAt s)) ⊎ Any (KeepsApart s t) axes

-- the test of it
abbrev pub needs_none : Positions → Positions → Bool
needs_none s t = list_any (keeps_apart s t) axes || (move_together s t && not (meets_exactly s))

-- whether an edge and a face need an entry
abbrev pub needs_entry : MovingEdge → MovingFace → Bool
needs_entry e f = not (needs_none (starts e f) (ends e f))

-- the name of the edge with a face, where there is one, and they are a pair that needs an entry
abbrev pub needing_one : MovingEdge → Option MovingFace → List PairName
needing_one e f = one_or_none (told_with needs_entry name_with e f)

-- the same of all the faces
abbrev pub needing_among : MovingEdge → List MovingFace → List PairName
needing_among e faces = told_among needs_entry name_with e faces

-- the same of each of the edges, edge by edge
abbrev pub needing_along : Motion → List MovingFace → List (ℕ × ℕ) → List PairName
needing_along w faces edges = told_along needs_entry name_with w faces edges

-- whether the pair needs an entry
abbrev pub pair_needs : Motion → Pair → Bool
pair_needs w p = not (needs_none (positions w.start p) (positions w.end p))

-- the names of those of these pairs that need an entry
abbrev pub needing_of : Motion → List Pair → List PairName
needing_of w ps = map (λ p. p.name) (filter (λ p. pair_needs w p) ps)

-- the names of the pairs of the mesh that need an entry, in order
abbrev pub needing : Mesh → Motion → List PairName
needing m w = needing_of w (pairs m)

-- the name is that of a pair of the mesh, and the pair needs an entry
abbrev pub IsNeeding : Mesh → Motion → PairName → Type 0
IsNeeding m w n =
    (c : Corners) × IsPair m (record { name = n; corners = c })
    × (¬ (NeedsNone (positions w.start (record { name = n; corners = c }))
    (positions w.end (record { name = n; corners = c }))))

-- the list has the name of each pair that needs an entry, once, and no other, in order
pub record AreNeeding (m : Mesh) (w : Motion) (names : List PairName) : Type 0 where
  pub each : (n : PairName) → Contains names n ↔ IsNeeding m w n
  pub rising : IsStrictlySortedBy name_cmp names
