-- Which edges are near one another, and their midpoints.
use Rattle.std.specs.Prelude.{◌≡◌, ℕ, ◌*◌, ◌&&◌, not, Bool, List, map, Option, Some, None, slice_get, nat_lt, if◌then◌else◌}
use Rattle.std.specs.List.{filter, flat_map}
use Rattle.grid_base.specs.Triples.{Triple, minus}
use Rattle.grid_base.specs.Points.{is_within}
use Rattle.mesh_base.specs.Mesh.{Mesh}
use Rattle.edit_base.specs.declared.Asked.{Asked}
use Rattle.edit_base.specs.Edges.{exact_mid}
use Rattle.pair_scan.specs.Scan.{one_or_none}
use Rattle.pass_run.specs.Candidates.{zip_of}
use Rattle.pass_run.specs.MidpointCells.{share_an_end}

-- whether the midpoints of two edges are no further apart than the length along each
-- axis; midpoints are in half units
abbrev pub is_near : Mesh → ℕ → ℕ × ℕ → ℕ × ℕ → Bool
is_near m within e f = is_within (2 * within) (minus (exact_mid m e.0 e.1) (exact_mid m f.0 f.1))

-- whether the two are so near and share no end: of others no zip is ever due
abbrev pub may_be_due : Mesh → ℕ → ℕ × ℕ → ℕ × ℕ → Bool
may_be_due m within e f = is_near m within e f && not (share_an_end e f)

-- the zip of an edge with one of which it may be due
abbrev pub near_zip : Mesh → ℕ → ℕ × ℕ → Option (ℕ × ℕ) → Option Asked
near_zip m within e None = None
near_zip m within e (Some f) = if may_be_due m within e f then Some (zip_of e f) else None

-- the zip of the edge at place i with the one at place k, where that is later and it may be due
abbrev pub later_zip : Mesh → ℕ → List (ℕ × ℕ) → ℕ → ℕ × ℕ → ℕ → Option Asked
later_zip m within edges i e k =
    if nat_lt i k then near_zip m within e (slice_get edges k) else None

-- the zips of the edge at place i with those at these places that are later and may be due
abbrev pub later_zips : Mesh → ℕ → List (ℕ × ℕ) → ℕ → ℕ × ℕ → List ℕ → List Asked
later_zips m within edges i e places =
    flat_map (λ k. one_or_none (later_zip m within edges i e k)) places

-- the zips of an edge with those of these of which they may be due
abbrev pub near_zips : Mesh → ℕ → ℕ × ℕ → List (ℕ × ℕ) → List Asked
near_zips m within e edges = map (zip_of e) (filter (may_be_due m within e) edges)

-- the midpoints of edges, one after another
abbrev pub AreMidpoints : Mesh → List (ℕ × ℕ) → List Triple → Type 0
AreMidpoints m edges middles = middles ≡ map (λ e. exact_mid m e.0 e.1) edges
