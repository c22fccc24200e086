-- Where a vertex begins and ends.
use Rattle.std.specs.Prelude.{◌≡◌, ℕ, List, All, map}
use Rattle.std.specs.FinMap as finite
use Rattle.mesh_base.specs.Mesh.{Mesh}
use Rattle.mesh_base.specs.Placements.{Motion, rest_positions}
use Rattle.pair_paths.specs.declared.path.Path.{Path}
use Rattle.pair_paths.specs.declared.known.PathOf.{PathOf}

-- the path of a vertex in a motion
abbrev pub path_along : Motion → ℕ → Path
path_along w v = record { start = w.start v; end = w.end v }

-- the motion in which each vertex of a mesh stays where it stands
abbrev pub at_rest : Mesh → Motion
at_rest m = record { start = rest_positions m; end = rest_positions m }

-- a vertex with its path in a motion
abbrev pub path_in : Motion → ℕ → PathOf
path_in w v = record { v = v; path = path_along w v }

-- the list has the path of each live vertex in the motion, by rising id
abbrev pub AreAllPaths : Mesh → Motion → List PathOf → Type 0
AreAllPaths m w known = known ≡ map (path_in w) (finite.keys m.points)

-- each path in the list is that of its vertex in the motion
abbrev pub AreKnown : Motion → List PathOf → Type 0
AreKnown w known = All (λ k. k.path ≡ path_along w k.v) known
