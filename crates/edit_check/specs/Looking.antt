-- What is looked for in a neighbourhood.
use Rattle.std.specs.Prelude.{Bool, ◌&&◌, List, if◌then◌else◌}
use Rattle.std.specs.List.{fold}
use Rattle.std.proofs.Common.{Option}
use Rattle.mesh_base.specs.declared.ids.PairName.{PairName}
use Rattle.pair_paths.specs.declared.MovingEdge.{MovingEdge}
use Rattle.pair_paths.specs.declared.MovingFace.{MovingFace}
use Rattle.edit_check.specs.declared.neighbourhood.Neighbourhood.{Neighbourhood}
use Rattle.edit_check.specs.Neighbourhood.{HasNoneApart}
use Rattle.edit_check.specs.Sides.{is_run_by_some}
use Rattle.edit_check.specs.Searching.{first_near, with_edge, edges_at, edges_of}

-- the first pair of the edge
abbrev pub first_there : Neighbourhood → MovingEdge → Option PairName
first_there n e = first_near n.terms n.faces.now n.touched.now e

-- no pair of the edge is found, if it has a box apart from the one that has the touched faces
abbrev pub HasNoneThere : Neighbourhood → MovingEdge → Type 0
HasNoneThere n e = HasNoneApart n.terms n.reach n.faces.now n.touched.now e

-- the edges that are looked at along a side, and along a face
abbrev pub edges_along : Neighbourhood → MovingEdge → List MovingEdge
edges_along n side = edges_at n.faces.now side

-- and along the sides of a face
abbrev pub edges_round : Neighbourhood → MovingFace → List MovingEdge
edges_round n f = edges_of n.faces.now f

-- what is found once these edges are looked at, one by one
abbrev pub once_looked_at : Neighbourhood → Option PairName → List MovingEdge → Option PairName
once_looked_at n found es = fold (with_edge (first_there n)) found es

-- the edge was turned, and a face runs its way
abbrev pub is_run_if_turned : Neighbourhood → Bool → MovingEdge → Bool
is_run_if_turned n is_turned e = is_turned && is_run_by_some e.a e.b n.faces.now

-- what is found once the edge is looked at, unless it was turned, and a face runs its way
abbrev pub with_edge_there : Neighbourhood → Bool → Option PairName → MovingEdge → Option PairName
with_edge_there n is_turned found e =
    if is_run_if_turned n is_turned e then found else with_edge (first_there n) found e
