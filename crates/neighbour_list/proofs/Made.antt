-- The list that is made edge by edge has the near pairs of the mesh.
use Rattle.std.proofs.Common.{◌≡◌, ℕ, map, refl}
use Rattle.std.specs.List.{filter}
use Rattle.grid_base.specs.declared.Extent.{Extent}
use Rattle.mesh_base.specs.Mesh.{Mesh}
use Rattle.mesh_base.specs.Pairs.{edges, pairs}
use Rattle.mesh_base.specs.Placements.{Motion}
use Rattle.pair_paths.specs.declared.Frame.{Frame}
use Rattle.pair_paths.specs.declared.MovingEdge.{MovingEdge}
use Rattle.pair_paths.specs.Moving.{moving_faces}
use Rattle.pair_candidates.specs.Told.{LeavesOut}
use Rattle.pair_candidates.proofs.OfPairs.{told_pairs}
use Rattle.neighbour_list.specs.Listed.{listed, is_near_at, begin_near, listed_with, near_along_edges}
use Rattle.neighbour_list.specs.Widened.{IsWidened}
use Rattle.neighbour_list.proofs.Boxes.{apart_is_far}

-- a box that reaches out by the skin leaves out what is not near
pub leaves_out : (skin : ℕ) (frame : Frame) (e : MovingEdge) (at : Extent) → IsWidened skin e.first.start e.second.start at → LeavesOut (begin_near skin) frame e at
leaves_out skin frame e at wide f its held off = apart_is_far skin frame e f its at held wide off

-- what is told of a mesh
pub near_of_mesh : (m : Mesh) (w : Motion) (skin : ℕ) → near_along_edges skin w (moving_faces m w) (edges m) ≡ map listed (filter (is_near_at skin w.start) (pairs m))
near_of_mesh m w skin = told_pairs (begin_near skin) listed_with w (is_near_at skin w.start) listed (λ a b f. refl) (λ a b f. refl) m
