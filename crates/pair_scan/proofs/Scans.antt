-- The pairs that meet, and the first of them.
use Rattle.std.proofs.Common.{◌≡◌, ◌↔◌, Bool, List, map, take, slice_get, refl, sym, ap, ◌∙◌, IsTrue}
use Rattle.std.specs.List.{filter}
use Rattle.grid_base.specs.declared.Extent.{Extent}
use Rattle.grid_base.specs.declared.Positions.{Positions}
use Rattle.grid_base.specs.Meeting.{MeetAt}
use Rattle.grid_decided.specs.Decided.{meets_exactly, meets_exactly-is_exact}
use Rattle.mesh_base.specs.declared.ids.PairName.{PairName}
use Rattle.mesh_base.specs.Mesh.{Mesh}
use Rattle.mesh_base.specs.Pairs.{pairs}
use Rattle.mesh_base.specs.Placements.{rest_positions, positions}
use Rattle.mesh_base.proofs.Tests.{both_ways}
use Rattle.pair_paths.specs.declared.MovingEdge.{MovingEdge}
use Rattle.pair_paths.specs.declared.Frame.{Frame}
use Rattle.pair_paths.specs.Frames.{edge_in, face_in, HoldsEdgeIn}
use Rattle.pair_paths.specs.Pairing.{name_with, starts}
use Rattle.pair_paths.specs.Paths.{at_rest}
use Rattle.pair_paths.proofs.Apart.{never_meet, starts_held}
use Rattle.pair_candidates.specs.Told.{LeavesOut, told_of_mesh}
use Rattle.pair_candidates.proofs.OfPairs.{told_pairs}
use Rattle.pair_scan.specs.Scan.{do_meet, first_of}
use Rattle.pair_scan.proofs.Clear.{apart}
use Rattle.pair_scan.proofs.Lists.{head_of_one, head_filtered}

-- a test that is true exactly where they meet is the exact test
pub is_exact : (b : Bool) (f : Positions) → (IsTrue b ↔ MeetAt f) → b ≡ meets_exactly f
is_exact b f h = let exact = meets_exactly-is_exact f in both_ways b (meets_exactly f) (λ e. exact.1 (h.0 e)) (λ e. h.1 (exact.0 e))

-- a face whose box in a frame is apart from the edge's does not meet the edge
pub meets_none : (frame : Frame) (e : MovingEdge) (at : Extent) → HoldsEdgeIn frame e at → LeavesOut do_meet frame e at
meets_none frame e at E f its F off = apart (starts e f) (never_meet at its (starts e f) (starts_held (edge_in frame e) (face_in frame f) at its E F) off)

-- what is told of a mesh
pub told_met : (m : Mesh) → told_of_mesh do_meet name_with m (at_rest m) ≡ map (λ p. p.name) (filter (λ p. meets_exactly (positions (rest_positions m) p)) (pairs m))
told_met m = told_pairs do_meet name_with (at_rest m) (λ p. meets_exactly (positions (rest_positions m) p)) (λ p. p.name) (λ a b f. refl) (λ a b f. refl) m

-- the first of it
pub first_told : (m : Mesh) (found : List PairName) → take 1 found ≡ take 1 (told_of_mesh do_meet name_with m (at_rest m)) → slice_get found 0 ≡ first_of m (pairs m)
first_told m found is =
    head_of_one found ∙ ap (λ names. slice_get names 0) is ∙ sym (head_of_one (told_of_mesh do_meet name_with m (at_rest m)))
    ∙ ap (λ names. slice_get names 0) (told_met m)
    ∙ head_filtered (λ p. p.name) (λ p. meets_exactly (positions (rest_positions m) p)) (pairs m)
