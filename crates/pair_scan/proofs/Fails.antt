-- The pairs that do not pass; and where there is none, the motion is clear.
use Rattle.std.proofs.Common.{◌≡◌, ◌↔◌, ℕ, Bool, true, false, cond, ◌&&◌, ◌||◌, not, List, [], ◌∷◌, ◌++◌, Some, None, refl, sym, ap, ◌∙◌, IsTrue}
use Rattle.std.specs.List.{flat_map}
use Rattle.std.specs.FinMap as finite
use Rattle.std.proofs.lemmas.Bool.{false≢true}
use Rattle.std.proofs.lemmas.List.Elements.{All-from_recursion, All-contains}
use Rattle.std.proofs.lemmas.List.Folds.{flat_map-map}
use Rattle.grid_base.specs.declared.Extent.{Extent}
use Rattle.grid_base.specs.declared.Positions.{Positions}
use Rattle.grid_base.specs.Extents.{overlaps}
use Rattle.grid_base.specs.Separation.{Passes}
use Rattle.grid_base.specs.SeparationTests.{passes}
use Rattle.grid_base.proofs.Reflected.{passes_of, of_passes}
use Rattle.grid_base.proofs.SeparationLaws.{Passes-never_meet}
use Rattle.grid_decided.specs.Decided.{meets_exactly, meets_exactly-is_exact}
use Rattle.mesh_base.specs.declared.ids.Corners.{Corners}
use Rattle.mesh_base.specs.Failing.{failing, pair_passes}
use Rattle.mesh_base.specs.Mesh.{Mesh, IsSound}
use Rattle.mesh_base.specs.Pairs.{Pair, edges, pairs, pairs_of}
use Rattle.mesh_base.specs.Placements.{Motion, positions, IsClearAlong}
use Rattle.mesh_base.specs.Shifts.{Shifts, moved_by}
use Rattle.mesh_base.specs.Sides.{has_corner}
use Rattle.mesh_base.proofs.ListedPairs.{pair_listed}
use Rattle.mesh_base.proofs.Tests.{both_ways}
use Rattle.pair_paths.specs.declared.MovingEdge.{MovingEdge}
use Rattle.pair_paths.specs.declared.MovingFace.{MovingFace}
use Rattle.pair_paths.specs.declared.Frame.{Frame}
use Rattle.pair_paths.specs.Frames.{edge_in, face_in, HoldsEdgeIn, HoldsFaceIn}
use Rattle.pair_paths.specs.Moving.{moving_edge, moving_face, moving_faces}
use Rattle.pair_paths.specs.Pairing.{have_a_vertex_in_common, name_with, starts, ends}
use Rattle.pair_paths.proofs.Apart.{passes_apart_seen, starts_held, ends_held}
use Rattle.pair_candidates.specs.Told.{LeavesOut, told_of_mesh}
use Rattle.pair_candidates.proofs.OfPairs.{told_pairs}
use Rattle.pair_scan.specs.Failed.{do_not_pass, failing_of}
use Rattle.pair_scan.proofs.Kept.{nothing_kept}

-- a test that is true exactly where the pair passes is the written test
pub is_passes : (b : Bool) (depth : ℕ) (s t : Positions) → (IsTrue b ↔ Passes depth s t) → b ≡ passes meets_exactly depth s t
is_passes b depth s t h = both_ways b (passes meets_exactly depth s t) (λ e. of_passes meets_exactly meets_exactly-is_exact depth s t (h.0 e)) (λ e. h.1 (passes_of meets_exactly meets_exactly-is_exact depth s t e))

-- ---- a pair whose boxes in a frame are apart passes
pub passed_apart : (depth : ℕ) (frame : Frame) (e : MovingEdge) (at : Extent) → HoldsEdgeIn frame e at → LeavesOut (do_not_pass depth) frame e at
passed_apart depth frame e at E f its F off =
    let edge_seen = edge_in frame e in
    let face_seen = face_in frame f in
    ap not (of_passes meets_exactly meets_exactly-is_exact depth (starts e f) (ends e f)
    (passes_apart_seen depth at its frame.end (starts e f) (ends e f) (starts_held edge_seen face_seen at its E F) (ends_held edge_seen face_seen at its E F) off))

-- ---- what is told of a mesh
pub told_failing : (m : Mesh) (w : Motion) (depth : ℕ) → told_of_mesh (do_not_pass depth) name_with m w ≡ failing_of depth w (pairs m)
told_failing m w depth = told_pairs (do_not_pass depth) name_with w (λ p. not (pair_passes meets_exactly depth w p)) (λ p. p.name) (λ a b f. refl) (λ a b f. refl) m

-- ---- where every pair passes, none meets on the way
pub clear_along : (m : Mesh) (by : Shifts) (depth : ℕ) → IsSound m → failing meets_exactly m by depth ≡ [] → IsClearAlong m (moved_by m by)
clear_along m by depth sound none p q positive le pair is =
    let fails : Pair → Bool = λ x. not (pair_passes meets_exactly depth (moved_by m by) x) in
    let kept = nothing_kept (λ x. x.name) fails (pairs m) none in
    let passed = all_true (pair_passes meets_exactly depth (moved_by m by) pair) (All-contains (λ x. fails x ≡ false) (pairs m) pair (All-from_recursion (λ x. fails x ≡ false) (pairs m) kept) ((pair_listed m sound pair).1 is)) in
    Passes-never_meet depth (positions (moved_by m by).start pair) (positions (moved_by m by).end pair)
    (passes_of meets_exactly meets_exactly-is_exact depth (positions (moved_by m by).start pair) (positions (moved_by m by).end pair) passed) p q positive le
  where
    all_true : (b : Bool) → not b ≡ false → b ≡ true
    all_true true e = refl
    all_true false e = absurd (false≢true (sym e))
