-- Boxes that are apart in a frame keep an edge and a face apart along an axis.
use Rattle.std.proofs.Common.{◌≡◌, inr, ap, true, not, [], Some}
use Rattle.grid_base.specs.declared.Extent.{Extent}
use Rattle.pair_paths.specs.declared.MovingEdge.{MovingEdge}
use Rattle.pair_paths.specs.declared.MovingFace.{MovingFace}
use Rattle.pair_paths.specs.declared.Frame.{Frame}
use Rattle.pair_paths.specs.Frames.{edge_in, face_in, HoldsEdgeIn}
use Rattle.pair_paths.specs.Pairing.{have_a_vertex_in_common, name_with, starts, ends}
use Rattle.pair_paths.proofs.Apart.{starts_held, ends_held, some_axis_seen}
use Rattle.pair_candidates.specs.Told.{LeavesOut}
use Rattle.pair_candidates.proofs.Told.{untold, shared_untold}
use Rattle.motion_proof.specs.Needs.{NeedsNone, needs_entry, needing_one}
use Rattle.motion_proof.proofs.Decided.{of-NeedsNone}

-- an edge and a face that need no entry give no name
pub none_if : (e : MovingEdge) (f : MovingFace) → NeedsNone (starts e f) (ends e f) → needing_one e (Some f) ≡ []
none_if e f h = untold needs_entry name_with e f (ap not (of-NeedsNone (starts e f) (ends e f) h))

-- nor do those of which an end is a corner
pub none_where_shared : (e : MovingEdge) (f : MovingFace) → have_a_vertex_in_common e f ≡ true → needing_one e (Some f) ≡ []
none_where_shared e f h = shared_untold needs_entry name_with e f h

-- whose boxes in a frame are apart need no entry
pub none_needed : (frame : Frame) (e : MovingEdge) (at : Extent) → HoldsEdgeIn frame e at → LeavesOut needs_entry frame e at
none_needed frame e at E f its F off =
    let edge_seen = edge_in frame e in
    let face_seen = face_in frame f in
    ap not (of-NeedsNone (starts e f) (ends e f) (inr (some_axis_seen at its frame.end (starts e f) (ends e f) (starts_held edge_seen face_seen at its E F) (ends_held edge_seen face_seen at its E F) off)))
