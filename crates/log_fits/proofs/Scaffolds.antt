-- The mesh on which a done edit was tested is within the laws and limits of a mesh.
use Rattle.std.specs.Prelude.{IfSome}
use Rattle.mesh_base.specs.Mesh.{Mesh, IsSound}
use Rattle.mesh_base.specs.Sides.{IsClosed}
use Rattle.edit_base.specs.declared.Change.{Change}
use Rattle.edit_base.specs.declared.Change.TheVariants.{Split, Flip, Collapse, Zip, Pinch}
use Rattle.edit_base.specs.Edges.{edge_of}
use Rattle.edit_base.proofs.Beside.{beside_of}
use Rattle.edit_split.specs.Split.{split_point}
use Rattle.edit_split.proofs.SplitSound.{split_is_sound}
use Rattle.edit_pinch.specs.Pinch.{first_point, later_copies, copy_points}
use Rattle.edit_pinch.proofs.CopySound.{pinch_is_sound}
use Rattle.edit_pinch.proofs.PinchDone.{pinched_live}
use Rattle.edit_any.specs.Dispatch.{scaffold_of}
use Rattle.edit_scaffold.specs.Made.{IsDone}
use Rattle.edit_scaffold.proofs.DoneIs.{split_done, flip_done, pinch_done}

pub scaffold_is_sound : (m : Mesh) (change : Change) → IsSound m → IsClosed m → IsDone m change → IfSome (scaffold_of m change) (λ s. IsSound s.mesh)
scaffold_is_sound m (Split a b w at) sound closed done =
    let may = split_done m a b w at done in
    let e = edge_of m a b in
    split_is_sound m e (split_point m e) sound (beside_of m a b sound closed may.edge.is_edge) may.fits
scaffold_is_sound m (Flip a b) sound closed done =
    let may = flip_done m a b done in
    let e = edge_of m a b in
    split_is_sound m e (split_point m e) sound (beside_of m a b sound closed may.edge.is_edge) may.fits
scaffold_is_sound m (Collapse a b at) sound closed done = sound
scaffold_is_sound m (Zip a b e f turn) sound closed done = tt
scaffold_is_sound m (Pinch v at copies) sound closed done =
    let may = pinch_done m v at copies done in
    pinch_is_sound m v (first_point m v) (copy_points (later_copies m v)) sound closed (pinched_live m v sound may.tried.two_fans) may.tried.fits
