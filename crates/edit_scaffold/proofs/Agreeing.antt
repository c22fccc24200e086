-- The scaffold of an edit agrees with the mesh but for new faces and what moves.
use Rattle.std.proofs.Common.{List, Some, None, Option, refl, sym, subst}
use Rattle.std.specs.Prelude.{IfSome}
use Rattle.std.proofs.lemmas.Option.{IfSome_then}
use Rattle.mesh_base.specs.Mesh.{Mesh, IsSound}
use Rattle.mesh_base.specs.Placements.{IsClearMesh}
use Rattle.edit_base.specs.declared.Change.{Change}
use Rattle.edit_base.specs.declared.Change.TheVariants.{Split, Flip, Collapse, Zip, Pinch}
use Rattle.edit_base.specs.Edges.{edge_of}
use Rattle.edit_base.specs.declared.Move.{Move}
use Rattle.edit_base.specs.Scaffold.{Scaffold}
use Rattle.edit_check.specs.Agreeing.{AgreesWhereOld}
use Rattle.edit_check.specs.Untouched.{IsClearWhereUntouched}
use Rattle.edit_check.proofs.Premise.{agreeing_is}
use Rattle.edit_split.specs.Split.{split_point, split_scaffold}
use Rattle.edit_split.proofs.SplitPremise.{split_changed}
use Rattle.edit_flip.specs.Flip.{flip_scaffold}
use Rattle.edit_pinch.proofs.PinchPremise.{pinch_scaffold_agrees}
use Rattle.edit_any.specs.Dispatch.{scaffold_of}
use Rattle.motion_proof.specs.declared.Claim.{Claim}
use Rattle.edit_scaffold.specs.Made.{IsTestedOn}

pub scaffold_agrees : (m : Mesh) (change : Change) → IfSome (scaffold_of m change) (λ s. AgreesWhereOld m s.mesh s.moves)
scaffold_agrees m (Split a b w at) = let e = edge_of m a b in split_changed m e (split_point m e) (split_scaffold m e).moves
scaffold_agrees m (Flip a b) = let e = edge_of m a b in split_changed m e (split_point m e) (flip_scaffold m e).moves
scaffold_agrees m (Collapse a b at) = record {
  faces = λ f c there below. there;
  points = λ v below rests. refl;
}
scaffold_agrees m (Zip a b e f turn) = tt
scaffold_agrees m (Pinch v at copies) = pinch_scaffold_agrees m v

-- of a clear mesh it is clear where nothing is touched
pub scaffold_is_clear : (m : Mesh) (change : Change) → IsSound m → IsClearMesh m → IfSome (scaffold_of m change) (λ s. IsClearWhereUntouched s.mesh s.moves m.next_face)
scaffold_is_clear m change sound clear = IfSome_then (scaffold_of m change) (scaffold_agrees m change) (λ s agrees. agreeing_is m s.mesh s.moves sound clear agrees)

-- and so is the mesh that is made of it
pub laid_is_clear : (m n : Mesh) (change : Change) (moves : List Move) (when : Claim) → IsSound m → IsClearMesh m → IsTestedOn (scaffold_of m change) n moves when → IsClearWhereUntouched n moves m.next_face
laid_is_clear m n change moves when sound clear is = by_scaffold (scaffold_of m change) (scaffold_is_clear m change sound clear) is
  where
    by_scaffold : (o : Option Scaffold) → IfSome o (λ s. IsClearWhereUntouched s.mesh s.moves m.next_face) → IsTestedOn o n moves when → IsClearWhereUntouched n moves m.next_face
    by_scaffold None h is = absurd is
    by_scaffold (Some s) h is = subst (λ k. IsClearWhereUntouched k moves m.next_face) (sym is.mesh) (subst (λ ms. IsClearWhereUntouched s.mesh ms m.next_face) (sym is.ways) h)
