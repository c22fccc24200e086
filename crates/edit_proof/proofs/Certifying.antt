-- Where the scaffold of an edit is laid: it is clear where nothing is touched, and a verdict there is what is found.
use Rattle.std.proofs.Common.{◌≡◌, ℕ, List, Option, Some, sym, subst}
use Rattle.mesh_base.specs.Mesh.{Mesh, IsSound}
use Rattle.mesh_base.specs.Placements.{Motion, IsClearMesh}
use Rattle.edit_base.specs.declared.Change.{Change}
use Rattle.edit_base.specs.declared.Move.{Move}
use Rattle.motion_proof.specs.declared.Claim.{Claim}
use Rattle.motion_proof.specs.declared.Entry.{Entry}
use Rattle.motion_proof.specs.declared.Verdict.{Verdict}
use Rattle.motion_proof.specs.declared.Verdict.TheVariants.{Accepted, NoMotion, Stranger, Invalid, Missing}
use Rattle.motion_proof.specs.Verdicts.{IsVerdict}
use Rattle.edit_check.specs.Untouched.{IsClearWhereUntouched}
use Rattle.edit_any.specs.Dispatch.{scaffold_of}
use Rattle.edit_scaffold.specs.declared.MarkedMotion.{MarkedMotion}
use Rattle.edit_scaffold.specs.Made.{IsLaid}
use Rattle.edit_scaffold.proofs.Agreeing.{laid_is_clear}
use Rattle.edit_proof.specs.Certified.{IsFound}

-- what is laid is clear where nothing is touched, as what looks near alone asks for
pub laid_clear : (m n : Mesh) (change : Change) (found : Option MarkedMotion) (laid : MarkedMotion) (ways : List Move) (fresh_from : ℕ) → IsSound m → IsClearMesh m → IsLaid (scaffold_of m change) m n found → found ≡ Some laid → ways ≡ laid.ways → fresh_from ≡ m.next_face
    → IsClearWhereUntouched n ways fresh_from
laid_clear m n change found laid ways fresh_from sound clear is there same next =
    let here = laid_is_clear m n change laid.ways laid.claim sound clear (subst (IsLaid (scaffold_of m change) m n) there is) in
    subst (λ (f : ℕ). IsClearWhereUntouched n ways f) (sym next) (subst (λ (ws : List Move). IsClearWhereUntouched n ws m.next_face) (sym same) here)

-- a verdict is what is found of a certificate of the claim that is due
pub verdict_found : (m : Mesh) (w : Motion) (due claim : Claim) (entries : List Entry) (v : Verdict) → claim ≡ due → IsVerdict m w claim entries v → IsFound m w due claim entries v
verdict_found m w due claim entries Accepted e is = (e, is)
verdict_found m w due claim entries NoMotion e is = absurd is
verdict_found m w due claim entries (Stranger n) e is = (e, is)
verdict_found m w due claim entries (Invalid n) e is = (e, is)
verdict_found m w due claim entries (Missing n) e is = (e, is)
