-- What is made of a mesh of which a few vertices go their ways in half units, and what is
-- answered of it.
use Rattle.std.specs.Prelude.{◌≡◌, ◌↔◌, List}
use Rattle.mesh_base.specs.Mesh.{Mesh}
use Rattle.mesh_base.specs.Placements.{Motion}
use Rattle.edit_base.specs.declared.Move.{Move as Way}
use Rattle.edit_base.specs.Scaffold.{motion_by}
use Rattle.motion_proof.specs.declared.certificate.Claim.{Claim}
use Rattle.motion_proof.specs.declared.certificates.Certificate.{Certificate}
use Rattle.motion_proof.specs.declared.certificate.Made.{Made}
use Rattle.motion_proof.specs.declared.certificate.Verdict.{Verdict}
use Rattle.motion_proof.specs.declared.certificate.Verdict.TheVariants.{Accepted}
use Rattle.motion_proof.specs.Acceptance.{IsAccepted, IsClearAs}
use Rattle.motion_proof.specs.Making.{IsMade, IsAcceptedIfMade}
use Rattle.motion_proof.specs.Verdicts.{IsVerdict}

-- what is made of the claim that the motion is clear
abbrev pub IsMadeOfWays : Mesh → List Way → Claim → Made → Type 0
IsMadeOfWays m ways claim made = IsMade m (motion_by m ways) claim made

-- where it is a certificate, that is accepted
abbrev pub IsAcceptedIfMadeOfWays : Mesh → List Way → Claim → Made → Type 0
IsAcceptedIfMadeOfWays m ways claim made = IsAcceptedIfMade m (motion_by m ways) claim made

-- the verdict on a certificate of a motion
abbrev pub IsVerdictOn : Mesh → Motion → Certificate → Verdict → Type 0
IsVerdictOn m w proof v = IsVerdict m w proof.claim proof.entries v

-- the verdict on a certificate of the motion by the ways
abbrev pub IsVerdictOfWays : Mesh → List Way → Certificate → Verdict → Type 0
IsVerdictOfWays m ways proof v = IsVerdictOn m (motion_by m ways) proof v

-- it is Accepted exactly where the certificate proves its claim
abbrev pub AcceptsExactly : Mesh → List Way → Certificate → Verdict → Type 0
AcceptsExactly m ways proof v =
    v ≡ Accepted ↔ IsAccepted m (motion_by m ways) proof.claim proof.entries

-- where it is Accepted, the motion is clear, as claimed
abbrev pub IsClearIfAccepted : Mesh → List Way → Certificate → Verdict → Type 0
IsClearIfAccepted m ways proof v = v ≡ Accepted → IsClearAs proof.claim m (motion_by m ways)
