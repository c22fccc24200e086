-- Laws of certificates.
use Rattle.std.specs.Prelude.{ℕ, List, ◌≡◌, ◌≤◌}
use Rattle.grid_base.specs.declared.TheConstants.{DEPTH_MAX}
use Rattle.grid_base.specs.declared.Positions.{Positions}
use Rattle.grid_base.specs.Separation.{Passes, Opens, Closes}
use Rattle.mesh_base.specs.Mesh.{Mesh}
use Rattle.mesh_base.specs.Placements.{Motion}
use Rattle.motion_proof.specs.declared.certificate.Claim.{Claim}
use Rattle.motion_proof.specs.declared.certificate.Claim.TheVariants.{After, Before}
use Rattle.motion_proof.specs.declared.certificate.Entry.{Entry}
use Rattle.motion_proof.specs.declared.certificate.Tree.{Tree}
use Rattle.motion_proof.specs.declared.certificate.Verdict.{Verdict}
use Rattle.motion_proof.specs.declared.certificate.Verdict.TheVariants.{Accepted}
use Rattle.motion_proof.specs.Trees.{IsValid, NeverMeetAs}
use Rattle.motion_proof.specs.Acceptance.{IsAccepted, IsClearAs}
use Rattle.motion_proof.specs.Verdicts.{IsVerdict}
use Rattle.motion_proof.specs.Making.{PassesAs}

-- a pair that has a valid tree for a claim meets at no fraction of which the claim speaks
abbrev pub ValidTreesKeepApart : Type 0
ValidTreesKeepApart = (claim : Claim) (tree : Tree) (s t : Positions) →
    IsValid claim tree s t → NeverMeetAs claim s t

-- a motion with a certificate that is accepted is clear, as claimed
abbrev pub AcceptedMotionsAreClear : Type 0
AcceptedMotionsAreClear = (m : Mesh) (w : Motion) (claim : Claim) (entries : List Entry) →
    IsAccepted m w claim entries → IsClearAs claim m w

-- a certificate that is accepted has no other verdict
abbrev pub AcceptedHasNoOtherVerdict : Type 0
AcceptedHasNoOtherVerdict =
    (m : Mesh) (w : Motion) (claim : Claim) (entries : List Entry) (v : Verdict) →
    IsAccepted m w claim entries → IsVerdict m w claim entries v → v ≡ Accepted

-- a pair that passes to a depth that a step or an edit may have passes as each claim asks
abbrev pub PassingPairsAreCertified : Type 0
PassingPairsAreCertified = (claim : Claim) (depth : ℕ) (s t : Positions) →
    depth ≤ DEPTH_MAX → Passes depth s t → PassesAs claim s t

-- one that opens passes after the start
abbrev pub OpeningPairsAreCertified : Type 0
OpeningPairsAreCertified = (depth : ℕ) (s t : Positions) →
    depth ≤ DEPTH_MAX → Opens depth s t → PassesAs After s t

-- one that closes passes before the end
abbrev pub ClosingPairsAreCertified : Type 0
ClosingPairsAreCertified = (depth : ℕ) (s t : Positions) →
    depth ≤ DEPTH_MAX → Closes depth s t → PassesAs Before s t
