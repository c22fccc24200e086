-- What is made of a motion that is told as a mesh with moves, and what
-- is found of a certificate of it.
use Rattle.std.specs.Prelude.{◌≡◌, IsNone, List}
use Rattle.std.proofs.Common.{Option, Some, None}
use Rattle.mesh_base.specs.Mesh.{Mesh}
use Rattle.mesh_base.specs.Placements.{Motion}
use Rattle.edit_base.specs.Scaffold.{Scaffold, motion_of}
use Rattle.edit_base.specs.declared.Change.{Change}
use Rattle.edit_any.specs.Dispatch.{scaffold_of}
use Rattle.edit_scaffold.specs.Made.{claim_of}
use Rattle.motion_proof.specs.declared.Certificate.{Certificate}
use Rattle.motion_proof.specs.declared.Claim.{Claim}
use Rattle.motion_proof.specs.declared.Entry.{Entry}
use Rattle.motion_proof.specs.declared.Made.{Made}
use Rattle.motion_proof.specs.declared.Verdict.{Verdict}
use Rattle.motion_proof.specs.declared.Verdict.TheVariants.{NoMotion}
use Rattle.motion_proof.specs.Making.{IsMade, IsAcceptedIfMade}
use Rattle.motion_proof.specs.Verdicts.{IsVerdict}

-- there is a motion, and the rule makes this of it, for the claim that is due; a
-- certificate that is made is accepted
abbrev pub IsMadeOf : Option Scaffold → Made → Type 0
IsMadeOf None made = ⊥
IsMadeOf (Some s) made =
    IsMade s.mesh (motion_of s) (claim_of s.touch) made
    × IsAcceptedIfMade s.mesh (motion_of s) (claim_of s.touch) made

-- this is made of the motion, and nothing exactly where there is none
abbrev pub IsMadeFor : Option Scaffold → Option Made → Type 0
IsMadeFor motion None = IsNone motion
IsMadeFor motion (Some made) = IsMadeOf motion made

-- What is found of a certificate of a motion for which a claim is due: that it is
-- of another claim, or its verdict.
abbrev pub IsFound : Mesh → Motion → Claim → Claim → List Entry → Verdict → Type 0
IsFound m w due claim entries NoMotion = ¬ (claim ≡ due)
IsFound m w due claim entries v = (claim ≡ due) × IsVerdict m w claim entries v

-- there is a motion, and this is found of a certificate of it
abbrev pub IsFoundOf : Option Scaffold → Claim → List Entry → Verdict → Type 0
IsFoundOf None claim entries v = ⊥
IsFoundOf (Some s) claim entries v = IsFound s.mesh (motion_of s) (claim_of s.touch) claim entries v

-- this is found of a certificate of the motion, and nothing exactly where there is none
abbrev pub IsFoundFor : Option Scaffold → Claim → List Entry → Option Verdict → Type 0
IsFoundFor motion claim entries None = IsNone motion
IsFoundFor motion claim entries (Some v) = IsFoundOf motion claim entries v

-- this is found of a certificate for the motion of a change, and nothing exactly where that moves
-- nothing
abbrev pub IsFoundForChange : Mesh → Change → Certificate → Option Verdict → Type 0
IsFoundForChange m change proof found =
    IsFoundFor (scaffold_of m change) proof.claim proof.entries found
