-- What a valid tree says of every fraction of the motion.
use Rattle.grid_base.specs.Triples.{Triple}
use Rattle.grid_base.specs.declared.Positions.{Positions}
use Rattle.grid_base.specs.Separation.{double, middle}
use Rattle.motion_proof.specs.declared.certificate.Claim.{Claim}
use Rattle.motion_proof.specs.declared.certificate.Claim.TheVariants.{Along, After, Before}
use Rattle.motion_proof.specs.declared.certificate.Tree.{Tree}
use Rattle.motion_proof.specs.declared.certificate.Tree.TheVariants.{Leaf, Halves'}
use Rattle.motion_proof.specs.Trees.{NeverMeetAs, Serves, Separates, IsValid, first_claim, second_claim}
use Rattle.grid_base.proofs.SeparationLaws.{KeepsApart-never_meet, TakesApart-never_meet, BringsTogether-never_meet, NeverMeet-in_halves, NeverMeetAfterStart-in_halves, NeverMeetBeforeEnd-in_halves}

Serves-never_meet : (claim : Claim) (s t : Positions) (n : Triple) → Serves claim s t n → NeverMeetAs claim s t
Serves-never_meet Along s t n h = KeepsApart-never_meet s t n h
Serves-never_meet After s t n h = TakesApart-never_meet s t n h
Serves-never_meet Before s t n h = BringsTogether-never_meet s t n h

in_halves : (claim : Claim) (s t : Positions) → NeverMeetAs (first_claim claim) (double s) (middle s t) → NeverMeetAs (second_claim claim) (middle s t) (double t) → NeverMeetAs claim s t
in_halves Along s t first second = NeverMeet-in_halves s t first second
in_halves After s t first second = NeverMeetAfterStart-in_halves s t first second
in_halves Before s t first second = NeverMeetBeforeEnd-in_halves s t first second

pub Separates-never_meet : (claim : Claim) (tree : Tree) (s t : Positions) → Separates claim tree s t → NeverMeetAs claim s t
Separates-never_meet claim (Leaf n) s t h = Serves-never_meet claim s t n h
Separates-never_meet claim (Halves' p a q b) s t h =
    in_halves claim s t (Separates-never_meet (first_claim claim) a (double s) (middle s t) h.0) (Separates-never_meet (second_claim claim) b (middle s t) (double t) h.1)

pub IsValid-never_meet : (claim : Claim) (tree : Tree) (s t : Positions) → IsValid claim tree s t → NeverMeetAs claim s t
IsValid-never_meet claim tree s t h = Separates-never_meet claim tree s t h.separates
