-- A pair that passes the test of a claim to some depth passes it to each greater one, and a separated pair passes that of each claim.
use Rattle.std.proofs.Common.{ℕ, zero, suc, ◌≤◌, ⊎_elim, inl, inr}
use Rattle.grid_base.specs.declared.TheConstants.{DEPTH_MAX}
use Rattle.grid_base.specs.declared.Positions.{Positions}
use Rattle.grid_base.specs.Separation.{AreSeparated, Opens, Closes, Passes, directions, double, middle}
use Rattle.grid_base.proofs.Deeper.{separated_deeper, opens_deeper, closes_deeper}
use Rattle.motion_proof.specs.declared.certificate.Claim.{Claim}
use Rattle.motion_proof.specs.declared.certificate.Claim.TheVariants.{Along, After, Before}
use Rattle.motion_proof.specs.Trees.{PassesTest, Holds}
use Rattle.motion_proof.specs.Making.{PassesAs}
use Rattle.motion_proof.proofs.MadeTrees.{any_as, AreSeparated-back}
use Rattle.motion_proof.proofs.MakeSteps.{kept_serves}

-- ---- more depth
test_deeper : (claim : Claim) (depth deeper : ℕ) (s t : Positions) → depth ≤ deeper → PassesTest claim depth s t → PassesTest claim deeper s t
test_deeper Along depth deeper s t most h = separated_deeper depth deeper s t most h
test_deeper After depth deeper s t most h = opens_deeper depth deeper s t most h
test_deeper Before depth deeper s t most h = closes_deeper depth deeper s t most h

pub Holds-deeper : (claim : Claim) (depth deeper : ℕ) (s t : Positions) → depth ≤ deeper → Holds claim depth s t → Holds claim deeper s t
Holds-deeper claim depth deeper s t most h = record { test = test_deeper claim depth deeper s t most h.test }

-- ---- separated pairs
separated_opens : (depth : ℕ) (s t : Positions) → AreSeparated depth s t → Opens depth s t
separated_opens zero s t h = any_as (directions s t) (kept_serves After s t) h
separated_opens (suc depth) s t h = ⊎_elim
    (λ one. inl (any_as (directions s t) (kept_serves After s t) one))
    (λ two. inr (separated_opens depth (double s) (middle s t) two.0, two.1)) h

separated_test : (claim : Claim) (depth : ℕ) (s t : Positions) → AreSeparated depth s t → PassesTest claim depth s t
separated_test Along depth s t h = h
separated_test After depth s t h = separated_opens depth s t h
separated_test Before depth s t h = separated_opens depth t s (AreSeparated-back depth s t h)

-- ---- to the depth of certificates
pub passes_as : (claim : Claim) (depth : ℕ) (s t : Positions) → depth ≤ DEPTH_MAX → Passes depth s t → PassesAs claim s t
passes_as claim depth s t most h = ⊎_elim
    (λ separated. inr (Holds-deeper claim depth DEPTH_MAX s t most (record { test = separated_test claim depth s t separated })))
    (λ together. inl together) h

pub opens_as : (depth : ℕ) (s t : Positions) → depth ≤ DEPTH_MAX → Opens depth s t → PassesAs After s t
opens_as depth s t most h = inr (Holds-deeper After depth DEPTH_MAX s t most (record { test = h }))

pub closes_as : (depth : ℕ) (s t : Positions) → depth ≤ DEPTH_MAX → Closes depth s t → PassesAs Before s t
closes_as depth s t most h = inr (Holds-deeper Before depth DEPTH_MAX s t most (record { test = h }))
