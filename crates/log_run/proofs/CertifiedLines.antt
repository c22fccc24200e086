-- What is made and found of the motions of lines, by the calls that make and find it.
use Rattle.std.proofs.Common.{◌≡◌, ℕ, Bool, true, false, List, Option, Some, None, refl, sym, subst}
use Rattle.std.specs.Prelude.{Result, IfOk, IsNone}
use Rattle.std.proofs.lemmas.Bool.{false≢true}
use Rattle.std.proofs.lemmas.Result.{IfOk-weaker}
use Rattle.grid_base.specs.declared.NoMemory.{NoMemory}
use Rattle.mesh_base.specs.declared.How.{How}
use Rattle.mesh_base.specs.Mesh.{Mesh}
use Rattle.mesh_base.specs.Kept.{BeginsWith}
use Rattle.edit_base.specs.declared.Change.{Change}
use Rattle.edit_base.specs.declared.Move.{Move}
use Rattle.edit_base.specs.Scaffold.{motion_by}
use Rattle.edit_any.specs.Dispatch.{scaffold_of}
use Rattle.motion_proof.specs.declared.Claim.{Claim}
use Rattle.motion_proof.specs.declared.Claim.TheVariants.{Along}
use Rattle.motion_proof.specs.declared.Entry.{Entry}
use Rattle.motion_proof.specs.declared.Made.{Made}
use Rattle.motion_proof.specs.declared.Verdict.{Verdict}
use Rattle.motion_proof.specs.Making.{IsMade, IsAcceptedIfMade}
use Rattle.motion_proof.specs.Verdicts.{IsVerdict}
use Rattle.edit_proof.specs.Certified.{IsMadeFor, IsFoundFor}
use Rattle.edit_proof.proofs.Certifying.{verdict_found}
use Rattle.log_text.specs.declared.LogLine.{LogLine}
use Rattle.log_text.specs.declared.LogLine.TheVariants as line
use Rattle.log_run.specs.declared.replay_state.ReplayState.{ReplayState}
use Rattle.log_run.specs.Fits.{FitsFirst, FitsLater}
use Rattle.log_run.specs.Parts.{StepHolds, HoldsUnless, state_now, state_of}
use Rattle.log_run.specs.Groups.{stack_of}
use Rattle.log_run.specs.Motions.{moved_in, step_ways, IsCertified, IsJudged}
use Rattle.log_run.proofs.OpenMarks.{stack_along, marks_along}

module _ (m : Mesh) (kept : List Mesh) (at : ReplayState) where
  -- ---- a step that ends
  module _ (begun : at.begun ≡ true) (how : How) (ways : List Move) (these : ways ≡ step_ways m at.step.moves) where
    pub step_certified : (made : Made) → IsMade m (motion_by m ways) Along made → IsAcceptedIfMade m (motion_by m ways) Along made → IsCertified (state_now m kept at) (line.Moved how) (Some made)
    step_certified made is accepted =
        (begun, subst (λ (ws : List Move). IsMade m (motion_by m ws) Along made × IsAcceptedIfMade m (motion_by m ws) Along made) these (is, accepted))

    pub step_judged : (claim : Claim) (entries : List Entry) (v : Verdict) → claim ≡ Along → IsVerdict m (motion_by m ways) claim entries v → IsJudged (state_now m kept at) (line.Moved how) claim entries (Some v)
    step_judged claim entries v e is =
        (begun, verdict_found m (motion_by m (step_ways m at.step.moves)) Along claim entries v e (subst (λ (ws : List Move). IsVerdict m (motion_by m ws) claim entries v) these is))

  -- ---- an edit
  module _ (change : Change) (fits : FitsLater (state_now m kept at) (line.Did change)) where
    pub edit_certified : (result : Result (Option Made) NoMemory) → IfOk result (IsMadeFor (scaffold_of m change)) → IfOk result (IsCertified (state_now m kept at) (line.Did change))
    edit_certified result is = IfOk-weaker result (IsMadeFor (scaffold_of m change)) (IsCertified (state_now m kept at) (line.Did change)) by_made is
      where
        by_made : (made : Option Made) → IsMadeFor (scaffold_of m change) made → IsCertified (state_now m kept at) (line.Did change) made
        by_made None none = λ f. none
        by_made (Some made) is = (fits, is)

    pub edit_judged : (claim : Claim) (entries : List Entry) (result : Result (Option Verdict) NoMemory) → IfOk result (IsFoundFor (scaffold_of m change) claim entries) → IfOk result (IsJudged (state_now m kept at) (line.Did change) claim entries)
    edit_judged claim entries result is = IfOk-weaker result (IsFoundFor (scaffold_of m change) claim entries) (IsJudged (state_now m kept at) (line.Did change) claim entries) by_found is
      where
        by_found : (v : Option Verdict) → IsFoundFor (scaffold_of m change) claim entries v → IsJudged (state_now m kept at) (line.Did change) claim entries v
        by_found None none = λ f. none
        by_found (Some v) is = (fits, is)

-- ---- no line yet: the first that fits tells of no motion
pub first_moves_nothing : (m : Mesh) (kept : List Mesh) (at : ReplayState) (spent : Bool) (l : LogLine) → FitsFirst l → IsNone (moved_in (state_of m kept at false spent).replay l)
first_moves_nothing m kept at spent (line.First version) fits = refl
first_moves_nothing m kept at spent l fits = absurd fits

-- ---- where the mesh is as it was, and what was kept is still kept, the replay stands where it stood
module _ (beyond : ℕ) (m n : Mesh) (kept left : List Mesh) (at : ReplayState) (same : n ≡ m) (begins : BeginsWith left kept) where
  pub still_holds : (spent : Bool) → HoldsUnless spent beyond m kept at → HoldsUnless spent beyond n left at
  still_holds true holds = tt
  still_holds false holds = record { marks = marks_along beyond left kept at.marks begins holds.marks; step = λ h. subst (λ (k : Mesh). StepHolds k at.step) (sym same) (holds.step h) }

  pub same_state : (taken spent : Bool) → spent ≡ false → HoldsUnless spent beyond m kept at → state_of n left at taken spent ≡ state_of m kept at taken spent
  same_state taken true e holds = absurd (false≢true (sym e))
  same_state taken false e holds =
      let stack : stack_of left at.marks ≡ stack_of kept at.marks = stack_along beyond left kept at.marks begins holds.marks in
      λ i. record { replay = record { mesh = same i; moves = at.step.moves; stack = stack i }; is_begun = at.begun; has_line = taken; is_spent = false }
