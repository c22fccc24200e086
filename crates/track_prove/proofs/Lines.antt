-- What becomes of one line, by what is made and found of its motion.
use Rattle.std.proofs.Common.{◌≡◌, ℕ, List, [], ◌∷◌, ◌++◌, Bool, true, false, Option, Some, None, Result, Ok, Err, refl, ap, sym, ◌∙◌, subst}
use Rattle.std.specs.Prelude.{◌↔◌, IsTrue, IsNone, IfOk, is_some, option_map}
use Rattle.std.proofs.lemmas.Bool.{false≢true}
use Rattle.grid_base.specs.declared.NoMemory.{NoMemory}
use Rattle.mesh_base.specs.Mesh.{Mesh}
use Rattle.mesh_base.specs.Placements.{Motion}
use Rattle.mesh_base.specs.declared.PairName.{PairName}
use Rattle.edit_base.specs.Scaffold.{Scaffold, motion_of}
use Rattle.edit_scaffold.specs.Made.{claim_of}
use Rattle.motion_proof.specs.declared.Claim.{Claim}
use Rattle.motion_proof.specs.declared.Entry.{Entry}
use Rattle.motion_proof.specs.declared.Certificate.{Certificate}
use Rattle.motion_proof.specs.declared.Made.{Made}
use Rattle.motion_proof.specs.declared.Made.TheVariants.{Proof, Fails}
use Rattle.motion_proof.specs.declared.Verdict.{Verdict}
use Rattle.motion_proof.specs.declared.Verdict.TheVariants.{Accepted, NoMotion, Stranger, Invalid, Missing}
use Rattle.motion_proof.specs.Acceptance.{IsAccepted, IsClearAs}
use Rattle.motion_proof.specs.Verdicts.{IsVerdict}
use Rattle.edit_proof.specs.Certified.{IsMadeOf, IsFoundOf}
use Rattle.proof_text.specs.declared.ProofAt.{ProofAt}
use Rattle.proof_text.specs.Plain.{PlainProof}
use Rattle.proof_text.specs.Views.{proof_view, entries_view}
use Rattle.log_text.specs.declared.LogLine.{LogLine}
use Rattle.log_text.specs.declared.LogLine.TheVariants as line
use Rattle.log_run.specs.States.{LogState, with_line}
use Rattle.log_run.specs.Fits.{LineFits, MayBeTried}
use Rattle.log_run.specs.Laws.{IsValidState, StepIsClear, FittingLinesAreSafe}
use Rattle.log_run.specs.Motions.{moved_in, IsCertified, IsJudged, IsClearWhereMoved, PassesWhereMoved}
use Rattle.track_prove.specs.declared.taken_lines.LineOutcome.{LineOutcome}
use Rattle.track_prove.specs.declared.taken_lines.LineOutcome.TheVariants.{Fits, Unfit, Bad}
use Rattle.track_prove.specs.Proving.{MakesVerdict, IsProofOf}
use Rattle.track_prove.specs.Verifying.{FoundOf, IsVerdictOn}
use Rattle.track_prove.specs.Taking.{IsTaken, IsFitOrNot, IsDenied, IsClearIfFits, IsMadeHere, IsJudgedHere, Goes, AddsProof}

-- a certificate that is accepted proves its claim
abbrev pub AcceptedAreClear : Type 0
AcceptedAreClear = (m : Mesh) (w : Motion) (claim : Claim) (entries : List Entry) → IsAccepted m w claim entries → IsClearAs claim m w

-- a line with a motion that is clear ends no step that is not
abbrev pub ClearStepsOf : Type 0
ClearStepsOf = (s : LogState) (line : LogLine) → IsValidState s → IsClearWhereMoved (moved_in s.replay line) → StepIsClear s.replay line

-- ---- a line that is tried

-- the mesh of a valid replay may be edited
pub may_be_tried : (s : LogState) (l : LogLine) → IsValidState s → MayBeTried s.replay.mesh l
may_be_tried s (line.Did change) valid = (valid.now.closed, valid.now.clear)
may_be_tried s (line.First version) valid = tt
may_be_tried s (line.Mesh k vertices faces) valid = tt
may_be_tried s (line.Step k) valid = tt
may_be_tried s (line.Solid v) valid = tt
may_be_tried s (line.Hit pair) valid = tt
may_be_tried s (line.Vertices new) valid = tt
may_be_tried s (line.Faces new) valid = tt
may_be_tried s (line.Block ids) valid = tt
may_be_tried s (line.Move shift) valid = tt
may_be_tried s (line.Moved how) valid = tt
may_be_tried s (line.Pass kind) valid = tt
may_be_tried s line.PassFit valid = tt
may_be_tried s (line.No what why) valid = tt
may_be_tried s line.Group valid = tt
may_be_tried s (line.Close kept) valid = tt
may_be_tried s (line.Refused why) valid = tt
may_be_tried s line.End valid = tt

pub went : FittingLinesAreSafe → ClearStepsOf → (s : LogState) (l : LogLine) (next : LogState) → IsValidState s → LineFits s l → IsClearWhereMoved (moved_in s.replay l) → next ≡ with_line s l → Goes s l next
went safe steps s l next valid fits clear taken =
    let both = safe s l valid fits (steps s l valid clear) in
    record {
      taken = taken;
      valid = subst IsValidState (sym taken) both.1;
      keeps = (both.0, both.1.now);
    }

pub fits_true : (s : LogState) (l : LogLine) (fits : Bool) → IsTrue fits ↔ LineFits s l → fits ≡ true → LineFits s l
fits_true s l fits is e = is.0 e

pub fits_false : (s : LogState) (l : LogLine) (fits : Bool) → IsTrue fits ↔ LineFits s l → fits ≡ false → LineFits s l → ⊥
fits_false s l fits is e h = false≢true (sym e ∙ is.1 h)

-- ---- no motion

pub none_clear : (o : Option Scaffold) → IsNone o → IsClearWhereMoved o
none_clear None e = tt
none_clear (Some motion) e = absurd (false≢true (sym e))

none_passes : (o : Option Scaffold) → IsNone o → PassesWhereMoved o
none_passes None e = tt
none_passes (Some motion) e = absurd (false≢true (sym e))

none_adds : (number : ℕ) (o : Option Scaffold) (old new : List ProofAt) → IsNone o → new ≡ old → AddsProof number o old new
none_adds number None old new e same = same
none_adds number (Some motion) old new e same = absurd (false≢true (sym e))

none_denied : (o : Option Scaffold) (p : PlainProof) (v : Verdict) → IsNone o → v ≡ NoMotion → FoundOf o (Some p) v
none_denied None p v e is = is
none_denied (Some motion) p v e is = absurd (false≢true (sym e))

none_found : (o : Option Scaffold) → IsNone o → FoundOf o None Accepted
none_found None e = refl
none_found (Some motion) e = absurd (false≢true (sym e))

some_denied : (o : Option Scaffold) (v : Verdict) → is_some o ≡ true → v ≡ NoMotion → FoundOf o None v
some_denied None v e is = absurd (false≢true e)
some_denied (Some motion) v e is = is

no_motion_is_against : (v : Verdict) → v ≡ NoMotion → v ≡ Accepted → ⊥
no_motion_is_against v is e = absurd cc

-- ---- what a call answers that takes a line

pub fit_taken : (Found : Verdict → Type 0) (s t : LogState) (l : LogLine) → t ≡ s → (LineFits s l → Found Accepted) → (r : Result LineOutcome NoMemory) → IfOk r (IsFitOrNot t l) → IfOk r (IsTaken Found s l)
fit_taken Found s t l same accepts (Err fault) told = tt
fit_taken Found s t l same accepts (Ok Fits) told = let fits = subst (λ x. LineFits x l) same told in (fits, accepts fits)
fit_taken Found s t l same accepts (Ok Unfit) told = λ fits. told (subst (λ x. LineFits x l) (sym same) fits)
fit_taken Found s t l same accepts (Ok (Bad v)) told = absurd told

pub denied_taken : (Found : Verdict → Type 0) (s t : LogState) (l : LogLine) → t ≡ s → ((v : Verdict) → LineFits s l → v ≡ NoMotion → Found v) → (r : Result LineOutcome NoMemory) → IfOk r (IsDenied t l) → IfOk r (IsTaken Found s l)
denied_taken Found s t l same denies (Err fault) told = tt
denied_taken Found s t l same denies (Ok Fits) told = absurd told
denied_taken Found s t l same denies (Ok Unfit) told = λ fits. told (subst (λ x. LineFits x l) (sym same) fits)
denied_taken Found s t l same denies (Ok (Bad v)) told =
    let fits = subst (λ x. LineFits x l) same told.0 in
    (fits, (denies v fits told.1, no_motion_is_against v told.1))

-- no line is taken then
pub denied_stays : (s : LogState) (l : LogLine) (next : LogState) (t : LogState) (r : Result LineOutcome NoMemory) → IfOk r (IsDenied t l) → r ≡ Ok Fits → Goes s l next
denied_stays s l next t r told e = absurd (let P : Result LineOutcome NoMemory → Type 0 = λ x. IfOk x (IsDenied t l) in subst P e told)

pub fits_of : (s : LogState) (l : LogLine) (r : Result LineOutcome NoMemory) → IfOk r (IsFitOrNot s l) → r ≡ Ok Fits → LineFits s l
fits_of s l r told e = let P : Result LineOutcome NoMemory → Type 0 = λ x. IfOk x (IsFitOrNot s l) in subst P e told

pub goes_same : (s t : LogState) (l : LogLine) (next : LogState) → t ≡ s → Goes t l next → Goes s l next
goes_same s t l next same goes = subst (λ x. Goes x l next) same goes

-- ---- what is made

clear_there : (s t : LogState) (l : LogLine) → t ≡ s → (LineFits s l → IsClearWhereMoved (moved_in s.replay l)) → IsClearIfFits t l
clear_there s t l same clear = subst (λ x. IsClearIfFits x l) (sym same) (record { clear = clear })

-- nothing
module _ (s t : LogState) (l : LogLine) (same : t ≡ s) (o : Option Made) (is : o ≡ None) (made : IsCertified s l o) where
  no_motion : LineFits s l → IsNone (moved_in s.replay l)
  no_motion = subst (IsCertified s l) is made

  pub bare_clear : IsClearIfFits t l
  bare_clear = clear_there s t l same (λ fits. none_clear (moved_in s.replay l) (no_motion fits))

  pub bare_told : (r : Result LineOutcome NoMemory) → IfOk r (IsFitOrNot t l) → IfOk r (IsTaken (MakesVerdict (moved_in s.replay l)) s l)
  bare_told r told = fit_taken (MakesVerdict (moved_in s.replay l)) s t l same (λ fits. none_passes (moved_in s.replay l) (no_motion fits)) r told

  pub bare_adds : (number : ℕ) (proofs : List ProofAt) (r : Result LineOutcome NoMemory) → IfOk r (IsFitOrNot t l) → r ≡ Ok Fits → AddsProof number (moved_in s.replay l) proofs proofs
  bare_adds number proofs r told e = none_adds number (moved_in s.replay l) proofs proofs (no_motion (subst (λ x. LineFits x l) same (fits_of t l r told e))) refl

-- this, where the replay is the same
pub made_here : (s t : LogState) (l : LogLine) (o : Option Made) (made : Made) → t ≡ s → o ≡ Some made → IsCertified s l o → IsMadeHere t l made
made_here s t l o made same is certified = subst (λ x. IsMadeHere x l made) (sym same) (record { certified = subst (IsCertified s l) is certified })

pub made_at : (s : LogState) (l : LogLine) (made other : Made) → made ≡ other → IsMadeHere s l made → IsMadeHere s l other
made_at s l made other is h = subst (IsMadeHere s l) is h

-- a certificate
module _ (s : LogState) (l : LogLine) (p : Certificate) (made : IsMadeHere s l (Proof p)) where
  proof_clears : AcceptedAreClear → (motion : Option Scaffold) → IsMadeOf motion (Proof p) → IsClearWhereMoved motion
  proof_clears accepted None h = absurd h
  proof_clears accepted (Some motion) h = accepted motion.mesh (motion_of motion) (claim_of motion.touch) p.entries h.1.1

  pub proof_clear : AcceptedAreClear → IsClearIfFits s l
  proof_clear accepted = record { clear = λ fits. proof_clears accepted (moved_in s.replay l) made.certified.1 }

  passes_by : (motion : Option Scaffold) → IsMadeOf motion (Proof p) → PassesWhereMoved motion
  passes_by None h = absurd h
  passes_by (Some motion) h = h.0.1.all_pass

  pub proof_told : (r : Result LineOutcome NoMemory) → IfOk r (IsFitOrNot s l) → IfOk r (IsTaken (MakesVerdict (moved_in s.replay l)) s l)
  proof_told r told = fit_taken (MakesVerdict (moved_in s.replay l)) s s l refl (λ fits. passes_by (moved_in s.replay l) made.certified.1) r told

  adds_by : (number : ℕ) (motion : Option Scaffold) (old new : List ProofAt) → IsMadeOf motion (Proof p) → new ≡ old ++ record { line = number; proof = p } ∷ [] → AddsProof number motion old new
  adds_by number None old new h is = absurd h
  adds_by number (Some motion) old new h is = (record { line = number; proof = p }, (record { line = refl; claim = h.0.0; ruled = h.0.1 }, is))

  pub proof_adds : (number : ℕ) (old new : List ProofAt) → new ≡ old ++ record { line = number; proof = p } ∷ [] → AddsProof number (moved_in s.replay l) old new
  proof_adds number old new is = adds_by number (moved_in s.replay l) old new made.certified.1 is

-- a pair that does not pass
fails_by : (motion : Option Scaffold) (pair : PairName) → IsMadeOf motion (Fails pair) → MakesVerdict motion (Missing pair)
fails_by None pair h = absurd h
fails_by (Some motion) pair h = h.0

missing_is_against : (pair : PairName) → Missing pair ≡ Accepted → ⊥
missing_is_against pair e = absurd cc

pub fails_told : (s : LogState) (l : LogLine) (made : Made) (pair : PairName) → made ≡ Fails pair → IsMadeHere s l made → IsTaken (MakesVerdict (moved_in s.replay l)) s l (Bad (Missing pair))
fails_told s l made pair is h =
    let there = made_at s l made (Fails pair) is h in
    (there.certified.0, (fails_by (moved_in s.replay l) pair there.certified.1, missing_is_against pair))

-- what is told where the replay is the same
pub told_same : (s t : LogState) (l : LogLine) (r : Result LineOutcome NoMemory) → t ≡ s → IfOk r (IsTaken (MakesVerdict (moved_in t.replay l)) t l) → IfOk r (IsTaken (MakesVerdict (moved_in s.replay l)) s l)
told_same s t l r same told = subst (λ (x : LogState). IfOk r (IsTaken (MakesVerdict (moved_in x.replay l)) x l)) same told

pub adds_same : (s t : LogState) (l : LogLine) (number : ℕ) (old new : List ProofAt) → t ≡ s → AddsProof number (moved_in t.replay l) old new → AddsProof number (moved_in s.replay l) old new
adds_same s t l number old new same adds = subst (λ (x : LogState). AddsProof number (moved_in x.replay l) old new) same adds

-- ---- what is found

-- of a certificate as a text tells it
found_by : (motion : Option Scaffold) (at : ProofAt) (v : Verdict) → IsFoundOf motion at.proof.claim at.proof.entries v → FoundOf motion (Some (proof_view at)) v
found_by None at v h = absurd h
found_by (Some motion) at NoMotion h = h
found_by (Some motion) at Accepted h = (h.0, record { entries = at.proof.entries; told_are = refl; verdict_is = subst (λ c. IsVerdict motion.mesh (motion_of motion) c at.proof.entries Accepted) h.0 h.1 })
found_by (Some motion) at (Stranger pair) h = (h.0, record { entries = at.proof.entries; told_are = refl; verdict_is = subst (λ c. IsVerdict motion.mesh (motion_of motion) c at.proof.entries (Stranger pair)) h.0 h.1 })
found_by (Some motion) at (Invalid pair) h = (h.0, record { entries = at.proof.entries; told_are = refl; verdict_is = subst (λ c. IsVerdict motion.mesh (motion_of motion) c at.proof.entries (Invalid pair)) h.0 h.1 })
found_by (Some motion) at (Missing pair) h = (h.0, record { entries = at.proof.entries; told_are = refl; verdict_is = subst (λ c. IsVerdict motion.mesh (motion_of motion) c at.proof.entries (Missing pair)) h.0 h.1 })

-- this, where the replay is the same
pub judged_here : (s t : LogState) (l : LogLine) (at : ProofAt) (o : Option Verdict) (v : Verdict) → t ≡ s → o ≡ Some v → IsJudged s l at.proof.claim at.proof.entries o → IsJudgedHere t l at v
judged_here s t l at o v same is judged =
    subst (λ x. IsJudgedHere x l at v) (sym same) (record { judged = subst (IsJudged s l at.proof.claim at.proof.entries) is judged })

-- the line is no motion
pub unjudged_told : (s t : LogState) (l : LogLine) (at : ProofAt) (o : Option Verdict) → t ≡ s → o ≡ None → IsJudged s l at.proof.claim at.proof.entries o
    → (r : Result LineOutcome NoMemory) → IfOk r (IsDenied t l) → IfOk r (IsTaken (FoundOf (moved_in s.replay l) (Some (proof_view at))) s l)
unjudged_told s t l at o same is judged r told =
    let none : LineFits s l → IsNone (moved_in s.replay l) = subst (IsJudged s l at.proof.claim at.proof.entries) is judged in
    denied_taken (FoundOf (moved_in s.replay l) (Some (proof_view at))) s t l same (λ v fits e. none_denied (moved_in s.replay l) (proof_view at) v (none fits) e) r told

pub found_same : (s t : LogState) (l : LogLine) (p : Option PlainProof) (r : Result LineOutcome NoMemory) → t ≡ s → IfOk r (IsTaken (FoundOf (moved_in t.replay l) p) t l) → IfOk r (IsTaken (FoundOf (moved_in s.replay l) p) s l)
found_same s t l p r same told = subst (λ (x : LogState). IfOk r (IsTaken (FoundOf (moved_in x.replay l) p) x l)) same told

module _ (s : LogState) (l : LogLine) (at : ProofAt) (v : Verdict) (judged : IsJudgedHere s l at v) where
  -- it is accepted
  module _ (is : v ≡ Accepted) where
    accepted_is : LineFits s l × IsFoundOf (moved_in s.replay l) at.proof.claim at.proof.entries Accepted
    accepted_is = subst (λ x. LineFits s l × IsFoundOf (moved_in s.replay l) at.proof.claim at.proof.entries x) is judged.judged

    clears_by : AcceptedAreClear → (motion : Option Scaffold) → IsFoundOf motion at.proof.claim at.proof.entries Accepted → IsClearWhereMoved motion
    clears_by accepted None h = absurd h
    clears_by accepted (Some motion) h = subst (λ c. IsClearAs c motion.mesh (motion_of motion)) h.0 (accepted motion.mesh (motion_of motion) at.proof.claim at.proof.entries h.1)

    pub accepted_clear : AcceptedAreClear → IsClearIfFits s l
    accepted_clear accepted = record { clear = λ fits. clears_by accepted (moved_in s.replay l) accepted_is.1 }

    pub accepted_told : (r : Result LineOutcome NoMemory) → IfOk r (IsFitOrNot s l) → IfOk r (IsTaken (FoundOf (moved_in s.replay l) (Some (proof_view at))) s l)
    accepted_told r told = fit_taken (FoundOf (moved_in s.replay l) (Some (proof_view at))) s s l refl (λ fits. found_by (moved_in s.replay l) at Accepted accepted_is.1) r told

  -- something is against it
  pub against_told : (v ≡ Accepted → ⊥) → IsTaken (FoundOf (moved_in s.replay l) (Some (proof_view at))) s l (Bad v)
  against_told against = (judged.judged.0, (found_by (moved_in s.replay l) at v judged.judged.1, against))

pub bad_is_not_fit : (v : Verdict) → ◌≡◌ {A = Result LineOutcome NoMemory} (Ok (Bad v)) (Ok Fits) → ⊥
bad_is_not_fit v e = absurd cc

-- ---- without a certificate

module _ (s : LogState) (l : LogLine) (tells : Bool) (is : tells ≡ is_some (moved_in s.replay l)) where
  pub lacking_told : tells ≡ true → (r : Result LineOutcome NoMemory) → IfOk r (IsDenied s l) → IfOk r (IsTaken (FoundOf (moved_in s.replay l) None) s l)
  lacking_told e r told = denied_taken (FoundOf (moved_in s.replay l) None) s s l refl (λ v fits d. some_denied (moved_in s.replay l) v (sym is ∙ e) d) r told

  pub still_clear : tells ≡ false → IsClearIfFits s l
  still_clear e = record { clear = λ fits. none_clear (moved_in s.replay l) (sym is ∙ e) }

  pub still_told : tells ≡ false → (r : Result LineOutcome NoMemory) → IfOk r (IsFitOrNot s l) → IfOk r (IsTaken (FoundOf (moved_in s.replay l) None) s l)
  still_told e r told = fit_taken (FoundOf (moved_in s.replay l) None) s s l refl (λ fits. none_found (moved_in s.replay l) (sym is ∙ e)) r told

-- by the certificate in front
pub told_by : (s : LogState) (l : LogLine) (o p : Option PlainProof) (r : Result LineOutcome NoMemory) → o ≡ p → IfOk r (IsTaken (FoundOf (moved_in s.replay l) o) s l) → IfOk r (IsTaken (FoundOf (moved_in s.replay l) p) s l)
told_by s l o p r e told = let P : Option PlainProof → Type 0 = λ x. IfOk r (IsTaken (FoundOf (moved_in s.replay l) x) s l) in subst P e told

-- ---- what becomes of a line, by the answer

pub taken_fits : (Found : Verdict → Type 0) (s : LogState) (l : LogLine) (x : LineOutcome) → x ≡ Fits → IsTaken Found s l x → LineFits s l × Found Accepted
taken_fits Found s l x is told = subst (IsTaken Found s l) is told

pub taken_unfit : (Found : Verdict → Type 0) (s : LogState) (l : LogLine) (x : LineOutcome) → x ≡ Unfit → IsTaken Found s l x → LineFits s l → ⊥
taken_unfit Found s l x is told = subst (IsTaken Found s l) is told

pub taken_bad : (Found : Verdict → Type 0) (s : LogState) (l : LogLine) (x : LineOutcome) (v : Verdict) → x ≡ Bad v → IsTaken Found s l x → LineFits s l × (Found v × (v ≡ Accepted → ⊥))
taken_bad Found s l x v is told = subst (IsTaken Found s l) is told
