-- Lines that are taken, a step's motion being tested.
use Rattle.std.proofs.Common.{◌≡◌, Bool, true, false, not, List, [], ◌∷◌, map, Result, Ok, Err, IfOk, refl, ap, sym, ◌∙◌, subst}
use Rattle.std.specs.Prelude.{◌↔◌, IsTrue, MatchBool}
use Rattle.std.specs.List.{filter}
use Rattle.std.proofs.lemmas.Bool.{false≢true}
use Rattle.grid_base.specs.declared.NoMemory.{NoMemory}
use Rattle.grid_base.specs.declared.TheConstants.{DEPTH_MAX}
use Rattle.grid_decided.specs.Decided.{meets_exactly}
use Rattle.mesh_base.specs.declared.How.{How}
use Rattle.mesh_base.specs.declared.PairName.{PairName}
use Rattle.mesh_base.specs.Failing.{failing, pair_passes}
use Rattle.mesh_base.specs.Mesh.{Mesh}
use Rattle.mesh_base.specs.Pairs.{pairs}
use Rattle.mesh_base.specs.Placements.{Motion, IsClearAlong}
use Rattle.mesh_base.specs.Shifts.{Shifts, moved_by}
use Rattle.pair_scan.specs.Found.{has_none}
use Rattle.log_text.specs.declared.LogLine.{LogLine}
use Rattle.log_text.specs.declared.LogLine.TheVariants as line
use Rattle.log_run.specs.States.{LogState, with_line}
use Rattle.log_run.specs.Steps.{shifts_of}
use Rattle.log_run.specs.Fits.{LineFits, MayBeTried}
use Rattle.log_run.specs.Laws.{IsValidState, FittingLinesAreSafe, ShiftsTell}
use Rattle.track_log.specs.Taking.{FitsTested}
use Rattle.track_log.specs.Passing.{StepIsTested, StepGoes, GoesOn}

-- ---- the test of a step

none_left : (names : List PairName) → IsTrue (has_none names) ↔ (names ≡ [])
none_left [] = (λ e. refl, λ e. refl)
none_left (name ∷ names) = (λ e. absurd (false≢true e), λ e. absurd cc)

-- pairs fail by how vertices move, however that is told
same_failing : (s : LogState) (shifts : Shifts) → moved_by s.replay.mesh shifts ≡ moved_by s.replay.mesh s.replay.moves
    → failing meets_exactly s.replay.mesh shifts DEPTH_MAX ≡ failing meets_exactly s.replay.mesh s.replay.moves DEPTH_MAX
same_failing s shifts same = ap (λ (w : Motion). map (λ p. p.name) (filter (λ p. not (pair_passes meets_exactly DEPTH_MAX w p)) (pairs s.replay.mesh))) same

module _ (s : LogState) (shifts : Shifts) (are : shifts ≡ shifts_of s.replay.mesh s.replay.moves) (tell : ShiftsTell s.replay.mesh s.replay.moves (shifts_of s.replay.mesh s.replay.moves)) where
  pub told_here : ShiftsTell s.replay.mesh s.replay.moves shifts
  told_here = subst (ShiftsTell s.replay.mesh s.replay.moves) (sym are) tell

  pub tested_step : (pass : Bool) → pass ≡ has_none (failing meets_exactly s.replay.mesh shifts DEPTH_MAX) → (IsTrue pass → IsClearAlong s.replay.mesh (moved_by s.replay.mesh shifts)) → StepIsTested s pass
  tested_step pass is clear =
      let same = same_failing s shifts told_here.motion in
      let left = none_left (failing meets_exactly s.replay.mesh shifts DEPTH_MAX) in
      record {
        exact = λ begun. (λ e. sym same ∙ left.0 (sym is ∙ e), λ e. is ∙ left.1 (same ∙ e));
        clear = λ begun e. subst (IsClearAlong s.replay.mesh) told_here.motion (clear e);
      }

  pub tested_answer : (m : Mesh) (r : Result Bool NoMemory) → m ≡ s.replay.mesh → IfOk r (λ pass. pass ≡ has_none (failing meets_exactly m shifts DEPTH_MAX)) → IfOk r (λ pass. IsTrue pass → IsClearAlong m (moved_by m shifts)) → IfOk r (StepIsTested s)
  tested_answer m (Err fault) same is clear = tt
  tested_answer m (Ok pass) same is clear =
      let P : Mesh → Type 0 = λ n. pass ≡ has_none (failing meets_exactly n shifts DEPTH_MAX) in
      let Q : Mesh → Type 0 = λ n. IsTrue pass → IsClearAlong n (moved_by n shifts) in
      tested_step pass (subst P same is) (subst Q same clear)

-- no step is begun
pub untested_step : (s : LogState) (pass : Bool) → (s.is_begun ≡ true → ⊥) → StepIsTested s pass
untested_step s pass none = record { exact = λ begun. absurd (none begun); clear = λ begun. absurd (none begun) }

-- ---- a line

moved_begun : (begun has_line : Bool) → MatchBool has_line (begun ≡ true) ⊥ → begun ≡ true
moved_begun begun true fits = fits
moved_begun begun false fits = absurd fits

-- a step of which a pair fails does not end
pub fails : (s : LogState) (l : LogLine) (how : How) (pass : Bool) → l ≡ line.Moved how → StepIsTested s pass → pass ≡ false → FitsTested s l → ⊥
fails s l how pass is tested failed fits =
    let here : FitsTested s (line.Moved how) = subst (FitsTested s) is fits in
    let begun : s.is_begun ≡ true = moved_begun s.is_begun s.has_line here.fits in
    false≢true (sym failed ∙ (tested.exact begun).1 here.passes)

-- that of a step whose pairs pass
pub goes_passed : (s : LogState) (l : LogLine) (how : How) (pass : Bool) → l ≡ line.Moved how → StepIsTested s pass → pass ≡ true → StepGoes s l
goes_passed s l how pass is tested passed =
    let here : StepGoes s (line.Moved how) = record {
      passes = λ fits. (tested.exact (moved_begun s.is_begun s.has_line fits)).0 passed;
      clear = λ fits. tested.clear (moved_begun s.is_begun s.has_line fits) passed;
    } in
    subst (StepGoes s) (sym is) here

-- that of a line that ends none
pub goes_other : (s : LogState) (l : LogLine) → ((how : How) → l ≡ line.Moved how → ⊥) → StepGoes s l
goes_other s (line.First version) other = record { passes = λ f. tt; clear = λ f. tt }
goes_other s (line.Mesh k vertices faces) other = record { passes = λ f. tt; clear = λ f. tt }
goes_other s (line.Step k) other = record { passes = λ f. tt; clear = λ f. tt }
goes_other s (line.Solid v) other = record { passes = λ f. tt; clear = λ f. tt }
goes_other s (line.Hit pair) other = record { passes = λ f. tt; clear = λ f. tt }
goes_other s (line.Vertices new) other = record { passes = λ f. tt; clear = λ f. tt }
goes_other s (line.Faces new) other = record { passes = λ f. tt; clear = λ f. tt }
goes_other s (line.Block ids) other = record { passes = λ f. tt; clear = λ f. tt }
goes_other s (line.Move shift) other = record { passes = λ f. tt; clear = λ f. tt }
goes_other s (line.Moved how) other = absurd (other how refl)
goes_other s (line.Pass kind) other = record { passes = λ f. tt; clear = λ f. tt }
goes_other s line.PassFit other = record { passes = λ f. tt; clear = λ f. tt }
goes_other s (line.Did change) other = record { passes = λ f. tt; clear = λ f. tt }
goes_other s (line.No what why) other = record { passes = λ f. tt; clear = λ f. tt }
goes_other s line.Group other = record { passes = λ f. tt; clear = λ f. tt }
goes_other s (line.Close kept) other = record { passes = λ f. tt; clear = λ f. tt }
goes_other s (line.Refused why) other = record { passes = λ f. tt; clear = λ f. tt }
goes_other s line.End other = record { passes = λ f. tt; clear = λ f. tt }

-- by what the test answers
pub goes_answer : (s : LogState) (l : LogLine) (how : How) (r : Result Bool NoMemory) → l ≡ line.Moved how → IfOk r (StepIsTested s) → IfOk r (GoesOn s l)
goes_answer s l how (Err fault) is tested = tt
goes_answer s l how (Ok true) is tested = goes_passed s l how true is tested refl
goes_answer s l how (Ok false) is tested = fails s l how false is tested refl

goes_where : (s : LogState) (l : LogLine) (b : Bool) → b ≡ true → GoesOn s l b → StepGoes s l
goes_where s l true e goes = goes
goes_where s l false e goes = absurd (false≢true e)

pub stays_where : (s : LogState) (l : LogLine) (b : Bool) → b ≡ false → GoesOn s l b → FitsTested s l → ⊥
stays_where s l true e goes = absurd (false≢true (sym e))
stays_where s l false e goes = goes

-- the line is taken where it fits
fits_both : (s : LogState) (l : LogLine) (b : Bool) → StepGoes s l → IsTrue b ↔ LineFits s l → IsTrue b ↔ FitsTested s l
fits_both s l b goes fits = (λ e. record { fits = fits.0 e; passes = goes.passes (fits.0 e) }, λ f. fits.1 f.fits)

-- the mesh of a replay may be edited
pub may_be_tried : (s : LogState) (l : LogLine) → IsValidState s → MayBeTried s.replay.mesh l
may_be_tried s (line.Did change) valid = (valid.now.closed, valid.now.clear)
may_be_tried s (line.First version) valid = tt
may_be_tried s (line.Mesh k vertices faces) valid = tt
may_be_tried s (line.Step k) valid = tt
may_be_tried s (line.Solid v) valid = tt
may_be_tried s (line.Hit pair) valid = tt
may_be_tried s (line.Vertices new) valid = tt
may_be_tried s (line.Faces new) valid = tt
may_be_tried s (line.Block ids) valid = tt
may_be_tried s (line.Move shift) valid = tt
may_be_tried s (line.Moved how) valid = tt
may_be_tried s (line.Pass kind) valid = tt
may_be_tried s line.PassFit valid = tt
may_be_tried s (line.No what why) valid = tt
may_be_tried s line.Group valid = tt
may_be_tried s (line.Close kept) valid = tt
may_be_tried s (line.Refused why) valid = tt
may_be_tried s line.End valid = tt

-- and it stays valid
valid_behind : FittingLinesAreSafe → (s t : LogState) (l : LogLine) → IsValidState s → StepGoes s l → LineFits s l → t ≡ with_line s l → IsValidState t
valid_behind safe s t l valid goes fits is = subst IsValidState (sym is) (safe s l valid fits (goes.clear fits)).1

-- what a call that takes the line answers
pub fits_answer : (s : LogState) (l : LogLine) (b : Bool) (r : Result Bool NoMemory) → b ≡ true → GoesOn s l b → IfOk r (λ fits. IsTrue fits ↔ LineFits s l) → IfOk r (λ fits. IsTrue fits ↔ FitsTested s l)
fits_answer s l b (Err fault) e goes h = tt
fits_answer s l b (Ok fits) e goes h = fits_both s l fits (goes_where s l b e goes) h

pub valid_answer : FittingLinesAreSafe → (s t : LogState) (l : LogLine) (b : Bool) (r : Result Bool NoMemory) → b ≡ true → GoesOn s l b → IsValidState s → IfOk r (λ fits. IsTrue fits ↔ LineFits s l) → r ≡ Ok true → t ≡ with_line s l → IsValidState t
valid_answer safe s t l b r e goes valid h ok is =
    let P : Result Bool NoMemory → Type 0 = λ x. IfOk x (λ fits. IsTrue fits ↔ LineFits s l) in
    valid_behind safe s t l valid (goes_where s l b e goes) ((subst P ok h).0 refl) is
