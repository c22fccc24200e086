-- The certificates of a run's log are in the ranges of a text of certificates, so that their text is read as them.
use Rattle.std.proofs.Common.{◌≡◌, ℕ, zero, suc, ◌+◌, ◌≤◌, List, [], ◌∷◌, length, map, Option, Some, None, refl, ap, sym, subst, arith}
use Rattle.std.specs.List.{AllByRecursion}
use Rattle.std.specs.List.Sorted.{IsStrictlySortedBy}
use Rattle.std.specs.Ordering.{nat_cmp}
use Rattle.grid_base.specs.declared.TheConstants.{DEPTH_MAX}
use Rattle.mesh_base.specs.declared.PairName.{PairName}
use Rattle.mesh_base.specs.Mesh.{Mesh, IsSound}
use Rattle.mesh_base.specs.Pairs.{name_cmp}
use Rattle.edit_base.specs.Scaffold.{Scaffold, motion_of}
use Rattle.edit_scaffold.specs.Made.{claim_of}
use Rattle.motion_proof.specs.declared.Entry.{Entry}
use Rattle.motion_proof.specs.declared.Tree.{Tree}
use Rattle.motion_proof.specs.declared.Tree.TheVariants.{Leaf, Halves'}
use Rattle.motion_proof.specs.Acceptance.{NamesPair}
use Rattle.motion_proof.specs.Trees.{FitsIn}
use Rattle.motion_proof.proofs.MakeSteps.{by_rule_accepted, made_fits}
use Rattle.log_text.specs.declared.TheConstants.{COUNT_MAX}
use Rattle.log_text.specs.declared.LogLine.{LogLine}
use Rattle.log_read.specs.Laws.{IsFrom}
use Rattle.run_laws.proofs.Names.{pairs_in_range}
use Rattle.proof_text.specs.declared.ProofAt.{ProofAt}
use Rattle.proof_text.specs.Views.{tree_view, entries_view, proof_view, proofs_view}
use Rattle.proof_text.specs.Laws.{Fits, IsEntry, IsProof, AreProofs}
use Rattle.std.proofs.lemmas.Bool.Decides.{nat_tests}
use Rattle.std.proofs.lemmas.List.Elements.{All-from_recursion, recursion_from_All}
use Rattle.std.specs.Prelude.{IfSome, MatchBool, Bool, true, false}
use Rattle.std.specs.declared.cmp.Ordering.TheVariants.{Less}
use Rattle.edit_any.specs.Answered.{asked_of, IsAnswered}
use Rattle.log_text.specs.declared.LogLine.TheVariants as line
use Rattle.log_run.specs.States.{LogState, with_line}
use Rattle.log_run.specs.Fits.{LineFits}
use Rattle.log_run.specs.Laws.{IsValidState}
use Rattle.log_run.specs.Motions.{MotionAt, moved_in, motions_from}
use Rattle.log_run.proofs.Surfaces.{fitting_is_safe}
use Rattle.log_replay.specs.Replay.{Replay, replayed}
use Rattle.proof_text.proofs.Sorted.{nat_less}
use Rattle.track_engine.specs.Kept.{LogIsSafe}
use Rattle.track_prove.specs.Proving.{IsProofOf, AreProofsOf}
use Rattle.log_fits.specs.Fitting.{LinesFit}
use Rattle.log_fits.proofs.Lookup.{AreBetween, Parted, parted, between}
use Rattle.log_fits.proofs.Reached.{step_clear}
use Rattle.log_fits.proofs.Scaffolds.{scaffold_is_sound}

-- ---- one certificate

fits_told : (depth : ℕ) (tree : Tree) → FitsIn depth tree → Fits depth (tree_view tree)
fits_told zero (Leaf n) h = h
fits_told (suc depth) (Leaf n) h = h
fits_told zero (Halves' p a q b) h = h
fits_told (suc depth) (Halves' p a q b) h = (fits_told depth a h.0, fits_told depth b h.1)

entries_in_range : (m : Mesh) → IsSound m → (es : List Entry) → AllByRecursion (NamesPair m) es → AllByRecursion (λ e. FitsIn DEPTH_MAX e.tree) es → AllByRecursion IsEntry (entries_view es)
entries_in_range m sound [] named fit = tt
entries_in_range m sound (e ∷ es) named fit = (
  record { pair = pairs_in_range m sound (record { name = e.pair; corners = named.0.0 }) named.0.1; tree = fits_told DEPTH_MAX e.tree fit.0 },
  entries_in_range m sound es named.1 fit.1,
)

same_pairs : (es : List Entry) → map (λ e. e.pair) es ≡ map (λ e. e.pair) (entries_view es)
same_pairs [] = refl
same_pairs (e ∷ es) = ap (λ (names : List PairName). e.pair ∷ names) (same_pairs es)

proof_in_range : (at : MotionAt) (p : ProofAt) → IsSound at.motion.mesh → IsFrom 1 COUNT_MAX at.line → IsProofOf at p → IsProof (proof_view p)
proof_in_range at p sound line is =
    let m = at.motion.mesh in
    let w = motion_of at.motion in
    let claim = claim_of at.motion.touch in
    let es = p.proof.entries in
    let accepted = by_rule_accepted m w claim sound es is.ruled in
    let named = recursion_from_All (NamesPair m) es accepted.known in
    let fit = recursion_from_All (λ e. FitsIn DEPTH_MAX e.tree) es (made_fits m w claim sound es is.ruled) in
    record {
      line = subst (IsFrom 1 COUNT_MAX) (sym is.line) line;
      entries = All-from_recursion IsEntry (entries_view es) (entries_in_range m sound es named fit);
      rise = subst (IsStrictlySortedBy name_cmp) (same_pairs es) accepted.rise;
    }

-- ---- the meshes of motions

later_of : (has_line : Bool) (A : Type 0) → MatchBool has_line A ⊥ → A
later_of true A h = h
later_of false A h = absurd h

pub moved_is_sound : (s : LogState) (l : LogLine) → IsValidState s → LineFits s l → IfSome (moved_in s.replay l) (λ motion. IsSound motion.mesh)
moved_is_sound s (line.Moved how) valid fits = valid.now.sound
moved_is_sound s (line.Did change) valid fits =
    let later = later_of s.has_line ((s.is_begun ≡ false) × IsAnswered s.replay.mesh change) fits in
    scaffold_is_sound s.replay.mesh change valid.now.sound valid.now.closed (record { what = asked_of change; depth = DEPTH_MAX; answer = later.1 })
moved_is_sound s (line.First version) valid fits = tt
moved_is_sound s (line.Mesh k vertices faces) valid fits = tt
moved_is_sound s (line.Step k) valid fits = tt
moved_is_sound s (line.Solid v) valid fits = tt
moved_is_sound s (line.Hit pair) valid fits = tt
moved_is_sound s (line.Vertices new) valid fits = tt
moved_is_sound s (line.Faces new) valid fits = tt
moved_is_sound s (line.Block ids) valid fits = tt
moved_is_sound s (line.Move shift) valid fits = tt
moved_is_sound s (line.Pass kind) valid fits = tt
moved_is_sound s line.PassFit valid fits = tt
moved_is_sound s (line.No what why) valid fits = tt
moved_is_sound s line.Group valid fits = tt
moved_is_sound s (line.Close kept) valid fits = tt
moved_is_sound s (line.Refused why) valid fits = tt
moved_is_sound s line.End valid fits = tt

-- ---- all of them

each_in_range : (number : ℕ) (s : LogState) (lines : List LogLine) (proofs : List ProofAt) → IsValidState s → LinesFit s lines → LogIsSafe s.replay lines → AreProofsOf (motions_from number s.replay lines) proofs
    → 1 ≤ number → number + length lines ≤ COUNT_MAX + 1 → AllByRecursion IsProof (proofs_view proofs)
each_in_range number s [] [] valid fit safe are first few = tt
each_in_range number s [] (p ∷ proofs) valid fit safe are first few = absurd are
each_in_range number s (l ∷ lines) proofs valid fit safe are first few =
    let next = (fitting_is_safe s l valid fit.0 (step_clear s.replay l safe.0)).1 in
    by_part (λ ps h. each_in_range (suc number) (with_line s l) lines ps next fit.1 safe.1 h (omega arith) (omega (arith, few)))
    (moved_in s.replay l) proofs (moved_is_sound s l valid fit.0) (parted number (motions_from (suc number) (replayed s.replay l) lines) (moved_in s.replay l) proofs are)
  where
    by_part : ((ps : List ProofAt) → AreProofsOf (motions_from (suc number) (replayed s.replay l) lines) ps → AllByRecursion IsProof (proofs_view ps))
        → (o : Option Scaffold) (ps : List ProofAt) → IfSome o (λ motion. IsSound motion.mesh) → Parted number (motions_from (suc number) (replayed s.replay l) lines) o ps → AllByRecursion IsProof (proofs_view ps)
    by_part later None ps sound h = later ps h
    by_part later (Some motion) [] sound h = absurd h
    by_part later (Some motion) (p ∷ ps) sound h = (proof_in_range (record { line = number; motion = motion }) p sound (first, (omega (arith, few))) h.0, later ps h.1)

all_above : (n end : ℕ) (proofs : List ProofAt) → AreBetween (suc n) end proofs → AllByRecursion (λ k. nat_cmp n k ≡ Less) (map (λ p. p.line) (proofs_view proofs))
all_above n end [] h = tt
all_above n end (p ∷ proofs) h = let low = h.0.0 in (nat_less n p.line (grind (arith, nat_tests, low)), all_above n end proofs h.1)

rising : (number : ℕ) (r : Replay) (lines : List LogLine) (proofs : List ProofAt) → AreProofsOf (motions_from number r lines) proofs → IsStrictlySortedBy nat_cmp (map (λ p. p.line) (proofs_view proofs))
unfolding IsStrictlySortedBy
rising number r [] [] are = tt
rising number r [] (p ∷ proofs) are = absurd are
rising number r (l ∷ lines) proofs are = by_part (λ ps h. rising (suc number) (replayed r l) lines ps h) (moved_in r l) proofs (parted number (motions_from (suc number) (replayed r l) lines) (moved_in r l) proofs are)
  where
    by_part : ((ps : List ProofAt) → AreProofsOf (motions_from (suc number) (replayed r l) lines) ps → IsStrictlySortedBy nat_cmp (map (λ p. p.line) (proofs_view ps)))
        → (o : Option Scaffold) (ps : List ProofAt) → Parted number (motions_from (suc number) (replayed r l) lines) o ps → IsStrictlySortedBy nat_cmp (map (λ p. p.line) (proofs_view ps))
    by_part later None ps h = later ps h
    by_part later (Some motion) [] h = absurd h
    by_part later (Some motion) (p ∷ ps) h = (
      subst (λ n. AllByRecursion (λ k. nat_cmp n k ≡ Less) (map (λ q. q.line) (proofs_view ps))) (sym h.0.line) (all_above number (suc number + length lines) ps (between (suc number) (replayed r l) lines ps h.1)),
      later ps h.1,
    )

pub are_in_range : (s : LogState) (lines : List LogLine) (proofs : List ProofAt) → IsValidState s → LinesFit s lines → LogIsSafe s.replay lines → AreProofsOf (motions_from 1 s.replay lines) proofs
    → length lines ≤ COUNT_MAX → AreProofs (proofs_view proofs)
are_in_range s lines proofs valid fit safe are few = record {
  each = All-from_recursion IsProof (proofs_view proofs) (each_in_range 1 s lines proofs valid fit safe are (omega arith) (omega (arith, few)));
  rise = rising 1 s.replay lines proofs are;
}
