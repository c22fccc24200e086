-- The motions of lines, one line more, and certificates of them.
use Rattle.std.proofs.Common.{◌≡◌, ℕ, suc, ◌+◌, List, [], ◌∷◌, ◌++◌, append_assoc, append-nil, length, Option, Some, None, refl, ap, sym, ◌∙◌, subst, arith}
use Rattle.edit_base.specs.Scaffold.{Scaffold}
use Rattle.proof_text.specs.declared.ProofAt.{ProofAt}
use Rattle.log_text.specs.declared.LogLine.{LogLine}
use Rattle.log_replay.specs.Replay.{Replay, replayed, after}
use Rattle.log_run.specs.Motions.{MotionAt, moved_in, one_motion, motions_from}
use Rattle.track_prove.specs.Proving.{IsProofOf, AreProofsOf}
use Rattle.track_prove.specs.Taking.{AddsProof}

pub motions_one_more : (number : ℕ) (r : Replay) (front : List LogLine) (line : LogLine) → motions_from number r (front ++ line ∷ []) ≡ motions_from number r front ++ one_motion (number + length front) (moved_in (after r front) line)
motions_one_more number r [] line =
    let same : number ≡ number + 0 = omega arith in
    append-nil (one_motion number (moved_in r line)) ∙ ap (λ n. one_motion n (moved_in r line)) same
motions_one_more number r (x ∷ front) line =
    let same : suc number + length front ≡ number + suc (length front) = omega arith in
    let here = one_motion number (moved_in r x) in
    let rest = motions_from (suc number) (replayed r x) front in
    let last = moved_in (after (replayed r x) front) line in
    ap (λ l. here ++ l) (motions_one_more (suc number) (replayed r x) front line ∙ ap (λ n. rest ++ one_motion n last) same)
    ∙ sym (append_assoc here rest (one_motion (number + suc (length front)) last))

proofs_then : (motions : List MotionAt) (proofs : List ProofAt) (at : MotionAt) (p : ProofAt) → AreProofsOf motions proofs → IsProofOf at p → AreProofsOf (motions ++ at ∷ []) (proofs ++ p ∷ [])
proofs_then [] [] at p are is = (is, tt)
proofs_then (a ∷ motions) (q ∷ proofs) at p are is = (are.0, proofs_then motions proofs at p are.1 is)
proofs_then [] (q ∷ proofs) at p are is = absurd are
proofs_then (a ∷ motions) [] at p are is = absurd are

pub proofs_with : (motions : List MotionAt) (old new : List ProofAt) (number : ℕ) (motion : Option Scaffold) → AreProofsOf motions old → AddsProof number motion old new → AreProofsOf (motions ++ one_motion number motion) new
proofs_with motions old new number None are adds =
    subst (λ l. AreProofsOf l new) (sym (append-nil motions)) (subst (AreProofsOf motions) (sym adds) are)
proofs_with motions old new number (Some motion) are adds =
    let at : MotionAt = record { line = number; motion = motion } in
    subst (AreProofsOf (motions ++ at ∷ [])) (sym adds.1.1) (proofs_then motions old at adds.0 are adds.1.0)
