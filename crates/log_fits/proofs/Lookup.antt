-- The certificates of a log's motions, found by the numbers of its lines.
use Rattle.std.specs.Prelude.{⊤}
use Rattle.std.proofs.Common.{◌≡◌, ℕ, suc, ◌+◌, ◌≤◌, ◌<◌, ◌==◌, Bool, true, false, cond, List, [], ◌∷◌, ◌++◌, length, nat_lt, Option, Some, None, refl, ap, sym, ◌∙◌, subst, arith}
use Rattle.std.specs.List.{find, AllByRecursion}
use Rattle.std.proofs.lemmas.Bool.Decides.{nat_tests}
use Rattle.edit_base.specs.Scaffold.{Scaffold}
use Rattle.proof_text.specs.declared.ProofAt.{ProofAt}
use Rattle.proof_text.specs.Plain.{PlainProof}
use Rattle.proof_text.specs.Views.{proof_view, proofs_view}
use Rattle.log_text.specs.declared.LogLine.{LogLine}
use Rattle.log_replay.specs.Replay.{Replay, replayed}
use Rattle.log_run.specs.States.{LogState, with_line}
use Rattle.log_run.specs.Motions.{MotionAt, moved_in, one_motion, motions_from}
use Rattle.track_log.specs.Taking.{with_lines}
use Rattle.track_prove.specs.Proving.{IsProofOf, AreProofsOf}
use Rattle.track_prove.specs.Verifying.{proof_at, beyond}

-- ---- one line

-- the certificate of the motion of a line, if there is one, and those of the lines behind it
abbrev pub Parted : ℕ → List MotionAt → Option Scaffold → List ProofAt → Type 0
Parted number later None proofs = AreProofsOf later proofs
Parted number later (Some motion) [] = ⊥
Parted number later (Some motion) (p ∷ proofs) = IsProofOf (record { line = number; motion = motion }) p × AreProofsOf later proofs

pub parted : (number : ℕ) (later : List MotionAt) (o : Option Scaffold) (proofs : List ProofAt) → AreProofsOf (one_motion number o ++ later) proofs → Parted number later o proofs
parted number later None proofs are = are
parted number later (Some motion) [] are = are
parted number later (Some motion) (p ∷ proofs) are = are

-- ---- the numbers of certificates

-- each certificate stands at this number or behind it, and before that one
abbrev pub AreBetween : ℕ → ℕ → List ProofAt → Type 0
AreBetween low end proofs = AllByRecursion (λ p. (low ≤ p.line) × (p.line < end)) proofs

wider : (low lower end : ℕ) (proofs : List ProofAt) → lower ≤ low → AreBetween low end proofs → AreBetween lower end proofs
wider low lower end [] less h = tt
wider low lower end (p ∷ proofs) less h = let a = h.0.0 in ((omega (arith, less, a), h.0.1), wider low lower end proofs less h.1)

pub between : (number : ℕ) (r : Replay) (lines : List LogLine) (proofs : List ProofAt) → AreProofsOf (motions_from number r lines) proofs → AreBetween number (number + length lines) proofs
between number r [] [] are = tt
between number r [] (p ∷ proofs) are = absurd are
between number r (l ∷ lines) proofs are = by_part (λ ps h. between (suc number) (replayed r l) lines ps h) (moved_in r l) proofs (parted number (motions_from (suc number) (replayed r l) lines) (moved_in r l) proofs are)
  where
    length_on : suc number + length lines ≡ number + length (l ∷ lines)
    length_on = omega arith

    behind : (ps : List ProofAt) → AreBetween (suc number) (suc number + length lines) ps → AreBetween number (number + length (l ∷ lines)) ps
    behind ps h = wider (suc number) number (number + length (l ∷ lines)) ps (omega arith) (subst (λ n. AreBetween (suc number) n ps) length_on h)

    by_part : ((ps : List ProofAt) → AreProofsOf (motions_from (suc number) (replayed r l) lines) ps → AreBetween (suc number) (suc number + length lines) ps)
        → (o : Option Scaffold) (ps : List ProofAt) → Parted number (motions_from (suc number) (replayed r l) lines) o ps → AreBetween number (number + length (l ∷ lines)) ps
    by_part later None ps h = behind ps (later ps h)
    by_part later (Some motion) [] h = absurd h
    by_part later (Some motion) (p ∷ ps) h = let at = h.0.line in ((omega (arith, at), omega (arith, at)), behind ps (later ps h.1))

-- ---- what is found

pass_over : (P : PlainProof → Bool) (p : PlainProof) (ps : List PlainProof) → P p ≡ false → find P (p ∷ ps) ≡ find P ps
pass_over P p ps e = ap (λ b. cond b (Some p) (find P ps)) e

found_first : (P : PlainProof → Bool) (p : PlainProof) (ps : List PlainProof) → P p ≡ true → find P (p ∷ ps) ≡ Some p
found_first P p ps e = ap (λ b. cond b (Some p) (find P ps)) e

differ : (m n : ℕ) → n < m → (m == n) ≡ false
differ m n less = grind (arith, nat_tests, less)

differ_above : (m n : ℕ) → m < n → (m == n) ≡ false
differ_above m n less = grind (arith, nat_tests, less)

same : (m n : ℕ) → m ≡ n → (m == n) ≡ true
same m n e = grind (arith, nat_tests, e)

not_above : (count n : ℕ) → n < suc count → nat_lt count n ≡ false
not_above count n less = grind (arith, nat_tests, less)

-- none stands at a number before them all
none_before : (number end : ℕ) (proofs : List ProofAt) → AreBetween (suc number) end proofs → proof_at (proofs_view proofs) number ≡ None
none_before number end [] h = refl
none_before number end (p ∷ proofs) h =
    let low = h.0.0 in
    pass_over (λ q. q.line == number) (proof_view p) (proofs_view proofs) (differ p.line number (omega (arith, low))) ∙ none_before number end proofs h.1

-- none stands behind the last line
pub none_beyond : (low count : ℕ) (proofs : List ProofAt) → AreBetween low (suc count) proofs → beyond count (proofs_view proofs) ≡ None
none_beyond low count [] h = refl
none_beyond low count (p ∷ proofs) h =
    ap (λ (o : Option PlainProof). from_found o) (pass_over (λ q. nat_lt count q.line) (proof_view p) (proofs_view proofs) (not_above count p.line h.0.1)) ∙ none_beyond low count proofs h.1
  where
    from_found : Option PlainProof → Option ℕ
    from_found None = None
    from_found (Some q) = Some q.line

-- What stands in the proof at the number of a line: the certificate of its motion, if it has one.
abbrev pub IsThere : ℕ → Option Scaffold → Option PlainProof → Type 0
IsThere number None None = ⊤
IsThere number (Some motion) (Some q) = (p : ProofAt) × IsProofOf (record { line = number; motion = motion }) p × (q ≡ proof_view p)
IsThere number _ _ = ⊥

here : (number : ℕ) (r : Replay) (l : LogLine) (lines : List LogLine) (proofs : List ProofAt) → AreProofsOf (motions_from number r (l ∷ lines)) proofs → IsThere number (moved_in r l) (proof_at (proofs_view proofs) number)
here number r l lines proofs are = by_part (moved_in r l) proofs (parted number (motions_from (suc number) (replayed r l) lines) (moved_in r l) proofs are)
  where
    by_part : (o : Option Scaffold) (ps : List ProofAt) → Parted number (motions_from (suc number) (replayed r l) lines) o ps → IsThere number o (proof_at (proofs_view ps) number)
    by_part None ps h = subst (IsThere number None) (sym (none_before number (suc number + length lines) ps (between (suc number) (replayed r l) lines ps h))) tt
    by_part (Some motion) [] h = absurd h
    by_part (Some motion) (p ∷ ps) h =
        subst (IsThere number (Some motion)) (sym (found_first (λ q. q.line == number) (proof_view p) (proofs_view ps) (same p.line number h.0.line))) (p, h.0, refl)

-- at the number of any line
pub found_at : (number : ℕ) (s : LogState) (lines front rest : List LogLine) (l : LogLine) (proofs : List ProofAt) → AreProofsOf (motions_from number s.replay lines) proofs → lines ≡ front ++ l ∷ rest
    → IsThere (number + length front) (moved_in (with_lines s front).replay l) (proof_at (proofs_view proofs) (number + length front))
found_at number s [] [] rest l proofs are split = absurd cc
found_at number s [] (x ∷ front) rest l proofs are split = absurd cc
found_at number s (y ∷ lines) [] rest l proofs are split =
    let there : y ≡ l = cc in
    let P : LogLine → Type 0 = λ z. IsThere number (moved_in s.replay z) (proof_at (proofs_view proofs) number) in
    let Q : ℕ → Type 0 = λ n. IsThere n (moved_in s.replay l) (proof_at (proofs_view proofs) n) in
    subst Q (omega arith) (subst P there (here number s.replay y lines proofs are))
found_at number s (y ∷ lines) (x ∷ front) rest l proofs are split =
    let there : y ≡ x = cc in
    let behind : lines ≡ front ++ l ∷ rest = cc in
    let Q : ℕ → Type 0 = λ n. IsThere n (moved_in (with_lines s (x ∷ front)).replay l) (proof_at (proofs_view proofs) n) in
    subst Q (omega arith) (by_part (λ ps h split. found_at (suc number) (with_line s y) lines front rest l ps h split) (moved_in s.replay y) proofs (parted number (motions_from (suc number) (replayed s.replay y) lines) (moved_in s.replay y) proofs are) there behind)
  where
    deeper : ℕ
    deeper = suc number + length front

    Goal : List ProofAt → Type 0
    Goal ps = IsThere deeper (moved_in (with_lines s (x ∷ front)).replay l) (proof_at (proofs_view ps) deeper)

    Later : Type 0
    Later = (ps : List ProofAt) → AreProofsOf (motions_from (suc number) (replayed s.replay y) lines) ps → lines ≡ front ++ l ∷ rest → IsThere deeper (moved_in (with_lines (with_line s y) front).replay l) (proof_at (proofs_view ps) deeper)

    on : (ps : List ProofAt) → IsThere deeper (moved_in (with_lines (with_line s y) front).replay l) (proof_at (proofs_view ps) deeper) → y ≡ x → Goal ps
    on ps found there = subst (λ z. IsThere deeper (moved_in (with_lines (with_line s z) front).replay l) (proof_at (proofs_view ps) deeper)) there found

    by_part : Later → (o : Option Scaffold) (ps : List ProofAt) → Parted number (motions_from (suc number) (replayed s.replay y) lines) o ps → y ≡ x → lines ≡ front ++ l ∷ rest → Goal ps
    by_part later None ps h there behind = on ps (later ps h behind) there
    by_part later (Some motion) [] h there behind = absurd h
    by_part later (Some motion) (p ∷ ps) h there behind =
        let at = h.0.line in
        let over : proof_at (proofs_view (p ∷ ps)) deeper ≡ proof_at (proofs_view ps) deeper
        = pass_over (λ q. q.line == deeper) (proof_view p) (proofs_view ps) (differ_above p.line deeper (omega (arith, at))) in
        subst (IsThere deeper (moved_in (with_lines s (x ∷ front)).replay l)) (sym over) (on ps (later ps h.1 behind) there)
