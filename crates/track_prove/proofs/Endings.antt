-- A command that judges lines has one ending.
use Rattle.std.proofs.Common.{◌≡◌, ◌⊎◌, inl, inr, ℕ, suc, ◌+◌, List, [], ◌∷◌, ◌++◌, length, Option, Some, None, Result, Ok, Err, refl, ap, sym, ◌∙◌, subst, arith}
use Rattle.std.proofs.lemmas.List.{length-append}
use Rattle.std.proofs.lemmas.Option.{none-some, same_Some}
use Rattle.mesh_base.specs.declared.PairName.{PairName}
use Rattle.mesh_base.specs.Mesh.{Mesh}
use Rattle.edit_base.specs.Scaffold.{Scaffold, motion_of}
use Rattle.edit_scaffold.specs.Made.{claim_of}
use Rattle.motion_proof.specs.declared.Verdict.{Verdict}
use Rattle.motion_proof.specs.declared.Verdict.TheVariants.{Accepted, NoMotion, Stranger, Invalid, Missing}
use Rattle.proof_text.specs.Plain.{PlainProof}
use Rattle.log_text.specs.declared.LogLine.{LogLine}
use Rattle.log_run.specs.Fits.{LineFits}
use Rattle.log_run.specs.Motions.{moved_in}
use Rattle.log_run.specs.States.{LogState, with_line, without_lines}
use Rattle.track_log.specs.declared.refusal.LogRefusal.{LogRefusal}
use Rattle.track_log.specs.declared.refusal.LogRefusal.TheVariants.{Input, Log, Proof, Replay, Motion}
use Rattle.track_log.specs.LogJob.{LogInput}
use Rattle.track_log.specs.Taking.{with_lines}
use Rattle.track_prove.specs.Judged.{Stands, EachStands, IsReached, IsUnfitLine, IsBadLine, EndsJudged}
use Rattle.track_prove.specs.Proving.{MakesVerdict, ProveFinds, ProveEnds}
use Rattle.track_prove.specs.Verifying.{ProofInput, beyond, IsVerdictOn, FoundOf, VerifyFinds, proof_at, VerifyEnds}
use Rattle.track_prove.proofs.Alike.{one_name, one_verdict}

module _ (Finds : ℕ → LogState → LogLine → Verdict → Type 0) (one : (n : ℕ) (s : LogState) (l : LogLine) (u v : Verdict) → Finds n s l u → Finds n s l v → u ≡ v) where
  -- a line that is reached and does not stand
  record IsStopped (s : LogState) (lines : List LogLine) (number : ℕ) (here : LogState) (line : LogLine) : Type 0 where
    reached : IsReached Finds s lines number here line
    stopped : Stands Finds number here line → ⊥

  unfit_stops : (s : LogState) (lines : List LogLine) (n : ℕ) (h : IsUnfitLine Finds s lines n) → IsStopped s lines n h.here h.line
  unfit_stops s lines n h = record { reached = h.reached; stopped = λ stands. h.unfit stands.fits }

  bad_stops : (s : LogState) (lines : List LogLine) (n : ℕ) (v : Verdict) (h : IsBadLine Finds s lines n v) → IsStopped s lines n h.here h.line
  bad_stops s lines n v h = record { reached = h.reached; stopped = λ stands. h.against (one n h.here h.line v Accepted h.found stands.found) }

  -- ---- there is one such line

  record AreSame (xs ys : List LogLine) (x y : LogLine) : Type 0 where
    fronts : xs ≡ ys
    lines : x ≡ y

  stands_at : (n k : ℕ) (s t : LogState) (x y : LogLine) → n ≡ k → s ≡ t → x ≡ y → Stands Finds n s x → Stands Finds k t y
  stands_at n k s t x y p q r h = subst (λ l. Stands Finds k t l) r (subst (λ u. Stands Finds k u x) q (subst (λ i. Stands Finds i s x) p h))

  same_place : (n : ℕ) (s : LogState) (xs ys xrest yrest : List LogLine) (x y : LogLine) → xs ++ x ∷ xrest ≡ ys ++ y ∷ yrest → EachStands Finds n s xs → EachStands Finds n s ys
      → (Stands Finds (n + length xs) (with_lines s xs) x → ⊥) → (Stands Finds (n + length ys) (with_lines s ys) y → ⊥) → AreSame xs ys x y
  same_place n s [] [] xrest yrest x y same each fit stop stops = record { fronts = refl; lines = cc }
  same_place n s [] (b ∷ ys) xrest yrest x y same each fit stop stops =
      let first : b ≡ x = cc in
      let number : n ≡ n + 0 = omega arith in
      absurd (stop (stands_at n (n + 0) s s b x number refl first fit.0))
  same_place n s (a ∷ xs) [] xrest yrest x y same each fit stop stops =
      let first : a ≡ y = cc in
      let number : n ≡ n + 0 = omega arith in
      absurd (stops (stands_at n (n + 0) s s a y number refl first each.0))
  same_place n s (a ∷ xs) (b ∷ ys) xrest yrest x y same each fit stop stops =
      let first : b ≡ a = cc in
      let others : xs ++ x ∷ xrest ≡ ys ++ y ∷ yrest = cc in
      let p : suc n + length xs ≡ n + suc (length xs) = omega arith in
      let q : suc n + length ys ≡ n + suc (length ys) = omega arith in
      let left = subst (λ l. EachStands Finds (suc n) (with_line s l) ys) first fit.1 in
      let r : with_lines (with_line s a) ys ≡ with_lines (with_line s b) ys = ap (λ l. with_lines (with_line s l) ys) (sym first) in
      let later = same_place (suc n) (with_line s a) xs ys xrest yrest x y others each.1 left
      (λ h. stop (stands_at (suc n + length xs) (n + suc (length xs)) (with_lines (with_line s a) xs) (with_lines (with_line s a) xs) x x p refl refl h))
      (λ h. stops (stands_at (suc n + length ys) (n + suc (length ys)) (with_lines (with_line s a) ys) (with_lines (with_line s b) ys) y y q r refl h)) in
      record { fronts = ap (λ l. a ∷ l) later.fronts ∙ ap (λ c. c ∷ ys) (sym first); lines = later.lines }

  record AreOne (m n : ℕ) (s t : LogState) (x y : LogLine) : Type 0 where
    numbers : m ≡ n
    states : s ≡ t
    lines : x ≡ y

  one_stop : (s : LogState) (lines : List LogLine) (m n : ℕ) (here there : LogState) (x y : LogLine) → IsStopped s lines m here x → IsStopped s lines n there y → AreOne m n here there x y
  one_stop s lines m n here there x y h k =
      let a = h.reached in
      let b = k.reached in
      let p : m ≡ 1 + length a.front = omega (arith, a.number_is) in
      let q : n ≡ 1 + length b.front = omega (arith, b.number_is) in
      let same = same_place 1 s a.front b.front a.rest b.rest x y (sym a.split ∙ b.split) a.stand b.stand
      (λ stands. h.stopped (stands_at (1 + length a.front) m (with_lines s a.front) here x x (sym p) (sym a.here_is) refl stands))
      (λ stands. k.stopped (stands_at (1 + length b.front) n (with_lines s b.front) there y y (sym q) (sym b.here_is) refl stands)) in
      record {
        numbers = p ∙ ap (λ l. 1 + length l) same.fronts ∙ sym q;
        states = a.here_is ∙ ap (with_lines s) same.fronts ∙ sym b.here_is;
        lines = same.lines;
      }

  -- ---- where each stands, there is none

  stands_there : (n : ℕ) (s : LogState) (front rest : List LogLine) (line : LogLine) → EachStands Finds n s (front ++ line ∷ rest) → Stands Finds (n + length front) (with_lines s front) line
  stands_there n s [] rest line each =
      let number : n ≡ n + 0 = omega arith in
      stands_at n (n + 0) s s line line number refl refl each.0
  stands_there n s (x ∷ front) rest line each =
      let p : suc n + length front ≡ n + suc (length front) = omega arith in
      let t = with_lines (with_line s x) front in
      stands_at (suc n + length front) (n + suc (length front)) t t line line p refl refl (stands_there (suc n) (with_line s x) front rest line each.1)

  none_stops : (s : LogState) (lines : List LogLine) (n : ℕ) (here : LogState) (line : LogLine) → EachStands Finds 1 s lines → IsStopped s lines n here line → ⊥
  none_stops s lines n here line each h =
      let a = h.reached in
      let p : 1 + length a.front ≡ n = omega (arith, a.number_is) in
      h.stopped (stands_at (1 + length a.front) n (with_lines s a.front) here line line p (sym a.here_is) refl
      (stands_there 1 s a.front a.rest line (subst (EachStands Finds 1 s) a.split each)))

  no_line_reached : (s : LogState) (lines : List LogLine) (n : ℕ) (here : LogState) (line : LogLine) → lines ≡ [] → IsStopped s lines n here line → ⊥
  no_line_reached s lines n here line none h =
      let a = h.reached in
      absurd (omega (arith, ap length none, ap length a.split, length-append a.front (line ∷ a.rest)))

  -- ---- so there is one ending

  module _ (beyond : Option ℕ) (m : Mesh) (lines : List LogLine) where
    abbrev start : LogState
    start = without_lines m

    found_apart : (n k : ℕ) (v : Verdict) (h : IsUnfitLine Finds start lines n) (b : IsBadLine Finds start lines k v) → ⊥
    found_apart n k v h b =
        let same = one_stop start lines n k h.here b.here h.line b.line (unfit_stops start lines n h) (bad_stops start lines k v b) in
        h.unfit (subst (λ l. LineFits h.here l) (sym same.lines) (subst (λ s. LineFits s b.line) (sym same.states) b.fits))

    bad_one : (n k : ℕ) (u v : Verdict) (h : IsBadLine Finds start lines n u) (b : IsBadLine Finds start lines k v) → Motion n u ≡ Motion k v
    bad_one n k u v h b =
        let same = one_stop start lines n k h.here b.here h.line b.line (bad_stops start lines n u h) (bad_stops start lines k v b) in
        let there : Finds k b.here b.line u = subst (λ l. Finds k b.here l u) same.lines (subst (λ s. Finds k s h.line u) same.states (subst (λ i. Finds i h.here h.line u) same.numbers h.found)) in
        ap (λ i. Motion i u) same.numbers ∙ ap (Motion k) (one k b.here b.line u v there b.found)

    unfit_one : (n k : ℕ) → IsUnfitLine Finds start lines n → IsUnfitLine Finds start lines k → Replay n ≡ Replay k
    unfit_one n k h b = ap Replay (one_stop start lines n k h.here b.here h.line b.line (unfit_stops start lines n h) (unfit_stops start lines k b)).numbers

    one_refusal : (why other : LogRefusal) → EndsJudged Finds beyond m lines (Some why) → EndsJudged Finds beyond m lines (Some other) → why ≡ other
    one_refusal (Input why) other h k = absurd h
    one_refusal (Log fault) other h k = absurd h
    one_refusal (Proof fault) other h k = absurd h
    one_refusal (Replay n) (Input why) h k = absurd k
    one_refusal (Replay n) (Log fault) h k = absurd k
    one_refusal (Replay n) (Proof fault) h k = absurd k
    one_refusal (Motion n u) (Input why) h k = absurd k
    one_refusal (Motion n u) (Log fault) h k = absurd k
    one_refusal (Motion n u) (Proof fault) h k = absurd k
    one_refusal (Replay n) (Replay j) (inl h) (inl k) = ap Replay (h.number_is ∙ sym k.number_is)
    one_refusal (Replay n) (Replay j) (inl h) (inr k) = absurd (no_line_reached start lines j k.here k.line h.none (unfit_stops start lines j k))
    one_refusal (Replay n) (Replay j) (inr h) (inl k) = absurd (no_line_reached start lines n h.here h.line k.none (unfit_stops start lines n h))
    one_refusal (Replay n) (Replay j) (inr h) (inr k) = unfit_one n j h k
    one_refusal (Replay n) (Motion j v) (inl h) (inl k) = absurd (no_line_reached start lines j k.here k.line h.none (bad_stops start lines j v k))
    one_refusal (Replay n) (Motion j v) (inl h) (inr k) = absurd (k.all.some h.none)
    one_refusal (Replay n) (Motion j v) (inr h) (inl k) = absurd (found_apart n j v h k)
    one_refusal (Replay n) (Motion j v) (inr h) (inr k) = absurd (none_stops start lines n h.here h.line k.all.each (unfit_stops start lines n h))
    one_refusal (Motion n u) (Replay j) (inl h) (inl k) = absurd (no_line_reached start lines n h.here h.line k.none (bad_stops start lines n u h))
    one_refusal (Motion n u) (Replay j) (inr h) (inl k) = absurd (h.all.some k.none)
    one_refusal (Motion n u) (Replay j) (inl h) (inr k) = absurd (found_apart j n u k h)
    one_refusal (Motion n u) (Replay j) (inr h) (inr k) = absurd (none_stops start lines j k.here k.line h.all.each (unfit_stops start lines j k))
    one_refusal (Motion n u) (Motion j v) (inl h) (inl k) = bad_one n j u v h k
    one_refusal (Motion n u) (Motion j v) (inl h) (inr k) = absurd (none_stops start lines n h.here h.line k.all.each (bad_stops start lines n u h))
    one_refusal (Motion n u) (Motion j v) (inr h) (inl k) = absurd (none_stops start lines j k.here k.line h.all.each (bad_stops start lines j v k))
    one_refusal (Motion n u) (Motion j v) (inr h) (inr k) =
        ap (λ i. Motion i u) (same_Some n j (sym h.number_is ∙ k.number_is)) ∙ ap (Motion j) (h.verdict_is ∙ sym k.verdict_is)

    well_or_not : (why : LogRefusal) → EndsJudged Finds beyond m lines None → EndsJudged Finds beyond m lines (Some why) → ⊥
    well_or_not (Input why) h k = k
    well_or_not (Log fault) h k = k
    well_or_not (Proof fault) h k = k
    well_or_not (Replay n) h (inl k) = h.0.some k.none
    well_or_not (Replay n) h (inr k) = none_stops start lines n k.here k.line h.0.each (unfit_stops start lines n k)
    well_or_not (Motion n v) h (inl k) = none_stops start lines n k.here k.line h.0.each (bad_stops start lines n v k)
    well_or_not (Motion n v) h (inr k) = none-some n (sym h.1 ∙ k.number_is)

    pub one_judged : (a b : Option LogRefusal) → EndsJudged Finds beyond m lines a → EndsJudged Finds beyond m lines b → a ≡ b
    one_judged None None h k = refl
    one_judged None (Some why) h k = absurd (well_or_not why h k)
    one_judged (Some why) None h k = absurd (well_or_not why k h)
    one_judged (Some why) (Some other) h k = ap Some (one_refusal why other h k)

-- ---- what is found is one

first_failing_one : (motion : Scaffold) (n o : PairName) → MakesVerdict (Some motion) (Missing n) → MakesVerdict (Some motion) (Missing o) → n ≡ o
first_failing_one motion n o h k = one_name n o (λ less. h.failing.2 (k.before n less h.failing.0 h.failing.1)) (λ less. k.failing.2 (h.before o less k.failing.0 k.failing.1))

passing_or_not : (motion : Scaffold) (n : PairName) → MakesVerdict (Some motion) Accepted → MakesVerdict (Some motion) (Missing n) → ⊥
passing_or_not motion n h k = k.failing.2 (h (record { name = n; corners = k.failing.0 }) k.failing.1)

made_one : (motion : Option Scaffold) (u v : Verdict) → MakesVerdict motion u → MakesVerdict motion v → u ≡ v
made_one None Accepted Accepted h k = refl
made_one (Some motion) Accepted Accepted h k = refl
made_one (Some motion) Accepted (Missing o) h k = absurd (passing_or_not motion o h k)
made_one (Some motion) (Missing n) Accepted h k = absurd (passing_or_not motion n k h)
made_one (Some motion) (Missing n) (Missing o) h k = ap Missing (first_failing_one motion n o h k)
made_one None NoMotion v h k = absurd h
made_one None (Stranger n) v h k = absurd h
made_one None (Invalid n) v h k = absurd h
made_one None (Missing n) v h k = absurd h
made_one None Accepted NoMotion h k = absurd k
made_one None Accepted (Stranger o) h k = absurd k
made_one None Accepted (Invalid o) h k = absurd k
made_one None Accepted (Missing o) h k = absurd k
made_one (Some motion) NoMotion v h k = absurd h
made_one (Some motion) (Stranger n) v h k = absurd h
made_one (Some motion) (Invalid n) v h k = absurd h
made_one (Some motion) Accepted NoMotion h k = absurd k
made_one (Some motion) Accepted (Stranger o) h k = absurd k
made_one (Some motion) Accepted (Invalid o) h k = absurd k
made_one (Some motion) (Missing n) NoMotion h k = absurd k
made_one (Some motion) (Missing n) (Stranger o) h k = absurd k
made_one (Some motion) (Missing n) (Invalid o) h k = absurd k

-- what is found of a certificate of the claim
record IsOnEntries (motion : Scaffold) (p : PlainProof) (v : Verdict) : Type 0 where
  claim : p.claim ≡ claim_of motion.touch
  on : IsVerdictOn motion p.entries v

found_parts : (motion : Scaffold) (p : PlainProof) (v : Verdict) → FoundOf (Some motion) (Some p) v → ((v ≡ NoMotion) × (p.claim ≡ claim_of motion.touch → ⊥)) ⊎ IsOnEntries motion p v
found_parts motion p NoMotion h = inl (refl, h)
found_parts motion p Accepted h = inr (record { claim = h.0; on = h.1 })
found_parts motion p (Stranger n) h = inr (record { claim = h.0; on = h.1 })
found_parts motion p (Invalid n) h = inr (record { claim = h.0; on = h.1 })
found_parts motion p (Missing n) h = inr (record { claim = h.0; on = h.1 })

found_on : (motion : Scaffold) (p : PlainProof) (u v : Verdict) → ((u ≡ NoMotion) × (p.claim ≡ claim_of motion.touch → ⊥)) ⊎ IsOnEntries motion p u → ((v ≡ NoMotion) × (p.claim ≡ claim_of motion.touch → ⊥)) ⊎ IsOnEntries motion p v → u ≡ v
found_on motion p u v (inl h) (inl k) = h.0 ∙ sym k.0
found_on motion p u v (inl h) (inr k) = absurd (h.1 k.claim)
found_on motion p u v (inr h) (inl k) = absurd (k.1 h.claim)
found_on motion p u v (inr h) (inr k) =
    one_verdict motion.mesh (motion_of motion) (claim_of motion.touch) h.on.entries k.on.entries u v (h.on.told_are ∙ sym k.on.told_are) h.on.verdict_is k.on.verdict_is

found_one : (motion : Option Scaffold) (p : Option PlainProof) (u v : Verdict) → FoundOf motion p u → FoundOf motion p v → u ≡ v
found_one None None u v h k = h ∙ sym k
found_one None (Some p) u v h k = h ∙ sym k
found_one (Some motion) None u v h k = h ∙ sym k
found_one (Some motion) (Some p) u v h k = found_on motion p u v (found_parts motion p u h) (found_parts motion p v k)

-- ---- so each command has one ending

pub one_proved : (input : Result LogInput LogRefusal) (a b : Option LogRefusal) (t u : List ℕ) → ProveEnds input a t → ProveEnds input b u → a ≡ b
one_proved (Err why) a b t u h k = h.0 ∙ sym k.0
one_proved (Ok input) a b t u h k = one_judged ProveFinds (λ n s l x y p q. made_one (moved_in s.replay l) x y p q) None input.mesh input.lines a b h.0 k.0

pub one_verified : (input : Result ProofInput LogRefusal) (a b : Option LogRefusal) (t u : List ℕ) → VerifyEnds input a t → VerifyEnds input b u → a ≡ b
one_verified (Err why) a b t u h k = h.0 ∙ sym k.0
one_verified (Ok input) a b t u h k =
    one_judged (VerifyFinds input.proofs) (λ n s l x y p q. found_one (moved_in s.replay l) (proof_at input.proofs n) x y p q) (beyond (length input.log.lines) input.proofs) input.log.mesh input.log.lines a b h.0 k.0
