-- A replay of lines has one ending.
use Rattle.std.proofs.Common.{◌≡◌, inl, inr, ℕ, List, [], ◌∷◌, ◌++◌, length, Option, Some, None, Result, Ok, Err, refl, ap, sym, ◌∙◌, subst, arith}
use Rattle.std.proofs.lemmas.List.{length-append}
use Rattle.log_text.specs.declared.LogLine.{LogLine}
use Rattle.log_run.specs.States.{LogState, with_line, without_lines}
use Rattle.track_log.specs.declared.refusal.LogRefusal.{LogRefusal}
use Rattle.track_log.specs.declared.refusal.LogRefusal.TheVariants.{Input, Log, Proof, Replay, Motion}
use Rattle.track_log.specs.LogJob.{LogInput}
use Rattle.track_log.specs.Taking.{with_lines, EachFits, IsFirstUnfit, IsUnfitAt, AllFit}
use Rattle.track_log.specs.Ending.{EndsBy}

module _ (Fits : LogState → LogLine → Type 0) where
  -- lines that fit, and one more where they lead
  pub fits_one_more : (s : LogState) (front : List LogLine) (line : LogLine) → EachFits Fits s front → Fits (with_lines s front) line → EachFits Fits s (front ++ line ∷ [])
  fits_one_more s [] line each fits = (fits, tt)
  fits_one_more s (x ∷ front) line each fits = (each.0, fits_one_more (with_line s x) front line each.1 fits)

  -- Lines that fit stand before the first line that does not.
  pub before_unfit : (s : LogState) (front left first rest : List LogLine) (line : LogLine) → EachFits Fits s front → front ++ left ≡ first ++ line ∷ rest → EachFits Fits s first → (Fits (with_lines s first) line → ⊥)
      → (more : List LogLine) × (first ≡ front ++ more)
  before_unfit s [] left first rest line each same fit unfit = (first, refl)
  before_unfit s (x ∷ front) left [] rest line each same fit unfit =
      let here : x ≡ line = cc in
      absurd (unfit (subst (Fits s) here each.0))
  before_unfit s (x ∷ front) left (y ∷ first) rest line each same fit unfit =
      let here : x ≡ y = cc in
      let behind : front ++ left ≡ first ++ line ∷ rest = cc in
      let P : LogLine → Type 0 = λ z. EachFits Fits (with_line s z) front in
      let later = before_unfit (with_line s y) front left first rest line (subst P here each.1) behind fit.1 unfit in
      (later.0, ap (λ z. z ∷ first) (sym here) ∙ ap (λ l. x ∷ l) later.1)

  -- where each fits, none is the first that does not
  pub all_fit : (s : LogState) (lines : List LogLine) (number : ℕ) → EachFits Fits s lines → IsFirstUnfit Fits s lines number → ⊥
  all_fit s lines number each h =
      let more = before_unfit s lines [] h.front h.rest h.line each (append_none lines ∙ h.split) h.fit h.unfit in
      let same : length lines ≡ length (h.front ++ h.line ∷ h.rest) = ap length h.split in
      let longer : length h.front ≡ length (lines ++ more.0) = ap length more.1 in
      absurd (omega (arith, same, longer, length-append h.front (h.line ∷ h.rest), length-append lines more.0))
    where
      append_none : (xs : List LogLine) → xs ++ [] ≡ xs
      append_none [] = refl
      append_none (x ∷ xs) = ap (λ l. x ∷ l) (append_none xs)

  -- the first line that does not fit is one
  pub first_unfit : (s : LogState) (lines : List LogLine) (m n : ℕ) → IsFirstUnfit Fits s lines m → IsFirstUnfit Fits s lines n → m ≡ n
  first_unfit s lines m n h k =
      let one = before_unfit s h.front (h.line ∷ h.rest) k.front k.rest k.line h.fit (sym h.split ∙ k.split) k.fit k.unfit in
      let two = before_unfit s k.front (k.line ∷ k.rest) h.front h.rest h.line k.fit (sym k.split ∙ h.split) h.fit h.unfit in
      omega (arith, h.number_is, k.number_is, ap length one.1, ap length two.1, length-append h.front one.0, length-append k.front two.0)

  no_line : (lines front rest : List LogLine) (line : LogLine) → lines ≡ [] → lines ≡ front ++ line ∷ rest → ⊥
  no_line lines front rest line none split = absurd (omega (arith, ap length none, ap length split, length-append front (line ∷ rest)))

  pub unfit_at : (s : LogState) (lines : List LogLine) (m n : ℕ) → IsUnfitAt Fits s lines m → IsUnfitAt Fits s lines n → m ≡ n
  unfit_at s lines m n (inl h) (inl k) = h.number_is ∙ sym k.number_is
  unfit_at s lines m n (inl h) (inr k) = absurd (no_line lines k.front k.rest k.line h.none k.split)
  unfit_at s lines m n (inr h) (inl k) = absurd (no_line lines h.front h.rest h.line k.none h.split)
  unfit_at s lines m n (inr h) (inr k) = first_unfit s lines m n h k

  pub fit_or_not : (s : LogState) (lines : List LogLine) (n : ℕ) → AllFit Fits s lines → IsUnfitAt Fits s lines n → ⊥
  fit_or_not s lines n all (inl h) = all.some h.none
  fit_or_not s lines n all (inr h) = all_fit s lines n all.each h

  -- ---- so a replay has one ending
  of_input : (input : LogInput) (a b : Option LogRefusal) → EndsBy Fits (Ok input) a → EndsBy Fits (Ok input) b → a ≡ b
  of_input input None None h k = refl
  of_input input None (Some (Replay n)) h k = absurd (fit_or_not (without_lines input.mesh) input.lines n h k)
  of_input input None (Some (Input why)) h k = absurd k
  of_input input None (Some (Log fault)) h k = absurd k
  of_input input None (Some (Proof fault)) h k = absurd k
  of_input input None (Some (Motion n verdict)) h k = absurd k
  of_input input (Some (Replay n)) None h k = absurd (fit_or_not (without_lines input.mesh) input.lines n k h)
  of_input input (Some (Replay m)) (Some (Replay n)) h k = ap (λ n. Some (Replay n)) (unfit_at (without_lines input.mesh) input.lines m n h k)
  of_input input (Some (Replay m)) (Some (Input why)) h k = absurd k
  of_input input (Some (Replay m)) (Some (Log fault)) h k = absurd k
  of_input input (Some (Replay m)) (Some (Proof fault)) h k = absurd k
  of_input input (Some (Replay m)) (Some (Motion n verdict)) h k = absurd k
  of_input input (Some (Input why)) b h k = absurd h
  of_input input (Some (Log fault)) b h k = absurd h
  of_input input (Some (Proof fault)) b h k = absurd h
  of_input input (Some (Motion n verdict)) b h k = absurd h

  pub one_ending : (input : Result LogInput LogRefusal) (a b : Option LogRefusal) → EndsBy Fits input a → EndsBy Fits input b → a ≡ b
  one_ending (Err why) a b h k = h ∙ sym k
  one_ending (Ok input) a b h k = of_input input a b h k
