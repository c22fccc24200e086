-- What is written of the lines of a log so far, and how it ends.
use Rattle.std.proofs.Common.{◌≡◌, ◌⊎◌, inl, inr, ℕ, zero, suc, ◌+◌, ◌-◌, ◌<◌, ◌≤◌, Bool, true, false, List, [], ◌∷◌, ◌++◌, append-nil, append_assoc, length, take, Option, Some, None, Result, Ok, Err, IfOk, refl, ap, sym, ◌∙◌, subst, arith}
use Rattle.std.proofs.lemmas.List.{length-append}
use Rattle.std.proofs.lemmas.List.Concat.{flat_map-append}
use Rattle.mesh_base.specs.Mesh.{Mesh}
use Rattle.log_text.specs.declared.LogLine.{LogLine}
use Rattle.log_replay.specs.Replay.{Replay, replayed, after, at_mesh}
use Rattle.log_run.specs.Laws.{IsValidState}
use Rattle.log_run.specs.States.{LogState, with_line, without_lines}
use Rattle.outside_io.specs.declared.stop.Stop.{Stop}
use Rattle.outside_io.specs.declared.stop.Stop.TheVariants.{NoMemory}
use Rattle.outside_io.specs.Outside.{Around, StoresNothing, written_of}
use Rattle.outside_io.specs.Sink.{appended, AppendsPart}
use Rattle.outside_io.proofs.Outsides.{nothing_done, nothing_then, nothing_whole, nothing_stopped, nothing_unremembered}
use Rattle.outside_io.proofs.Written.{appended-nil, appended-appended}
use Rattle.track_log.specs.declared.refusal.LogRefusal.{LogRefusal}
use Rattle.track_log.specs.declared.refusal.LogRefusal.TheVariants as log
use Rattle.track_log.specs.LogJob.{LogInput}
use Rattle.track_log.specs.Taking.{FitsTested, with_lines, EachFits, IsFirstUnfit, IsUnfitAt, AllFit}
use Rattle.track_log.specs.Ending.{EndsBy}
use Rattle.track_log.specs.Refused.{refused_text}
use Rattle.track_log.specs.Telling.{Tells}
use Rattle.track_log.proofs.ToldTexts.{refused_some}
use Rattle.track_log.proofs.Endings.{fits_one_more, before_unfit, one_ending}
use Rattle.track_measure.specs.declared.measures.MeshShape.{MeshShape}
use Rattle.track_measure.specs.declared.measures.MeasureLine.{MeasureLine}
use Rattle.track_measure.specs.declared.measures.MeasureLine.TheVariants.{End}
use Rattle.track_measure.specs.MeasureLines.{shape_of, measure_of_line, one_told, lines_from}
use Rattle.track_measure.specs.Texts.{text_of, text_of_all}
use Rattle.track_measure.specs.Measured.{line_text, MeasuresLine, MeasuresLines}
use Rattle.track_measure.specs.Headline.{text_told, IsToldOf}
use Rattle.track_measure.proofs.LinesTold.{measure_some}

-- what a line told from where nothing has changed
pub told_since : (number : ℕ) (s : LogState) (line : LogLine) (old mid new : Around) (result : Result Bool Stop) → mid ≡ old → MeasuresLine number s line mid new result → MeasuresLine number s line old new result
told_since number s line old mid new result same measured = subst (λ w. MeasuresLine number s line w new result) same measured

-- ---- lists

take_front : (xs rest : List ℕ) → take (length xs) (xs ++ rest) ≡ xs
take_front [] rest = refl
take_front (x ∷ xs) rest = ap (λ l. x ∷ l) (take_front xs rest)

take_lines : (xs rest : List LogLine) → take (length xs) (xs ++ rest) ≡ xs
take_lines [] rest = refl
take_lines (x ∷ xs) rest = ap (λ l. x ∷ l) (take_lines xs rest)

take_less : (n : ℕ) (t rest : List ℕ) → n < length t → take n (t ++ rest) ≡ take n t
take_less n [] rest lt = absurd (omega (arith, lt))
take_less zero (x ∷ t) rest lt = refl
take_less (suc n) (x ∷ t) rest lt = ap (λ l. x ∷ l) (take_less n t rest (omega (arith, lt)))

take_within : (n : ℕ) (xs t rest : List ℕ) → n < length t → take (length xs + n) (xs ++ (t ++ rest)) ≡ xs ++ take n t
take_within n [] t rest lt = let e : 0 + n ≡ n = omega arith in rw e (take_less n t rest lt)
take_within n (x ∷ xs) t rest lt =
    let e : suc (length xs) + n ≡ suc (length xs + n) = omega arith in
    rw e (ap (λ (l : List ℕ). x ∷ l) (take_within n xs t rest lt))

-- a part of a text that comes behind another is a part of both and of more
part_of : (old mid new : Option (List ℕ)) (xs t rest whole : List ℕ) → whole ≡ xs ++ (t ++ rest) → mid ≡ appended old xs → AppendsPart mid new t → AppendsPart old new whole
part_of old mid new xs t rest whole is p part = (
  length xs + part.0,
  omega (arith, part.1, ap length is, length-append xs (t ++ rest), length-append t rest),
  part.2 ∙ ap (λ w. appended w (take part.0 t)) p ∙ appended-appended old xs (take part.0 t)
      ∙ ap (appended old) (sym (ap (take (length xs + part.0)) is ∙ take_within part.0 xs t rest part.1)),
)

-- a text is a part of itself and more
part_before : (old new : Option (List ℕ)) (xs rest whole : List ℕ) → whole ≡ xs ++ rest → 0 < length rest → new ≡ appended old xs → AppendsPart old new whole
part_before old new xs rest whole is some p = (
  length xs,
  omega (arith, some, ap length is, length-append xs rest),
  p ∙ ap (appended old) (sym (ap (take (length xs)) is ∙ take_front xs rest)),
)

-- ---- what lines tell, one after another

lines_then : (k : ℕ) (r : Replay) (xs ys : List LogLine) → lines_from k r (xs ++ ys) ≡ lines_from k r xs ++ lines_from (k + length xs) (after r xs) ys
lines_then k r [] ys = let same : k ≡ k + 0 = omega arith in ap (λ n. lines_from n r ys) same
lines_then k r (x ∷ xs) ys =
    let same : k + 1 + length xs ≡ k + suc (length xs) = omega arith in
    let here = one_told (measure_of_line k (shape_of r.mesh) (replayed r x).mesh x) in
    ap (λ l. here ++ l) (lines_then (k + 1) (replayed r x) xs ys ∙ ap (λ n. lines_from (k + 1) (replayed r x) xs ++ lines_from n (after (replayed r x) xs) ys) same)
    ∙ sym (append_assoc here (lines_from (k + 1) (replayed r x) xs) (lines_from (k + suc (length xs)) (after (replayed r x) xs) ys))

replay_with : (s : LogState) (lines : List LogLine) → (with_lines s lines).replay ≡ after s.replay lines
replay_with s [] = refl
replay_with s (x ∷ lines) = replay_with (with_line s x) lines

spent_with : (s : LogState) (lines : List LogLine) → (with_lines s lines).is_spent ≡ s.is_spent
spent_with s [] = refl
spent_with s (x ∷ lines) = spent_with (with_line s x) lines

with_one_more : (s : LogState) (lines : List LogLine) (line : LogLine) → with_lines s (lines ++ line ∷ []) ≡ with_line (with_lines s lines) line
with_one_more s [] line = refl
with_one_more s (x ∷ lines) line = with_one_more (with_line s x) lines line

text_then : (xs ys : List MeasureLine) → text_of_all (xs ++ ys) ≡ text_of_all xs ++ text_of_all ys
text_then xs ys = flat_map-append text_of xs ys

module _ (m : Mesh) where
  -- what the first lines tell
  abbrev pub front_text : List LogLine → List ℕ
  front_text front = text_of_all (lines_from 1 (at_mesh m) front)

  text_more : (front more : List LogLine) → front_text (front ++ more) ≡ front_text front ++ text_of_all (lines_from (1 + length front) (after (at_mesh m) front) more)
  text_more front more = ap text_of_all (lines_then 1 (at_mesh m) front more) ∙ text_then (lines_from 1 (at_mesh m) front) (lines_from (1 + length front) (after (at_mesh m) front) more)

  text_one_more : (front : List LogLine) (line : LogLine) (s : LogState) (number : ℕ) → s ≡ with_lines (without_lines m) front → number ≡ 1 + length front → front_text (front ++ line ∷ []) ≡ front_text front ++ line_text number s line
  text_one_more front line s number at is =
      let there : s.replay ≡ after (at_mesh m) front = ap (λ (t : LogState). t.replay) at ∙ replay_with (without_lines m) front in
      let one = λ (n : ℕ) (r : Replay). text_of_all (lines_from n r (line ∷ [])) in
      let nil : one number s.replay ≡ line_text number s line = ap text_of_all (append-nil (one_told (measure_of_line number (shape_of s.replay.mesh) (replayed s.replay line).mesh line))) in
      text_more front (line ∷ []) ∙ ap (λ t. front_text front ++ t) (ap (λ n. one n (after (at_mesh m) front)) (sym is) ∙ ap (one number) (sym there) ∙ nil)

-- ---- how it ends

module _ (m : Mesh) (lines : List LogLine) where
  abbrev pub input : LogInput
  input = record { mesh = m; lines = lines }

  -- the whole text begins with what the first lines tell, and more is behind it
  record Begins (front : List LogLine) (whole : List ℕ) : Type 0 where
    rest : List ℕ
    is : whole ≡ front_text m front ++ rest
    some : 0 < length rest

  begins_then : (front more : List LogLine) (tail : List ℕ) → 0 < length tail → Begins front (front_text m (front ++ more) ++ tail)
  begins_then front more tail some =
      let behind = text_of_all (lines_from (1 + length front) (after (at_mesh m) front) more) in
      record {
        rest = behind ++ tail;
        is = ap (λ t. t ++ tail) (text_more m front more) ∙ append_assoc (front_text m front) behind tail;
        some = omega (arith, some, length-append behind tail);
      }

  whole_end : text_told (Ok input) None ≡ front_text m lines ++ text_of_all (End ∷ [])
  whole_end = text_then (lines_from 1 (at_mesh m) lines) (End ∷ [])

  end_some : 0 < length (text_of_all (End ∷ []))
  end_some = omega (arith, measure_some End, ap length (append-nil (text_of End)))

  -- the lines before the first that does not fit begin with those that fit
  firsts : (front left : List LogLine) → front ++ left ≡ lines → EachFits FitsTested (without_lines m) front → (n : ℕ) → IsUnfitAt FitsTested (without_lines m) lines n → (more : List LogLine) × (take (n - 1) lines ≡ front ++ more)
  firsts [] left split fit n h = (take (n - 1) lines, refl)
  firsts (x ∷ front) left split fit n (inl h) = absurd (omega (arith, ap length split, ap length h.none))
  firsts (x ∷ front) left split fit n (inr h) =
      let more = before_unfit FitsTested (without_lines m) (x ∷ front) left h.front h.rest h.line fit (split ∙ h.split) h.fit h.unfit in
      let number : n - 1 ≡ length h.front = omega (arith, h.number_is) in
      (more.0, ap (λ k. take k lines) number ∙ ap (take (length h.front)) h.split ∙ take_lines h.front (h.line ∷ h.rest) ∙ more.1)

  begins : (front left : List LogLine) → front ++ left ≡ lines → EachFits FitsTested (without_lines m) front → (ending : Option LogRefusal) → EndsBy FitsTested (Ok input) ending → Begins front (text_told (Ok input) ending)
  begins front left split fit None h =
      let P : List ℕ → Type 0 = λ t. Begins front t in
      subst P (sym (whole_end ∙ ap (λ l. front_text m l ++ text_of_all (End ∷ [])) (sym split))) (begins_then front left (text_of_all (End ∷ [])) end_some)
  begins front left split fit (Some (log.Replay n)) h =
      let P : List ℕ → Type 0 = λ t. Begins front t in
      let more = firsts front left split fit n h in
      subst P (ap (λ l. front_text m l ++ refused_text (log.Replay n)) (sym more.1)) (begins_then front more.0 (refused_text (log.Replay n)) (refused_some (log.Replay n)))
  begins front left split fit (Some (log.Input why)) h = absurd h
  begins front left split fit (Some (log.Log fault)) h = absurd h
  begins front left split fit (Some (log.Proof fault)) h = absurd h
  begins front left split fit (Some (log.Motion n verdict)) h = absurd h

  -- it stops behind some lines
  pub stops_behind : (front left : List LogLine) → front ++ left ≡ lines → EachFits FitsTested (without_lines m) front → (old new : Option (List ℕ)) (stop : Stop) → new ≡ appended old (front_text m front) → IsToldOf (Ok input) old new (Err stop)
  stops_behind front left split fit old new stop p ending h =
      let b = begins front left split fit ending h in
      part_before old new (front_text m front) b.rest (text_told (Ok input) ending) b.is b.some p

  -- it stops in what one line more tells
  stops_in : (front left : List LogLine) (line : LogLine) (s : LogState) (number : ℕ) → front ++ line ∷ left ≡ lines → EachFits FitsTested (without_lines m) front → s ≡ with_lines (without_lines m) front → number ≡ 1 + length front → FitsTested s line
      → (old mid new : Option (List ℕ)) (stop : Stop) → mid ≡ appended old (front_text m front) → AppendsPart mid new (line_text number s line) → IsToldOf (Ok input) old new (Err stop)
  stops_in front left line s number split fit at is fits old mid new stop p part ending h =
      let here : FitsTested (with_lines (without_lines m) front) line = subst (λ (t : LogState). FitsTested t line) at fits in
      let b = begins (front ++ line ∷ []) left (append_assoc front (line ∷ []) left ∙ split) (fits_one_more FitsTested (without_lines m) front line fit here) ending h in
      let t = line_text number s line in
      part_of old mid new (front_text m front) t b.rest (text_told (Ok input) ending)
      (b.is ∙ ap (λ x. x ++ b.rest) (text_one_more m front line s number at is) ∙ append_assoc (front_text m front) t b.rest) p part

  -- the last text is told, or a part of it
  pub finish : (front : List LogLine) (last : List ℕ) (e : Option LogRefusal) → EndsBy FitsTested (Ok input) e → text_told (Ok input) e ≡ front_text m front ++ last
      → (a b c : Around) → written_of b ≡ appended (written_of a) (front_text m front) → StoresNothing {T = Unit {0}} a b (Ok tt) → (r : Result (Option LogRefusal) Stop) → Tells last b c r → IfOk r (λ x. x ≡ e) → MeasuresLines m lines a c r
  finish front last e ends is a b c p quiet (Ok x) t same = record {
    told = (
      subst (EndsBy FitsTested (Ok input)) (sym same) ends,
      t.whole ∙ ap (λ w. appended w last) p ∙ appended-appended (written_of a) (front_text m front) last ∙ ap (appended (written_of a)) (sym is) ∙ ap (λ y. appended (written_of a) (text_told (Ok input) y)) (sym same),
    );
    nothing_stored = nothing_then a b c _ _ quiet t.nothing_stored;
  }
  finish front last e ends is a b c p quiet (Err stop) t same = record {
    told = λ ending h.
        let alike : ending ≡ e = one_ending FitsTested (Ok input) ending e h ends in
        part_of (written_of a) (written_of b) (written_of c) (front_text m front) last [] (text_told (Ok input) ending)
        (ap (text_told (Ok input)) alike ∙ is ∙ ap (λ x. front_text m front ++ x) (sym (append-nil last))) p t.part;
    nothing_stored = nothing_then a b c _ _ quiet t.nothing_stored;
  }

  -- ---- the lines so far

  pub record Measuring (left : List LogLine) (run : LogState) (shape : MeshShape) (number : ℕ) (old now : Around) : Type 0 where
    pub front : List LogLine
    pub split : front ++ left ≡ lines
    pub fit : EachFits FitsTested (without_lines m) front
    pub at : run ≡ with_lines (without_lines m) front
    pub valid : IsValidState run
    pub shape_is : shape ≡ shape_of run.replay.mesh
    pub number_is : number ≡ length front
    pub written : written_of now ≡ appended (written_of old) (front_text m front)
    pub nothing_stored : StoresNothing {T = Unit {0}} old now (Ok tt)

  -- none yet
  pub measuring_none : (run : LogState) (shape : MeshShape) (a : Around) → run ≡ without_lines m → IsValidState run → shape ≡ shape_of run.replay.mesh → Measuring lines run shape 0 a a
  measuring_none run shape a at valid is = record {
    front = [];
    split = refl;
    fit = tt;
    at = at;
    valid = valid;
    shape_is = is;
    number_is = refl;
    written = sym (appended-nil (written_of a));
    nothing_stored = nothing_done a tt;
  }

  -- nothing more can be taken of a replay only where a line did not fit
  pub unspent : (left : List LogLine) (run : LogState) (shape : MeshShape) (number : ℕ) (a b : Around) → Measuring left run shape number a b → run.is_spent ≡ false
  unspent left run shape number a b so_far = ap (λ (s : LogState). s.is_spent) so_far.at ∙ spent_with (without_lines m) so_far.front

  pub few : (left : List LogLine) (run : LogState) (shape : MeshShape) (number : ℕ) (a b : Around) → Measuring left run shape number a b → number ≤ length lines
  few left run shape number a b so_far = omega (arith, so_far.number_is, ap length so_far.split, length-append so_far.front left)

  module _ (line : LogLine) (left : List LogLine) (run : LogState) (shape : MeshShape) (number : ℕ) (a b c : Around) (so_far : Measuring (line ∷ left) run shape number a b) where
    next_number : number + 1 ≡ 1 + length so_far.front
    next_number = omega (arith, so_far.number_is)

    fits_here : FitsTested run line → FitsTested (with_lines (without_lines m) so_far.front) line
    fits_here fits = subst (λ (t : LogState). FitsTested t line) so_far.at fits

    -- one more
    pub one_more : (next : LogState) (behind : MeshShape) → MeasuresLine (number + 1) run line b c (Ok true) → next ≡ with_line run line → IsValidState next → behind ≡ shape_of next.replay.mesh → Measuring left next behind (number + 1) a c
    one_more next behind measures taken valid is = record {
      front = so_far.front ++ line ∷ [];
      split = append_assoc so_far.front (line ∷ []) left ∙ so_far.split;
      fit = fits_one_more FitsTested (without_lines m) so_far.front line so_far.fit (fits_here measures.writes.0);
      at = taken ∙ ap (λ s. with_line s line) so_far.at ∙ sym (with_one_more (without_lines m) so_far.front line);
      valid = valid;
      shape_is = is;
      number_is = omega (arith, so_far.number_is, length-append so_far.front (line ∷ []));
      written = measures.writes.1 ∙ ap (λ w. appended w (line_text (number + 1) run line)) so_far.written
          ∙ appended-appended (written_of a) (front_text m so_far.front) (line_text (number + 1) run line)
          ∙ ap (appended (written_of a)) (sym (text_one_more m so_far.front line run (number + 1) so_far.at next_number));
      nothing_stored = nothing_then a b c _ _ so_far.nothing_stored (nothing_whole b c _ tt measures.nothing_stored);
    }

    -- it stops in it
    stopped : (stop : Stop) → (written_of c ≡ written_of b) ⊎ (FitsTested run line × AppendsPart (written_of b) (written_of c) (line_text (number + 1) run line)) → IsToldOf (Ok input) (written_of a) (written_of c) (Err stop)
    stopped stop (inl same) = stops_behind so_far.front (line ∷ left) so_far.split so_far.fit (written_of a) (written_of c) stop (same ∙ so_far.written)
    stopped stop (inr part) = stops_in so_far.front left line run (number + 1) so_far.split so_far.fit so_far.at next_number part.0 (written_of a) (written_of b) (written_of c) stop so_far.written part.1

    pub line_stops : (stop : Stop) → MeasuresLine (number + 1) run line b c (Err stop) → MeasuresLines m lines a c (Err stop)
    line_stops stop measures = record {
      told = stopped stop measures.writes;
      nothing_stored = nothing_stopped a c stop (nothing_then a b c _ _ so_far.nothing_stored measures.nothing_stored);
    }

    -- it does not fit
    pub line_refused : MeasuresLine (number + 1) run line b c (Ok false) → (d : Around) (r : Result (Option LogRefusal) Stop) → Tells (refused_text (log.Replay (number + 1))) c d r → IfOk r (λ x. x ≡ Some (log.Replay (number + 1))) → MeasuresLines m lines a d r
    line_refused measures d r t same =
        let front = so_far.front in
        let n = number + 1 in
        let number_of : n - 1 ≡ length front = omega (arith, so_far.number_is) in
        let first : IsFirstUnfit FitsTested (without_lines m) lines n = record {
          front = front;
          line = line;
          rest = left;
          split = sym so_far.split;
          fit = so_far.fit;
          unfit = λ fits. measures.writes.0 (subst (λ (t : LogState). FitsTested t line) (sym so_far.at) fits);
          number_is = omega (arith, so_far.number_is);
        } in
        let firsts_are : take (n - 1) lines ≡ front = ap (λ k. take k lines) number_of ∙ ap (take (length front)) (sym so_far.split) ∙ take_lines front (line ∷ left) in
        finish front (refused_text (log.Replay n)) (Some (log.Replay n)) (inr first) (ap (λ l. front_text m l ++ refused_text (log.Replay n)) firsts_are) a c d
        (measures.writes.1 ∙ so_far.written) (nothing_then a b c _ _ so_far.nothing_stored (nothing_whole b c _ tt measures.nothing_stored)) r t same

  -- no line is left
  module _ (run : LogState) (shape : MeshShape) (number : ℕ) (a b c : Around) (so_far : Measuring [] run shape number a b) where
    all_are : so_far.front ≡ lines
    all_are = sym (append-nil so_far.front) ∙ so_far.split

    -- and there was none
    pub none_at_all : number ≡ 0 → (r : Result (Option LogRefusal) Stop) → Tells (refused_text (log.Replay 1)) b c r → IfOk r (λ x. x ≡ Some (log.Replay 1)) → MeasuresLines m lines a c r
    none_at_all zero_is r t same =
        let none : lines ≡ [] = sym all_are ∙ empty so_far.front (omega (arith, zero_is, so_far.number_is)) in
        finish so_far.front (refused_text (log.Replay 1)) (Some (log.Replay 1)) (inl (record { none = none; number_is = refl }))
        (ap (λ l. front_text m l ++ refused_text (log.Replay 1)) (sym (empty so_far.front (omega (arith, zero_is, so_far.number_is))))) a b c so_far.written so_far.nothing_stored r t same
      where
        empty : (xs : List LogLine) → length xs ≡ 0 → xs ≡ []
        empty [] e = refl
        empty (x ∷ xs) e = absurd (omega (arith, e))

    -- and there were some
    pub all_told : (number ≡ 0 → ⊥) → (r : Result (Option LogRefusal) Stop) → Tells (text_of End) b c r → IfOk r (λ x. x ≡ None) → MeasuresLines m lines a c r
    all_told some r t same =
        let each : EachFits FitsTested (without_lines m) lines = subst (EachFits FitsTested (without_lines m)) all_are so_far.fit in
        let ends : AllFit FitsTested (without_lines m) lines = record { some = λ none. some (so_far.number_is ∙ ap length all_are ∙ ap length none); each = each } in
        finish so_far.front (text_of End) None ends
        (whole_end ∙ ap (λ l. front_text m l ++ text_of_all (End ∷ [])) (sym all_are) ∙ ap (λ x. front_text m so_far.front ++ x) (append-nil (text_of End))) a b c so_far.written so_far.nothing_stored r t same

-- ---- by the line that is taken off those that are left

module _ (m : Mesh) (lines left : List LogLine) (run : LogState) (shape : MeshShape) (number : ℕ) (a b : Around) (h : Measuring m lines left run shape number a b) where
  -- memory is wanting before it is known whether a line is left
  pub forgotten_here : MeasuresLines m lines a b (Err NoMemory)
  forgotten_here = record {
    told = stops_behind m lines h.front left h.split h.fit (written_of a) (written_of b) NoMemory h.written;
    nothing_stored = nothing_then a b b _ _ h.nothing_stored (nothing_unremembered b);
  }

  module _ (line : LogLine) (more : List LogLine) (is : left ≡ line ∷ more) (c : Around) where
    here : Measuring m lines (line ∷ more) run shape number a b
    here = subst (λ (l : List LogLine). Measuring m lines l run shape number a b) is h

    pub stops_here : (stop : Stop) → MeasuresLine (number + 1) run line b c (Err stop) → MeasuresLines m lines a c (Err stop)
    stops_here stop measures = line_stops m lines line more run shape number a b c here stop measures

    pub refused_here : (fits : Bool) → fits ≡ false → MeasuresLine (number + 1) run line b c (Ok fits) → (d : Around) (r : Result (Option LogRefusal) Stop) → Tells (refused_text (log.Replay (number + 1))) c d r → IfOk r (λ x. x ≡ Some (log.Replay (number + 1))) → MeasuresLines m lines a d r
    refused_here fits missed measures d r t same =
        let P : Bool → Type 0 = λ x. MeasuresLine (number + 1) run line b c (Ok x) in
        line_refused m lines line more run shape number a b c here (subst P missed measures) d r t same

    pub more_here : (fits : Bool) → fits ≡ true → MeasuresLine (number + 1) run line b c (Ok fits) → (next : LogState) (behind : MeshShape) → next ≡ with_line run line → IsValidState next → behind ≡ shape_of next.replay.mesh → Measuring m lines more next behind (number + 1) a c
    more_here fits taken_is measures next behind taken valid is =
        let P : Bool → Type 0 = λ x. MeasuresLine (number + 1) run line b c (Ok x) in
        one_more m lines line more run shape number a b c here next behind (subst P taken_is measures) taken valid is

  module _ (none : left ≡ []) (c : Around) where
    at_end : Measuring m lines [] run shape number a b
    at_end = subst (λ (l : List LogLine). Measuring m lines l run shape number a b) none h

    pub no_line_here : number ≡ 0 → (r : Result (Option LogRefusal) Stop) → Tells (refused_text (log.Replay 1)) b c r → IfOk r (λ x. x ≡ Some (log.Replay 1)) → MeasuresLines m lines a c r
    no_line_here zero_is r t same = none_at_all m lines run shape number a b c at_end zero_is r t same

    pub end_told : (number ≡ 0 → ⊥) → (r : Result (Option LogRefusal) Stop) → Tells (text_of End) b c r → IfOk r (λ x. x ≡ None) → MeasuresLines m lines a c r
    end_told some r t same = all_told m lines run shape number a b c at_end some r t same

-- nothing is told yet, for want of memory
pub measured_nothing : (m : Mesh) (lines : List LogLine) (a : Around) → MeasuresLines m lines a a (Err NoMemory)
measured_nothing m lines a = record {
  told = stops_behind m lines [] lines refl tt (written_of a) (written_of a) NoMemory (sym (appended-nil (written_of a)));
  nothing_stored = nothing_unremembered a;
}

-- the text of an ending is not empty
pub told_some : (input : Result LogInput LogRefusal) (ending : Option LogRefusal) → EndsBy FitsTested input ending → 0 < length (text_told input ending)
told_some (Ok input) ending h =
    let b = begins input.mesh input.lines [] input.lines refl tt ending h in
    omega (arith, b.some, ap length b.is)
told_some (Err why) None h = absurd cc
told_some (Err why) (Some other) h = refused_some other
