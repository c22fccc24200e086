-- The lines of a log that are replayed so far, and how it ends behind them.
use Rattle.std.proofs.Common.{◌≡◌, inl, inr, ℕ, ◌+◌, ◌-◌, ◌<◌, ◌≤◌, Bool, true, false, List, [], ◌∷◌, ◌++◌, append-nil, append_assoc, length, take, Option, Some, None, Result, Ok, Err, IfOk, refl, ap, sym, ◌∙◌, subst, arith}
use Rattle.std.specs.Prelude.{◌↔◌, IsTrue}
use Rattle.std.proofs.lemmas.Bool.{false≢true}
use Rattle.std.proofs.lemmas.List.{length-append}
use Rattle.mesh_base.specs.Mesh.{Mesh}
use Rattle.log_text.specs.declared.LogLine.{LogLine}
use Rattle.log_replay.specs.Replay.{Replay, after, at_mesh}
use Rattle.log_run.specs.Laws.{IsValidState}
use Rattle.log_run.specs.States.{LogState, with_line, without_lines}
use Rattle.outside_io.specs.declared.stop.Stop.{Stop}
use Rattle.outside_io.specs.declared.stop.Stop.TheVariants.{NoMemory}
use Rattle.outside_io.specs.Outside.{Around, Counts, holds_of}
use Rattle.outside_io.specs.Sink.{appended}
use Rattle.outside_io.specs.World.{Contents}
use Rattle.outside_io.proofs.Outsides.{counts_then, counts_stopped, counts_whole, counts_forgotten, counts_unremembered}
use Rattle.track_log.specs.declared.refusal.LogRefusal.{LogRefusal}
use Rattle.track_log.specs.declared.refusal.LogRefusal.TheVariants as log
use Rattle.track_log.specs.LogJob.{LogInput}
use Rattle.track_log.specs.Taking.{FitsTested, with_lines, EachFits, IsFirstUnfit, IsUnfitAt, AllFit}
use Rattle.track_log.specs.Ending.{EndsBy}
use Rattle.track_log.specs.Refused.{refused_text}
use Rattle.track_log.specs.Telling.{Tells}
use Rattle.track_log.proofs.Endings.{fits_one_more, before_unfit, one_ending}
use Rattle.track_engine.specs.Saved.{Target, stored}
use Rattle.track_replay.specs.Wanted.{NamedTexts, wanted_at, wanted_of}
use Rattle.track_replay.specs.Texts.{replayed_text}
use Rattle.track_replay.specs.Storing.{StoresAll, StopsStoring, StoresCounted}
use Rattle.track_replay.specs.Headline.{texts_stored, text_told, StopsIn, IsReplayOf, ReplaysLines}
use Rattle.track_replay.proofs.Storings.{stores_then, stops_then, stops_more, stops_before, stops_in_text, no_memory}
use Rattle.track_replay.proofs.WantedLines.{same_behind, wanted_few, wanted_then, wanted_one_more}

-- ---- lists and states

pub take_lines : (xs rest : List LogLine) → take (length xs) (xs ++ rest) ≡ xs
take_lines [] rest = refl
take_lines (x ∷ xs) rest = ap (λ l. x ∷ l) (take_lines xs rest)

no_lines : (xs : List LogLine) → length xs ≡ 0 → xs ≡ []
no_lines [] e = refl
no_lines (x ∷ xs) e = absurd (omega (arith, e))

replay_with : (s : LogState) (lines : List LogLine) → (with_lines s lines).replay ≡ after s.replay lines
replay_with s [] = refl
replay_with s (x ∷ lines) = replay_with (with_line s x) lines

spent_with : (s : LogState) (lines : List LogLine) → (with_lines s lines).is_spent ≡ s.is_spent
spent_with s [] = refl
spent_with s (x ∷ lines) = spent_with (with_line s x) lines

with_one_more : (s : LogState) (lines : List LogLine) (line : LogLine) → with_lines s (lines ++ line ∷ []) ≡ with_line (with_lines s lines) line
with_one_more s [] line = refl
with_one_more s (x ∷ lines) line = with_one_more (with_line s x) lines line

module _ (only : Option ℕ) (to : Target) (m : Mesh) (lines : List LogLine) where
  abbrev pub input : LogInput
  input = record { mesh = m; lines = lines }

  -- the files of the first lines
  abbrev pub front_texts : List LogLine → NamedTexts
  front_texts front = wanted_of only to (at_mesh m) front

  -- ---- how it ends behind lines that fit

  -- the lines before the first that does not fit begin with those that fit
  firsts : (front left : List LogLine) → front ++ left ≡ lines → EachFits FitsTested (without_lines m) front → (n : ℕ) → IsUnfitAt FitsTested (without_lines m) lines n → (more : List LogLine) × (take (n - 1) lines ≡ front ++ more)
  firsts [] left split fit n h = (take (n - 1) lines, refl)
  firsts (x ∷ front) left split fit n (inl h) = absurd (omega (arith, ap length split, ap length h.none))
  firsts (x ∷ front) left split fit n (inr h) =
      let more = before_unfit FitsTested (without_lines m) (x ∷ front) left h.front h.rest h.line fit (split ∙ h.split) h.fit h.unfit in
      let number : n - 1 ≡ length h.front = omega (arith, h.number_is) in
      (more.0, ap (λ k. take k lines) number ∙ ap (take (length h.front)) h.split ∙ take_lines h.front (h.line ∷ h.rest) ∙ more.1)

  -- the files of an ending begin with those of the lines that fit
  begins : (front left : List LogLine) → front ++ left ≡ lines → EachFits FitsTested (without_lines m) front → (ending : Option LogRefusal) → EndsBy FitsTested (Ok input) ending
      → (more : NamedTexts) × (texts_stored only to (Ok input) ending ≡ front_texts front ++ more)
  begins front left split fit None h = (
    wanted_of only to (after (at_mesh m) front) left,
    ap (wanted_of only to (at_mesh m)) (sym split) ∙ wanted_then only to (at_mesh m) front left,
  )
  begins front left split fit (Some (log.Replay n)) h =
      let more = firsts front left split fit n h in
      (wanted_of only to (after (at_mesh m) front) more.0, ap (wanted_of only to (at_mesh m)) more.1 ∙ wanted_then only to (at_mesh m) front more.0)
  begins front left split fit (Some (log.Input why)) h = absurd h
  begins front left split fit (Some (log.Log fault)) h = absurd h
  begins front left split fit (Some (log.Proof fault)) h = absurd h
  begins front left split fit (Some (log.Motion n verdict)) h = absurd h

  -- it stops in the files of the first lines
  stops_in : (front left : List LogLine) → front ++ left ≡ lines → EachFits FitsTested (without_lines m) front → (stop : Stop) (old new : Contents)
      → StopsStoring stop (front_texts front) old new → IsReplayOf only to (Ok input) old new (Err stop)
  stops_in front left split fit stop old new stops ending h =
      let b = begins front left split fit ending h in
      let P : NamedTexts → Type 0 = λ texts. StopsStoring stop texts old new in
      inl (subst P (sym b.1) (stops_more stop (front_texts front) b.0 old new stops))

  -- memory is wanting behind them
  forgets : (front left : List LogLine) → front ++ left ≡ lines → EachFits FitsTested (without_lines m) front → (old new : Contents)
      → StoresAll (front_texts front) old new → IsReplayOf only to (Ok input) old new (Err NoMemory)
  forgets front left split fit old new stores ending h =
      let b = begins front left split fit ending h in
      let P : NamedTexts → Type 0 = λ texts. StopsStoring NoMemory texts old new in
      inl (subst P (sym b.1) (stops_before NoMemory (front_texts front) b.0 old new no_memory stores))

  -- the last text is written, or a part of it
  finish : (texts : NamedTexts) (e : Option LogRefusal) → EndsBy FitsTested (Ok input) e → texts_stored only to (Ok input) e ≡ texts
      → (a b c : Around) → StoresAll texts (holds_of a) (holds_of b) → Counts {T = Unit {0}} a b (Ok tt)
      → (r : Result (Option LogRefusal) Stop) → Tells (text_told texts e) b c r → IfOk r (λ x. x ≡ e) → ReplaysLines only to m lines a c r
  finish texts e ends is a b c stores counts (Ok x) t same =
      let P : NamedTexts → Type 0 = λ l. (c.world.holds.files ≡ stored l a.world.holds.files) × (c.world.holds.written ≡ appended a.world.holds.written (text_told l e)) in
      let there = subst P (sym is) (t.nothing_stored.files ∙ stores.files, t.whole ∙ ap (λ w. appended w (text_told texts e)) stores.written) in
      let Q : Option LogRefusal → Type 0 = λ y. IsReplayOf only to (Ok input) (holds_of a) (holds_of c) (Ok y) in
      record {
        done = subst Q (sym same) (record { ends = ends; files = there.0; written = there.1 });
        counts = counts_then a b c _ _ counts t.nothing_stored.counts;
      }
  finish texts e ends is a b c stores counts (Err stop) t same =
      let P : NamedTexts → Type 0 = λ l. StopsIn stop l (text_told l e) (holds_of a) (holds_of c) in
      let stops : StopsIn stop texts (text_told texts e) (holds_of a) (holds_of c) = stops_in_text stop texts (text_told texts e) a b c stores t in
      let R : Option LogRefusal → Type 0 = λ y. StopsIn stop (texts_stored only to (Ok input) y) (text_told (texts_stored only to (Ok input) y) y) (holds_of a) (holds_of c) in
      record {
        done = λ ending h. subst R (one_ending FitsTested (Ok input) e ending ends h) (subst P (sym is) stops);
        counts = counts_then a b c _ _ counts t.nothing_stored.counts;
      }

  -- ---- the lines so far

  pub record Replaying (left : List LogLine) (run : LogState) (count number : ℕ) (old now : Around) : Type 0 where
    pub front : List LogLine
    pub split : front ++ left ≡ lines
    pub fit : EachFits FitsTested (without_lines m) front
    pub at : run ≡ with_lines (without_lines m) front
    pub valid : IsValidState run
    pub number_is : number ≡ length front
    pub count_is : count ≡ length (wanted_of only to (at_mesh m) front)
    pub stores : StoresAll (wanted_of only to (at_mesh m) front) (holds_of old) (holds_of now)
    pub counts : Counts {T = Unit {0}} old now (Ok tt)

  -- none yet
  pub replaying_none : (run : LogState) (a : Around) → run ≡ without_lines m → IsValidState run → Replaying lines run 0 0 a a
  replaying_none run a at valid = record {
    front = [];
    split = refl;
    fit = tt;
    at = at;
    valid = valid;
    number_is = refl;
    count_is = refl;
    stores = record { files = refl; written = refl };
    counts = counts_whole {T = Unit {0}} a a (Err NoMemory) tt (counts_unremembered {T = Unit {0}} a);
  }

  -- nothing more can be taken of a replay only where a line did not fit
  pub unspent : (left : List LogLine) (run : LogState) (count number : ℕ) (a b : Around) → Replaying left run count number a b → run.is_spent ≡ false
  unspent left run count number a b so_far = ap (λ (s : LogState). s.is_spent) so_far.at ∙ spent_with (without_lines m) so_far.front

  pub few : (left : List LogLine) (run : LogState) (count number : ℕ) (a b : Around) → Replaying left run count number a b → number ≤ length lines
  few left run count number a b so_far = omega (arith, so_far.number_is, ap length so_far.split, length-append so_far.front left)

  module _ (line : LogLine) (left : List LogLine) (run : LogState) (count number : ℕ) (a b : Around) (so_far : Replaying (line ∷ left) run count number a b) where
    -- memory is wanting before it is known whether the line fits
    pub line_forgotten : ReplaysLines only to m lines a b (Err NoMemory)
    line_forgotten = record {
      done = forgets so_far.front (line ∷ left) so_far.split so_far.fit (holds_of a) (holds_of b) so_far.stores;
      counts = counts_forgotten a b _ so_far.counts;
    }

    -- it does not fit
    pub line_refused : (FitsTested run line → ⊥) → (c : Around) (r : Result (Option LogRefusal) Stop) → Tells (refused_text (log.Replay (number + 1))) b c r → IfOk r (λ x. x ≡ Some (log.Replay (number + 1))) → ReplaysLines only to m lines a c r
    line_refused unfit c r t same =
        let front = so_far.front in
        let n = number + 1 in
        let number_of : n - 1 ≡ length front = omega (arith, so_far.number_is) in
        let first : IsFirstUnfit FitsTested (without_lines m) lines n = record {
          front = front;
          line = line;
          rest = left;
          split = sym so_far.split;
          fit = so_far.fit;
          unfit = λ fits. unfit (subst (λ (s : LogState). FitsTested s line) (sym so_far.at) fits);
          number_is = omega (arith, so_far.number_is);
        } in
        let firsts_are : take (n - 1) lines ≡ front = ap (λ k. take k lines) number_of ∙ ap (take (length front)) (sym so_far.split) ∙ take_lines front (line ∷ left) in
        finish (front_texts front) (Some (log.Replay n)) (inr first) (ap (wanted_of only to (at_mesh m)) firsts_are) a b c so_far.stores so_far.counts r t same

    -- it fits and is taken
    module _ (fits : FitsTested run line) (next : LogState) (taken : next ≡ with_line run line) where
      fit_more : EachFits FitsTested (without_lines m) (so_far.front ++ line ∷ [])
      fit_more = fits_one_more FitsTested (without_lines m) so_far.front line so_far.fit (subst (λ (s : LogState). FitsTested s line) so_far.at fits)

      split_more : (so_far.front ++ line ∷ []) ++ left ≡ lines
      split_more = append_assoc so_far.front (line ∷ []) left ∙ so_far.split

      there : run.replay ≡ after (at_mesh m) so_far.front
      there = ap (λ (s : LogState). s.replay) so_far.at ∙ replay_with (without_lines m) so_far.front

      texts_here : wanted_at only to next.replay line ≡ wanted_at only to (after (at_mesh m) so_far.front) line
      texts_here = ap (λ (s : LogState). wanted_at only to s.replay line) taken ∙ same_behind only to run.replay line ∙ ap (λ (r : Replay). wanted_at only to r line) there

      texts_more : front_texts (so_far.front ++ line ∷ []) ≡ front_texts so_far.front ++ wanted_at only to next.replay line
      texts_more = wanted_one_more only to (at_mesh m) so_far.front line ∙ ap (λ (l : NamedTexts). front_texts so_far.front ++ l) (sym texts_here)

      -- its mesh is stored, if it is to be
      module _ (more : ℕ) (c : Around) (found : StoresCounted (wanted_at only to next.replay line) b c (Ok more)) where
        count_more : count + more ≡ length (front_texts (so_far.front ++ line ∷ []))
        count_more = omega (arith, so_far.count_is, found.stores.1, ap length texts_more, length-append (front_texts so_far.front) (wanted_at only to next.replay line))

        pub few_more : count + more ≤ length lines
        few_more = omega (arith, count_more, wanted_few only to (at_mesh m) (so_far.front ++ line ∷ []), ap length split_more, length-append (so_far.front ++ line ∷ []) left)

        pub one_more : IsValidState next → Replaying left next (count + more) (number + 1) a c
        one_more valid =
            let P : NamedTexts → Type 0 = λ l. StoresAll l (holds_of a) (holds_of c) in
            record {
              front = so_far.front ++ line ∷ [];
              split = split_more;
              fit = fit_more;
              at = taken ∙ ap (λ s. with_line s line) so_far.at ∙ sym (with_one_more (without_lines m) so_far.front line);
              valid = valid;
              number_is = omega (arith, so_far.number_is, length-append so_far.front (line ∷ []));
              count_is = count_more;
              stores = subst P (sym texts_more) (stores_then (front_texts so_far.front) (wanted_at only to next.replay line) (holds_of a) (holds_of b) (holds_of c) so_far.stores found.stores.0);
              counts = counts_whole a c _ tt (counts_then a b c _ _ so_far.counts found.counts);
            }

      -- it stops in that
      pub line_stops : (stop : Stop) (c : Around) → StoresCounted (wanted_at only to next.replay line) b c (Err stop) → ReplaysLines only to m lines a c (Err stop)
      line_stops stop c found =
          let P : NamedTexts → Type 0 = λ l. StopsStoring stop l (holds_of a) (holds_of c) in
          record {
            done = stops_in (so_far.front ++ line ∷ []) left split_more fit_more stop (holds_of a) (holds_of c)
                (subst P (sym texts_more) (stops_then stop (front_texts so_far.front) (wanted_at only to next.replay line) (holds_of a) (holds_of b) (holds_of c) so_far.stores found.stores));
            counts = counts_stopped a c stop (counts_then a b c _ _ so_far.counts found.counts);
          }

  -- no line is left
  module _ (run : LogState) (count number : ℕ) (a b c : Around) (so_far : Replaying [] run count number a b) where
    all_are : so_far.front ≡ lines
    all_are = sym (append-nil so_far.front) ∙ so_far.split

    -- and there was none
    pub none_at_all : number ≡ 0 → (r : Result (Option LogRefusal) Stop) → Tells (refused_text (log.Replay 1)) b c r → IfOk r (λ x. x ≡ Some (log.Replay 1)) → ReplaysLines only to m lines a c r
    none_at_all zero_is r t same =
        let empty : so_far.front ≡ [] = no_lines so_far.front (omega (arith, zero_is, so_far.number_is)) in
        let none : lines ≡ [] = sym all_are ∙ empty in
        let P : List LogLine → Type 0 = λ l. StoresAll (front_texts l) (holds_of a) (holds_of b) in
        finish [] (Some (log.Replay 1)) (inl (record { none = none; number_is = refl })) refl a b c (subst P empty so_far.stores) so_far.counts r t same

    -- and there were some
    pub all_done : (number ≡ 0 → ⊥) → (r : Result (Option LogRefusal) Stop) → Tells (replayed_text count) b c r → IfOk r (λ x. x ≡ None) → ReplaysLines only to m lines a c r
    all_done some r t same =
        let each : EachFits FitsTested (without_lines m) lines = subst (EachFits FitsTested (without_lines m)) all_are so_far.fit in
        let ends : AllFit FitsTested (without_lines m) lines = record { some = λ none. some (so_far.number_is ∙ ap length all_are ∙ ap length none); each = each } in
        let P : ℕ → Type 0 = λ k. Tells (replayed_text k) b c r in
        finish (front_texts so_far.front) None ends (ap (wanted_of only to (at_mesh m)) (sym all_are)) a b c so_far.stores so_far.counts r (subst P so_far.count_is t) same

  -- ---- by the line that is taken off those that are left

  -- the way is heard, and outside nothing has changed
  pub heard : (left : List LogLine) (run : LogState) (count number : ℕ) (a b c : Around) → Replaying left run count number a b → c ≡ b → Replaying left run count number a c
  heard left run count number a b c h same = let P : Around → Type 0 = λ w. Replaying left run count number a w in subst P (sym same) h

  module _ (left : List LogLine) (run : LogState) (count number : ℕ) (a b : Around) (h : Replaying left run count number a b) where
    -- memory is wanting before it is known whether a line is left
    pub forgotten_before : ReplaysLines only to m lines a b (Err NoMemory)
    forgotten_before = record {
      done = forgets h.front left h.split h.fit (holds_of a) (holds_of b) h.stores;
      counts = counts_forgotten a b _ h.counts;
    }

    module _ (line : LogLine) (more : List LogLine) (first : left ≡ line ∷ more) (c : Around) (same : c ≡ b) where
      pub here : Replaying (line ∷ more) run count number a c
      here = subst (λ (l : List LogLine). Replaying l run count number a c) first (heard left run count number a b c h same)

      pub forgotten_here : ReplaysLines only to m lines a c (Err NoMemory)
      forgotten_here = line_forgotten line more run count number a c here

      pub refused_here : (fits : Bool) → IsTrue fits ↔ FitsTested run line → fits ≡ false → (d : Around) (r : Result (Option LogRefusal) Stop) → Tells (refused_text (log.Replay (number + 1))) c d r → IfOk r (λ x. x ≡ Some (log.Replay (number + 1))) → ReplaysLines only to m lines a d r
      refused_here fits is missed d r t ends = line_refused line more run count number a c here (λ f. false≢true (sym missed ∙ is.1 f)) d r t ends

      module _ (fits : Bool) (is : IsTrue fits ↔ FitsTested run line) (fits_is : fits ≡ true) (next : LogState) (taken : next ≡ with_line run line) (d : Around) where
        pub few_here : (k : ℕ) → StoresCounted (wanted_at only to next.replay line) c d (Ok k) → count + k ≤ length lines
        few_here k found = few_more line more run count number a c here (is.0 fits_is) next taken k d found

        pub more_here : (k : ℕ) → StoresCounted (wanted_at only to next.replay line) c d (Ok k) → IsValidState next → Replaying more next (count + k) (number + 1) a d
        more_here k found valid = one_more line more run count number a c here (is.0 fits_is) next taken k d found valid

        pub stops_here : (stop : Stop) → StoresCounted (wanted_at only to next.replay line) c d (Err stop) → ReplaysLines only to m lines a d (Err stop)
        stops_here stop found = line_stops line more run count number a c here (is.0 fits_is) next taken stop d found

    module _ (none : left ≡ []) (c : Around) where
      at_end : Replaying [] run count number a b
      at_end = subst (λ (l : List LogLine). Replaying l run count number a b) none h

      pub no_line_here : number ≡ 0 → (r : Result (Option LogRefusal) Stop) → Tells (refused_text (log.Replay 1)) b c r → IfOk r (λ x. x ≡ Some (log.Replay 1)) → ReplaysLines only to m lines a c r
      no_line_here zero_is r t same = none_at_all run count number a b c at_end zero_is r t same

      pub done_here : (number ≡ 0 → ⊥) → (r : Result (Option LogRefusal) Stop) → Tells (replayed_text count) b c r → IfOk r (λ x. x ≡ None) → ReplaysLines only to m lines a c r
      done_here some r t same = all_done run count number a b c at_end some r t same
