-- The directives, one after another.
use Rattle.std.proofs.Common.{◌≡◌, ℕ, List, [], ◌∷◌, ◌++◌, refl, ap, sym, ◌∙◌, inl, inr, ◌+◌, ◌<◌, ◌≤◌, length, get_or, drop, add-one, suc, subst, append_assoc, Ok, Err, Result, IfOk, IsSome, OnErr, Bool, true, false, is_ok}
use Rattle.std.proofs.lemmas.Bool.{false≢true}
use Rattle.std.proofs.Math.Seq.{drop-cons}
use Rattle.std.proofs.lemmas.List.{drop_all}
use Rattle.std.specs.declared.option.Option.TheVariants.{None, Some}
use Rattle.std.specs.declared.option.Option.{Option}
use Rattle.log_text.specs.declared.LogLine.{LogLine}
use Rattle.log_text.specs.declared.LogLine.TheVariants.{End, Refused as RefusedLine}
use Rattle.mesh_base.specs.declared.UseWhy.{UseWhy}
use Rattle.log_text.specs.declared.Refusal.TheVariants.{StepUse}
use Rattle.step_text.specs.declared.Placed.{Placed}
use Rattle.log_text.specs.Lines.{text_of_line}
use Rattle.outside_io.specs.Desk.{Files}
use Rattle.outside_io.specs.Sink.{AppendsPart}
use Rattle.outside_io.proofs.Written.{appended-nil}
use Rattle.outside_io.specs.declared.stop.Stop.{Stop}
use Rattle.log_text.specs.declared.Refusal.{Refusal}
use Rattle.track_engine.specs.State.{State, standing}
use Rattle.track_engine.specs.Effects.{ExpectedLog, Ended, Effect, Proceeds, Refused, Unanswered, cut_short, effect_of, and_then, with_log, log_from, refused}
use Rattle.log_replay.specs.Replay.{Replay, replayed, after}
use Rattle.track_engine.specs.Saved.{Target, files_of, stored}
use Rattle.log_write.specs.Written.{Written}
use Rattle.step_text.specs.declared.Directive.{Directive}
use Rattle.step_text.specs.declared.Directive.TheVariants as directive
use Rattle.track_engine.specs.Answers.{Answer, Nothing, NoSuchField, FieldShifts, Wanted, WantedOfFirst, Answers}
use Rattle.track_engine.specs.Answered.{Known, IsAnswer, AreAnswered, FollowsAnswers}
use Rattle.track_engine.specs.Parts.{Takes, TakesInPart, Tells, AdvancesAnswered}
use Rattle.track_engine.specs.World.{Contents, Logs, StopsIn, StopsShort, Follows}
use Rattle.track_engine.proofs.Worlds.{GoesOn, logs_then, short_then, short_more, short_nothing, short_line}
use Rattle.log_replay.proofs.Replaying.{after-append}
use Rattle.track_engine.proofs.Remaining.{log_left}

-- The lines so far are written, and with those that are left they are all. The replay stands at the state.
pub record SoFar (to : Target) (all left : ExpectedLog) (first now : State) (old new : Contents) : Type 0 where
  pub done : List LogLine
  pub whole : with_log done left ≡ all
  pub logs : Logs to (standing first) done old new
  pub replay : after (standing first) done ≡ standing now

pub so_far_none : (to : Target) (all : ExpectedLog) (first : State) (old : Contents) → SoFar to all all first first old old
so_far_none to all first old = record {
  done = [];
  whole = refl;
  logs = record { written = sym (appended-nil old.written); files = refl };
  replay = refl;
}

-- the lines of an effect, and then the others
and_then-proceeds : (line : ℕ) (t : Effect) (lines : List LogLine) (s : State) (next : State → ExpectedLog) → t ≡ Proceeds lines s → and_then line t next ≡ with_log lines (next s)
and_then-proceeds line t lines s next e = ap (λ t. and_then line t next) e

and_then-refused : (line : ℕ) (t : Effect) (why : UseWhy) (next : State → ExpectedLog) → t ≡ Refused why → and_then line t next ≡ refused (StepUse line why)
and_then-refused line t why next e = ap (λ t. and_then line t next) e

-- some lines, and then more, before a log
with_more : (xs ys : List LogLine) (rest : ExpectedLog) → with_log (xs ++ ys) rest ≡ with_log xs (with_log ys rest)
with_more xs ys rest = λ i. record { lines = append_assoc xs ys rest.lines i; ending = rest.ending }

-- one more effect
pub so_far_more : (to : Target) (all : ExpectedLog) (line : ℕ) (t : Effect) (next : State → ExpectedLog) (first now then : State) (old mid new : Contents)
    → SoFar to all (and_then line t next) first now old mid → Takes to t now then mid new → SoFar to all (next then) first then old new
so_far_more to all line t next first now then old mid new s takes =
    let e = and_then-proceeds line t takes.lines then next takes.goes in
    let P : Replay → Type 0 = λ r. Logs to r takes.lines mid new in
    record {
      done = s.done ++ takes.lines;
      whole = with_more s.done takes.lines (next then) ∙ ap (with_log s.done) (sym e) ∙ s.whole;
      logs = logs_then to (standing first) s.done takes.lines old mid new s.logs (subst P (sym s.replay) takes.logs);
      replay = after-append (standing first) s.done takes.lines ∙ ap (λ r. after r takes.lines) s.replay ∙ takes.replay;
    }

-- a stop in the lines that are next, which others follow
in_lines : (to : Target) (all : ExpectedLog) (lines : List LogLine) (rest : ExpectedLog) (first now : State) (old mid new : Contents) (stop : Stop) → GoesOn rest
    → SoFar to all (with_log lines rest) first now old mid → StopsIn stop to (standing now) lines mid new → StopsShort stop to (standing first) all old new
in_lines to all lines rest first now old mid new stop more s stops =
    let P : Replay → Type 0 = λ r. StopsIn stop to r lines mid new in
    let Q : ExpectedLog → Type 0 = λ l. StopsShort stop to (standing first) l old new in
    subst Q s.whole
    (short_then stop to (standing first) s.done (with_log lines rest) old mid new s.logs
    (short_more stop to (after (standing first) s.done) lines rest mid new more (subst P (sym s.replay) stops)))

-- an effect that stops in its lines, which others follow
pub so_far_part : (to : Target) (all : ExpectedLog) (line : ℕ) (t : Effect) (next : State → ExpectedLog) (first now : State) (old mid new : Contents) (stop : Stop) → ((s : State) → GoesOn (next s))
    → SoFar to all (and_then line t next) first now old mid → TakesInPart stop to t now mid new → StopsShort stop to (standing first) all old new
so_far_part to all line t next first now old mid new stop others s takes =
    by_effect t s takes.tells
  where
    by_effect : (e : Effect) → SoFar to all (and_then line e next) first now old mid → Tells e takes.lines → StopsShort stop to (standing first) all old new
    by_effect (Proceeds told n) f tells = in_lines to all told (next n) first now old mid new stop (others n) f (subst (λ l. StopsIn stop to (standing now) l mid new) (sym tells) takes.stops)
    by_effect (Unanswered told) f tells = in_lines to all told cut_short first now old mid new stop (inr refl) f (subst (λ l. StopsIn stop to (standing now) l mid new) (sym tells) takes.stops)
    by_effect (Refused why) f tells = absurd tells

-- a last line is left
abbrev pub last_only : LogLine → Option Refusal → ExpectedLog
last_only line told = record { lines = line ∷ []; ending = Ended told }

-- the last line is written
pub so_far_last : (to : Target) (all : ExpectedLog) (line : LogLine) (told : Option Refusal) (first now : State) (old mid new : Contents)
    → SoFar to all (last_only line told) first now old mid → ((r : Replay) → Logs to r (line ∷ []) mid new) → Logs to (standing first) all.lines old new × (all.ending ≡ Ended told)
so_far_last to all line told first now old mid new s logs =
    let Q : ExpectedLog → Type 0 = λ l. Logs to (standing first) l.lines old new in
    (subst Q s.whole (logs_then to (standing first) s.done (line ∷ []) old mid new s.logs (logs _)), ap (λ (l : ExpectedLog). l.ending) (sym s.whole))

pub so_far_last_part : (to : Target) (all : ExpectedLog) (line : LogLine) (told : Option Refusal) (first now : State) (old mid new : Contents) (stop : Stop)
    → SoFar to all (last_only line told) first now old mid → ((r : Replay) → StopsShort stop to r (last_only line told) mid new) → StopsShort stop to (standing first) all old new
so_far_last_part to all line told first now old mid new stop s stops =
    let Q : ExpectedLog → Type 0 = λ l. StopsShort stop to (standing first) l old new in
    subst Q s.whole (short_then stop to (standing first) s.done (last_only line told) old mid new s.logs (stops _))

-- All directives are answered, and one line is left.
pub record Ends (fields : Known) (to : Target) (line : LogLine) (told : Option Refusal) (steps : List Placed) (first now : State) (old new : Contents) : Type 0 where
  pub answers : Answers
  pub so_far : SoFar to (log_from answers steps first) (last_only line told) first now old new
  pub answered : (whole : Bool) → AreAnswered fields whole answers steps first

-- a refused directive
pub so_far_refused : (to : Target) (all : ExpectedLog) (line : ℕ) (t : Effect) (why : UseWhy) (next : State → ExpectedLog) (first now : State) (old mid : Contents)
    → SoFar to all (and_then line t next) first now old mid → t ≡ Refused why → SoFar to all (refused (StepUse line why)) first now old mid
so_far_refused to all line t why next first now old mid s e =
    let P : ExpectedLog → Type 0 = λ left. SoFar to all left first now old mid in subst P (and_then-refused line t why next e) s

-- nothing more is written
so_far_nothing : (to : Target) (all left : ExpectedLog) (first now : State) (old mid new : Contents) (stop : Stop) → GoesOn left → SoFar to all left first now old mid → new ≡ mid → StopsShort stop to (standing first) all old new
so_far_nothing to all left first now old mid new stop some s same =
    let Q : ExpectedLog → Type 0 = λ l. StopsShort stop to (standing first) l old new in
    let P : Contents → Type 0 = λ w. StopsShort stop to (after (standing first) s.done) left mid w in
    subst Q s.whole (short_then stop to (standing first) s.done left old mid new s.logs (subst P (sym same) (short_nothing stop to _ left mid some)))

-- ---- the directives, as the fields answer

-- an answer in a whole run is one in any
any_whole : (fields : Known) (whole : Bool) (s : State) (what : Directive) (given : Answer) → IsAnswer fields true s what given → IsAnswer fields whole s what given
any_whole fields whole s directive.Fit (Wanted wants) is = is
any_whole fields whole s directive.Fit (WantedOfFirst count wants) is = absurd (false≢true (sym is.0))
any_whole fields whole s directive.Fit (FieldShifts by) is = absurd is
any_whole fields whole s directive.Fit NoSuchField is = absurd is
any_whole fields whole s directive.Fit Nothing is = absurd is
any_whole fields whole s what given is = is

-- where the run stopped, no answers are asked for
pub none_answered : (fields : Known) (left : List Placed) (s : State) → AreAnswered fields false [] left s
none_answered fields [] s = tt
none_answered fields (p ∷ left) s = refl

-- Of the directives so far these are the answers; whichever answers come next, the lines so far are written, and what is left is answered
-- as the rest.
pub record Answering (fields : Known) (to : Target) (steps left : List Placed) (first now : State) (old new : Contents) : Type 0 where
  pub given : Answers
  pub so_far : (more : Answers) → SoFar to (log_from (given ++ more) steps first) (log_from more left now) first now old new
  pub answered : (whole : Bool) (more : Answers) → AreAnswered fields whole more left now → AreAnswered fields whole (given ++ more) steps first

pub answering_none : (fields : Known) (to : Target) (steps : List Placed) (first : State) (old : Contents) → Answering fields to steps steps first first old old
answering_none fields to steps first old = record {
  given = [];
  so_far = λ more. so_far_none to (log_from more steps first) first old;
  answered = λ whole more h. h;
}

-- the next directive, and those after it
next_is : (steps : List Placed) (i : ℕ) (p : Placed) → i < length steps → p ≡ get_or steps i p → drop i steps ≡ p ∷ drop (i + 1) steps
next_is steps i p h at = drop-cons steps i p h ∙ ap (λ q. q ∷ drop (suc i) steps) (sym at) ∙ ap (λ n. p ∷ drop n steps) (sym (add-one i))

-- one more answer
one_more : (given : Answers) (answer : Answer) (more : Answers) → (given ++ answer ∷ []) ++ more ≡ given ++ answer ∷ more
one_more given answer more = append_assoc given (answer ∷ []) more

module _ (fields : Known) (to : Target) (steps : List Placed) (i : ℕ) (p : Placed) (h : i < length steps) (at : p ≡ get_or steps i p) (first now : State) (old mid new : Contents) (so_far : Answering fields to steps (drop i steps) first now old mid) where
  here : Answering fields to steps (p ∷ drop (i + 1) steps) first now old mid
  here = let P : List Placed → Type 0 = λ left. Answering fields to steps left first now old mid in subst P (next_is steps i p h at) so_far

  -- the log of all, where the next answer is this one
  abbrev all_with : Answer → Answers → ExpectedLog
  all_with answer more = log_from (here.given ++ answer ∷ more) steps first

  -- an effect is taken
  goes_with : (then : State) (answer : Answer) → IsAnswer fields true now p.what answer → Takes to (effect_of answer p.what now) now then mid new → Answering fields to steps (drop (i + 1) steps) first then old new
  goes_with then answer is takes = record {
    given = here.given ++ answer ∷ [];
    so_far = λ more.
        let P : Answers → Type 0 = λ l. SoFar to (log_from l steps first) (log_from more (drop (i + 1) steps) then) first then old new in
        subst P (sym (one_more here.given answer more))
        (so_far_more to (all_with answer more) p.line (effect_of answer p.what now) (log_from more (drop (i + 1) steps)) first now then old mid new (here.so_far (answer ∷ more)) takes);
    answered = λ whole more rest.
        let P : Answers → Type 0 = λ l. AreAnswered fields whole l steps first in
        subst P (sym (one_more here.given answer more)) (here.answered whole (answer ∷ more) (any_whole fields whole now p.what answer is, λ lines next goes. others whole more rest (sym takes.goes ∙ goes)));
  }
    where
      state_in : Effect → State
      state_in (Proceeds lines next) = next
      state_in (Refused why) = then
      state_in (Unanswered lines) = then

      others : {lines lines' : List LogLine} {next : State} (whole : Bool) (more : Answers) → AreAnswered fields whole more (drop (i + 1) steps) then → Proceeds lines then ≡ Proceeds lines' next → AreAnswered fields whole more (drop (i + 1) steps) next
      others whole more rest e = let P : State → Type 0 = λ s. AreAnswered fields whole more (drop (i + 1) steps) s in subst P (ap state_in e) rest

  pub goes_on : (then : State) (o : Option UseWhy) → o ≡ None → AdvancesAnswered fields to p.what now then mid new (Ok o) → Answering fields to steps (drop (i + 1) steps) first then old new
  goes_on then o e advances =
      let P : Option UseWhy → Type 0 = λ o. AdvancesAnswered fields to p.what now then mid new (Ok o) in
      let took = subst P e advances in
      goes_with then took.0 took.1 took.2

  -- it stops in its lines, or before them
  pub effect_part : (then : State) (stop : Stop) → AdvancesAnswered fields to p.what now then mid new (Err stop) → FollowsAnswers fields to steps first then old new (Err stop)
  effect_part then stop (inl same) = record {
    answers = here.given ++ [];
    answered = here.answered false [] refl;
    follows = so_far_nothing to (log_from (here.given ++ []) steps first) (log_from [] (p ∷ drop (i + 1) steps) now) first now old mid new stop (log_left [] (p ∷ drop (i + 1) steps) now) (here.so_far []) same;
    stands = tt;
  }
  effect_part then stop (inr takes) = record {
    answers = here.given ++ takes.0 ∷ [];
    answered = here.answered false (takes.0 ∷ []) (takes.1, λ lines next goes. none_answered fields (drop (i + 1) steps) next);
    follows = so_far_part to (all_with takes.0 []) p.line (effect_of takes.0 p.what now) (log_from [] (drop (i + 1) steps)) first now old mid new stop (λ s. log_left [] (drop (i + 1) steps) s) (here.so_far (takes.0 ∷ [])) takes.2;
    stands = tt;
  }

  -- it is refused, and the last line is written, or a part of it
  pub is_refused : (then : State) (o : Option UseWhy) (why : UseWhy) → o ≡ Some why → AdvancesAnswered fields to p.what now then mid new (Ok o) → Ends fields to (RefusedLine (StepUse p.line why)) (Some (StepUse p.line why)) steps first now old new
  is_refused then o why e advances =
      let P : Option UseWhy → Type 0 = λ o. AdvancesAnswered fields to p.what now then mid new (Ok o) in
      let stopped = subst P e advances in
      let answer = stopped.0 in
      let Q : Contents → Type 0 = λ w. SoFar to (all_with answer []) (refused (StepUse p.line why)) first now old w in
      record {
        answers = here.given ++ answer ∷ [];
        so_far = subst Q (sym stopped.2.1) (so_far_refused to (all_with answer []) p.line (effect_of answer p.what now) why (log_from [] (drop (i + 1) steps)) first now old mid (here.so_far (answer ∷ [])) stopped.2.0);
        answered = λ whole. here.answered whole (answer ∷ []) (any_whole fields whole now p.what answer stopped.1, λ lines next goes. absurd (never (sym stopped.2.0 ∙ goes)));
      }
    where
      proceeds : Effect → Bool
      proceeds (Proceeds lines next) = true
      proceeds (Refused why) = false
      proceeds (Unanswered lines) = false

      never : {lines : List LogLine} {next : State} → Refused why ≡ Proceeds lines next → ⊥
      never e = false≢true (ap proceeds e)

-- a refused directive leaves the state
pub left_as_it_was : {s t : State} (o : Option UseWhy) (why : UseWhy) → o ≡ Some why → (IsSome o → t ≡ s) → t ≡ s
left_as_it_was (Some other) why e left = left refl
left_as_it_was None why e left = absurd cc

-- no directive is left
pub at_end : (fields : Known) (to : Target) (steps : List Placed) (i : ℕ) (first now : State) (old mid : Contents) → length steps ≤ i → Answering fields to steps (drop i steps) first now old mid → Ends fields to End None steps first now old mid
at_end fields to steps i first now old mid h s =
    let P : List Placed → Type 0 = λ l. Answering fields to steps l first now old mid in
    let done = subst P (drop_all i steps h) s in
    record { answers = done.given ++ []; so_far = done.so_far []; answered = λ whole. done.answered whole [] tt }

-- the last line, which names no file
last_said : (to : Target) (all : ExpectedLog) (line : LogLine) (told : Option Refusal) (first now : State) (old : Contents) (files : Option Files) (mid new : Option (List ℕ)) (r : Result (Option Refusal) Stop) → ((from : Replay) → stored (files_of to from (line ∷ [])) files ≡ files)
    → SoFar to all (last_only line told) first now old (record { files = files; written = mid }) → Written mid new (line ∷ []) r → OnErr r (AppendsPart mid new (text_of_line line)) → IfOk r (λ e. e ≡ told)
    → Follows to (standing first) all old (record { files = files; written = new }) r
last_said to all line told first now old files mid new (Ok e) none s said part is =
    let last = so_far_last to all line told first now old _ (record { files = files; written = new }) s (λ from. record { written = said; files = sym (none from) }) in
    (last.0, last.1 ∙ ap Ended (sym is))
last_said to all line told first now old files mid new (Err stop) none s said part is =
    so_far_last_part to all line told first now old _ (record { files = files; written = new }) stop s (λ from. short_line stop to from line (record { lines = []; ending = Ended told }) files mid new part)

-- the last line changes nothing in a replay
stands_last : (to : Target) (all : ExpectedLog) (line : LogLine) (told : Option Refusal) (first now then : State) (old mid : Contents) (r : Result (Option Refusal) Stop) → ((from : Replay) → replayed from line ≡ from)
    → SoFar to all (last_only line told) first now old mid → then ≡ now → IfOk r (λ _. after (standing first) all.lines ≡ standing then)
stands_last to all line told first now then old mid (Ok e) still s same =
    ap (λ (l : ExpectedLog). after (standing first) l.lines) (sym s.whole) ∙ after-append (standing first) s.done (line ∷ []) ∙ ap (λ r. replayed r line) s.replay ∙ still (standing now) ∙ ap standing (sym same)
stands_last to all line told first now then old mid (Err stop) still s same = tt

finished_at : (fields : Known) (to : Target) (line : LogLine) (told : Option Refusal) (steps : List Placed) (first now then : State) (old : Contents) (files : Option Files) (mid new : Option (List ℕ)) (r : Result (Option Refusal) Stop) → ((from : Replay) → stored (files_of to from (line ∷ [])) files ≡ files) → ((from : Replay) → replayed from line ≡ from)
    → then ≡ now → Ends fields to line told steps first now old (record { files = files; written = mid }) → Written mid new (line ∷ []) r → OnErr r (AppendsPart mid new (text_of_line line)) → IfOk r (λ e. e ≡ told)
    → FollowsAnswers fields to steps first then old (record { files = files; written = new }) r
finished_at fields to line told steps first now then old files mid new r none still same ends said part is = record {
  answers = ends.answers;
  answered = ends.answered (is_ok r);
  follows = last_said to (log_from ends.answers steps first) line told first now old files mid new r none ends.so_far said part is;
  stands = stands_last to (log_from ends.answers steps first) line told first now then old _ r still ends.so_far same;
}

-- the last line, at the state after it
pub finished : (fields : Known) (to : Target) (line : LogLine) (told : Option Refusal) (steps : List Placed) (first now then : State) (old mid new : Contents) (r : Result (Option Refusal) Stop)
    → ((from : Replay) → stored (files_of to from (line ∷ [])) mid.files ≡ mid.files) → ((from : Replay) → replayed from line ≡ from) → then ≡ now → Ends fields to line told steps first now old mid
    → new.files ≡ mid.files → Written mid.written new.written (line ∷ []) r → OnErr r (AppendsPart mid.written new.written (text_of_line line)) → IfOk r (λ e. e ≡ told) → FollowsAnswers fields to steps first then old new r
finished fields to line told steps first now then old mid new r none still same ends kept said part is =
    let P : Option Files → Type 0 = λ f. FollowsAnswers fields to steps first then old (record { files = f; written = new.written }) r in
    subst P (sym kept) (finished_at fields to line told steps first now then old mid.files mid.written new.written r none still same ends said part is)
