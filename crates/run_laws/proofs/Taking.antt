-- Directives that are taken one after another, and the log of them.
use Rattle.std.proofs.Common.{◌≡◌, ℕ, ◌+◌, Bool, true, false, cond, List, [], ◌∷◌, ◌++◌, map, length, None, refl, sym, subst, arith}
use Rattle.std.specs.List.{AllByRecursion, enumerate_from, filter}
use Rattle.mesh_base.proofs.ListedPairs.{all_joined}
use Rattle.step_text.specs.declared.Directive.{Directive}
use Rattle.step_text.specs.declared.Placed.{Placed}
use Rattle.log_text.specs.declared.LogLine.{LogLine}
use Rattle.track_engine.specs.State.{State}
use Rattle.track_engine.specs.Answers.{without_field, without_fields}
use Rattle.track_engine.specs.Effects.{Effect, Proceeds, ExpectedLog, Ended, effect_of, and_then, log_from}
use Rattle.track_engine.specs.Invariant.{IsRunInvariant}
use Rattle.track_engine.proofs.Keeping.{kept_next}
use Rattle.run_laws.specs.Whole.{MovesWhole, is_moved, moved_in}

-- a directive leads from one state to another, by lines that tell so many steps and nothing in the way
pub record IsTaken (d : Directive) (s t : State) (steps : ℕ) : Type 0 where
  pub lines : List LogLine
  pub goes : effect_of (without_field d) d s ≡ Proceeds lines t
  pub whole : AllByRecursion MovesWhole lines
  pub count : moved_in lines ≡ steps

-- the same of directives, one after another
abbrev pub AreTaken : List Directive → State → State → ℕ → Type 0
AreTaken [] s t steps = (s ≡ t) × (steps ≡ 0)
AreTaken (d ∷ ds) s t steps = (next : State) × (here : ℕ) × (later : ℕ) × IsTaken d s next here × AreTaken ds next t later × (steps ≡ here + later)

pub taken_then : (xs ys : List Directive) (s t u : State) (a b c : ℕ) → AreTaken xs s t a → AreTaken ys t u b → c ≡ a + b → AreTaken (xs ++ ys) s u c
taken_then [] ys s t u a b c first second sum =
    let none : a ≡ 0 = first.1 in
    let same : b ≡ c = omega arith in
    subst (λ (z : State). AreTaken ys z u c) (sym first.0) (subst (λ (k : ℕ). AreTaken ys t u k) same second)
taken_then (x ∷ xs) ys s t u a b c first second sum =
    let parts : a ≡ first.1 + first.2 = first.5 in
    (first.0, first.1, first.2 + b, first.3, taken_then xs ys first.0 t u first.2 b (first.2 + b) first.4 second refl, omega arith)

-- a state that is as each directive leaves it leads to such states
pub taken_kept : (ds : List Directive) (s t : State) (steps : ℕ) → IsRunInvariant s → AreTaken ds s t steps → IsRunInvariant t
taken_kept [] s t steps kept taken = subst (λ (z : State). IsRunInvariant z) taken.0 kept
taken_kept (d ∷ ds) s t steps kept taken = taken_kept ds taken.0 t taken.2 (kept_next (without_field d) d s taken.0 (taken.3).lines kept (taken.3).goes) taken.4

pub moved-append : (xs ys : List LogLine) → moved_in (xs ++ ys) ≡ moved_in xs + moved_in ys
moved-append [] ys = omega arith
moved-append (x ∷ xs) ys = by_test (is_moved x) (moved-append xs ys)
  where
    by_test : (b : Bool) → moved_in (xs ++ ys) ≡ moved_in xs + moved_in ys → length (cond b (x ∷ filter is_moved (xs ++ ys)) (filter is_moved (xs ++ ys))) ≡ length (cond b (x ∷ filter is_moved xs) (filter is_moved xs)) + moved_in ys
    by_test true e = omega arith
    by_test false e = e

-- what a log tells
pub record IsTold (log : ExpectedLog) (steps : ℕ) : Type 0 where
  pub ending : log.ending ≡ Ended None
  pub whole : AllByRecursion MovesWhole log.lines
  pub count : moved_in log.lines ≡ steps

-- directives on lines from one on
abbrev pub on_lines_from : ℕ → List Directive → List Placed
on_lines_from line ds = map (λ d. record { line = d.0; what = d.1 }) (enumerate_from line ds)

pub told : (line : ℕ) (ds : List Directive) (s t : State) (steps : ℕ) → AreTaken ds s t steps → IsTold (log_from (without_fields (on_lines_from line ds)) (on_lines_from line ds) s) steps
told line [] s t steps taken = record { ending = refl; whole = (tt, tt); count = sym taken.1 }
told line (d ∷ ds) s t steps taken =
    let next : State = taken.0 in
    let lines = (taken.3).lines in
    let others : State → ExpectedLog = log_from (without_fields (on_lines_from (line + 1) ds)) (on_lines_from (line + 1) ds) in
    let rest = told (line + 1) ds next t taken.2 taken.4 in
    let here : moved_in lines ≡ taken.1 = (taken.3).count in
    let later : moved_in (others next).lines ≡ taken.2 = rest.count in
    let sum : steps ≡ taken.1 + taken.2 = taken.5 in
    subst (λ (e : Effect). IsTold (and_then line e others) steps) (sym (taken.3).goes) (record {
      ending = rest.ending;
      whole = all_joined MovesWhole lines (others next).lines (taken.3).whole rest.whole;
      count = omega (arith, moved-append lines (others next).lines, here, later, sum);
    })
