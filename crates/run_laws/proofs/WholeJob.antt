-- The three steps of the job, and the pass and the save after them.
use Rattle.std.proofs.Common.{◌≡◌, ℕ, suc, ◌+◌, ◌*◌, ◌<◌, false, cond, List, [], ◌∷◌, ◌++◌, map, length, refl, ap, ◌∙◌, arith}
use Rattle.std.specs.List.{AllByRecursion, enumerate_from, range_with_len, filter}
use Rattle.std.specs.FinMap as finite
use Rattle.std.specs.Map.{keys_of}
use Rattle.std.proofs.lemmas.List.{length-map}
use Rattle.grid_base.specs.Points.{point_at}
use Rattle.grid_decided.specs.Decided.{meets_exactly}
use Rattle.mesh_base.proofs.Ordered.{entries-of_sorted}
use Rattle.mesh_base.proofs.Finite.{none_in_empty}
use Rattle.mesh_shape.proofs.Lists.{sorted_numbers}
use Rattle.edit_base.specs.declared.PassKind.{PassKind}
use Rattle.edit_base.specs.declared.PassKind.TheVariants as pass
use Rattle.step_text.specs.declared.Directive.TheVariants as directive
use Rattle.log_text.specs.declared.LogLine.{LogLine}
use Rattle.log_text.specs.declared.LogLine.TheVariants.{Pass, PassFit, Did, No}
use Rattle.log_replay.specs.OfPass.{IsOfPass, AreOfPass}
use Rattle.pass_run.specs.PassLines.{terms_of}
use Rattle.pass_run.proofs.Replaying.{pass_is}
use Rattle.mesh_make.specs.Cubes.{IsRow, cubes_lists, cubes_mesh}
use Rattle.mesh_make.specs.CubeSteps.{shifts_in, step_of, cubes_directives}
use Rattle.mesh_make.proofs.Shape.{count-points, cubes_are_sound, cubes_are_closed}
use Rattle.mesh_make.proofs.Clear.{cubes_are_clear}
use Rattle.mesh_make.proofs.Standing.{stands}
use Rattle.track_engine.specs.State.{State, start, is_open, still_at}
use Rattle.track_engine.specs.Effects.{mesh_line, passed_lines, after_pass, after_step}
use Rattle.track_engine.specs.Invariant.{IsRunInvariant}
use Rattle.track_engine.proofs.Keeping.{kept_start}
use Rattle.run_laws.specs.Whole.{MovesWhole, is_moved, moved_in, log_of_cubes}
use Rattle.run_laws.proofs.Taking.{IsTaken, AreTaken, taken_then, taken_kept, IsTold, told}
use Rattle.run_laws.proofs.Places.{spot-zero}
use Rattle.run_laws.proofs.Asking.{given, all_asked}
use Rattle.run_laws.proofs.Moving.{ids_of, shift_in}
use Rattle.run_laws.proofs.Stepping.{AreBetween, step_taken, between_again}

-- ---- where the job begins
keys_numbered : {X : Type 0} (k : ℕ) (xs : List X) → keys_of (enumerate_from k xs) ≡ range_with_len k (length xs)
keys_numbered k [] = refl
keys_numbered k (x ∷ xs) = ap (λ l. k ∷ l) (keys_numbered (k + 1) xs)

ids_at_first : (n : ℕ) → finite.keys (cubes_mesh n).points ≡ ids_of n
ids_at_first n =
    let points = map point_at (cubes_lists n).points in
    ap keys_of (entries-of_sorted (enumerate_from 1 points) (sorted_numbers 1 points)) ∙ keys_numbered 1 points
    ∙ ap (range_with_len 1) (length-map (cubes_lists n).points point_at ∙ count-points n)

begins : (n key : ℕ) → IsRow n → AreBetween n key 0 (start (cubes_mesh n))
begins n key row = record {
  moved = record {
    ids = ids_at_first n;
    pairs = λ p is. is;
    free = λ v. none_in_empty (Unit {0}) v;
    places = λ cube v there of. stands n cube v row there of ∙ spot-zero n key cube v;
  };
  kept = kept_start (cubes_mesh n) (record { sound = cubes_are_sound n row; closed = cubes_are_closed n; clear = cubes_are_clear n row });
  asked = ap (map still_at) (ids_at_first n);
}

-- ---- a step of the job
record StepGoes (n key k : ℕ) (s : State) : Type 0 where
  then : State
  taken : AreTaken (step_of n key (suc k)) s then 1
  between : AreBetween n key (suc k) then

step_goes : (n key k : ℕ) → IsRow n → k < 3 → (s : State) → AreBetween n key k s → StepGoes n key k s
step_goes n key k row few s at =
    let asked : State = record s { asked = map (given (shift_in key (suc k))) (ids_of n) } in
    let shifts = all_asked (shift_in key (suc k)) (8 * (n * n * n)) s at.moved.free at.asked in
    let kept : IsRunInvariant asked = taken_kept (shifts_in n key (suc k)) s asked 0 at.kept shifts in
    let one = step_taken n key k row few asked at.moved kept refl in
    record {
      then = after_step asked;
      taken = taken_then (shifts_in n key (suc k)) (directive.Step ∷ []) s asked (after_step asked) 0 1 1 shifts (after_step asked, 1, 0, one, (refl, refl), refl) refl;
      between = between_again n key k row few asked at.moved kept refl;
    }

-- ---- the pass and the save
line_of_pass : (line : LogLine) → IsOfPass line → MovesWhole line × (is_moved line ≡ false)
line_of_pass (Pass kind) h = (tt, refl)
line_of_pass PassFit h = (tt, refl)
line_of_pass (Did change) h = (tt, refl)
line_of_pass (No what why) h = (tt, refl)
line_of_pass line h = absurd h

lines_of_pass : (lines : List LogLine) → AreOfPass lines → AllByRecursion MovesWhole lines × (moved_in lines ≡ 0)
lines_of_pass [] h = (tt, refl)
lines_of_pass (line ∷ lines) h =
    let here = line_of_pass line h.0 in
    let rest = lines_of_pass lines h.1 in
    ((here.0, rest.0), not_counted line lines here.1 ∙ rest.1)
  where
    not_counted : (line : LogLine) (lines : List LogLine) → is_moved line ≡ false → moved_in (line ∷ lines) ≡ moved_in lines
    not_counted line lines e = ap (λ b. length (cond b (line ∷ filter is_moved lines) (filter is_moved lines))) e

pass_lines_are : (kind : PassKind) (s : State) → AreOfPass (passed_lines kind s)
unfolding passed_lines
pass_lines_are kind s = pass_is meets_exactly (terms_of kind s.set.depth (is_open s.groups)) s.mesh

pass_taken : (kind : PassKind) (s : State) → IsTaken (directive.Pass kind) s (after_pass kind s) 0
pass_taken kind s =
    let lines = lines_of_pass (passed_lines kind s) (pass_lines_are kind s) in
    record { lines = passed_lines kind s; goes = refl; whole = lines.0; count = lines.1 }

save_taken : (s : State) → IsTaken directive.Save s (record s { saved = s.saved + 1 }) 0
save_taken s = record { lines = mesh_line s.saved s.mesh ∷ []; goes = refl; whole = (tt, tt); count = refl }

-- ---- the whole job

-- after the pass and the save that follow a state
abbrev pub saved_after : State → State
saved_after s = let split : State = after_pass (pass.Split 50) s in record split { saved = split.saved + 1 }

-- how the job ends, and where it stood after its third step
pub record JobEnds (n key : ℕ) : Type 0 where
  pub third : State
  pub between : AreBetween n key 3 third
  pub taken : AreTaken (cubes_directives n key) (start (cubes_mesh n)) (saved_after third) 3

pub job_ends : (n key : ℕ) → IsRow n → JobEnds n key
job_ends n key row =
    let first = step_goes n key 0 row (let few : 0 < 3 = omega arith in few) (start (cubes_mesh n)) (begins n key row) in
    let second = step_goes n key 1 row (let few : 1 < 3 = omega arith in few) first.then first.between in
    let third = step_goes n key 2 row (let few : 2 < 3 = omega arith in few) second.then second.between in
    let split : State = after_pass (pass.Split 50) third.then in
    let two = taken_then (step_of n key 1) (step_of n key 2) (start (cubes_mesh n)) first.then second.then 1 1 2 first.taken second.taken refl in
    let three = taken_then (step_of n key 1 ++ step_of n key 2) (step_of n key 3) (start (cubes_mesh n)) second.then third.then 2 1 3 two third.taken refl in
    record {
      third = third.then;
      between = third.between;
      taken = taken_then (step_of n key 1 ++ step_of n key 2 ++ step_of n key 3) (directive.Pass (pass.Split 50) ∷ directive.Save ∷ []) (start (cubes_mesh n)) third.then (saved_after third.then) 3 0 3 three
          (split, 0, 0, pass_taken (pass.Split 50) third.then, (saved_after third.then, 0, 0, save_taken split, (refl, refl), refl), refl) refl;
    }

pub job_told : (n key : ℕ) → IsRow n → IsTold (log_of_cubes n key) 3
job_told n key row = let ends = job_ends n key row in told 1 (cubes_directives n key) (start (cubes_mesh n)) (saved_after ends.third) 3 ends.taken
