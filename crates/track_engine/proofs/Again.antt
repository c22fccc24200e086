-- What a run tells of motions and of edits can be done again.
use Rattle.std.specs.List.{AllByRecursion, IsDistinct, filter}
use Rattle.std.proofs.lemmas.List.Elements.{recursion_from_All}
use Rattle.std.proofs.lemmas.List.Folds.{list_any-append}
use Rattle.std.proofs.lemmas.Map.Keys.{IsDistinct-head, IsDistinct-tail}
use Rattle.std.proofs.Common.{take, ◌≡◌, ℕ, ◌+◌, ◌≤◌, ◌==◌, ◌||◌, Bool, true, false, not, eqb, is_some, List, [], ◌∷◌, ◌++◌, map, Option, Some, None, Result, Ok, Err, refl, ap, sym, ◌∙◌, subst}
use Rattle.std.specs.FinMap as finite
use Rattle.grid_base.specs.declared.TheConstants.{BOX, DEPTH_MAX}
use Rattle.grid_base.specs.Triples.{plus}
use Rattle.grid_base.specs.Points.{is_within}
use Rattle.grid_decided.specs.Decided.{meets_exactly, meets_exactly-is_exact}
use Rattle.mesh_base.specs.declared.PairName.{PairName}
use Rattle.mesh_base.specs.declared.ShiftOf.{ShiftOf}
use Rattle.mesh_base.specs.declared.UseWhy.{UseWhy}
use Rattle.mesh_base.specs.Failing.{failing, pair_passes}
use Rattle.mesh_base.specs.Mesh.{Mesh, IsLiveVertex, is_solid}
use Rattle.mesh_base.specs.Pairs.{Pair, pairs, edges}
use Rattle.mesh_base.specs.Placements.{Motion, rest_positions}
use Rattle.mesh_base.specs.Shifts.{Shifts, NameOnce, moved_by, end_in_box}
use Rattle.mesh_base.proofs.Deeper.{none_fails_deeper}
use Rattle.mesh_base.proofs.Moves.{both_true}
use Rattle.mesh_base.proofs.MovesNamed.{name_once, name_once_filtered, shift_filtered, end_filtered}
use Rattle.edit_base.specs.declared.PassKind.{PassKind}
use Rattle.edit_base.specs.declared.Asked.{Asked}
use Rattle.step_choose.specs.Settings.{AreWithinLimits}
use Rattle.step_choose.specs.Choice.{Way}
use Rattle.step_choose.proofs.Taken.{GoesWell}
use Rattle.step_text.specs.declared.Directive.{Directive}
use Rattle.step_text.specs.declared.Directive.TheVariants as directive
use Rattle.log_text.specs.declared.LogLine.{LogLine}
use Rattle.log_text.specs.declared.LogLine.TheVariants.{Move, Moved}
use Rattle.log_replay.specs.Replay.{Replay}
use Rattle.log_replay.specs.Moves.{is_named, end_of, AreMoves}
use Rattle.log_replay.specs.Again.{LineIsAgain, LinesAreAgain}
use Rattle.log_replay.proofs.Replaying.{each_then}
use Rattle.mesh_sizing.specs.declared.sizing.Want.{Want}
use Rattle.pass_run.specs.PassLines.{terms_of}
use Rattle.pass_run.specs.Fits.{turn_of, fit_rules}
use Rattle.pass_run.specs.Edits.{edit_rules}
use Rattle.pass_run.proofs.Again.{passes_again, all_again}
use Rattle.track_engine.specs.State.{Group, State, standing, is_open}
use Rattle.track_engine.specs.Answers.{Answer, Nothing, NoSuchField, FieldShifts, Wanted, WantedOfFirst, first, later}
use Rattle.track_engine.specs.Effects.{Effect, Proceeds, Refused, Unanswered, effect_of, shift_effect, drive_effect, fit_effect, fitted_lines, solid_effect, step_effect, close_effect, sum_of_one, sum_of_all, first_outside, hits, taken, moves, moving, hit_lines, block_lines, move_lines, way_lines, lines_of_step, passed_lines, edited_lines, undo_effect, and_then, log_from}
use Rattle.track_engine.specs.Invariant.{IsRunInvariant}
use Rattle.track_engine.specs.Again.{LogsAreAgain}
use Rattle.track_engine.specs.Asking.{CanBeDoneAgain, EditsCanBeDoneAgain, UndoCanBeDoneAgain}
use Rattle.track_engine.proofs.NoFiles.{after-moves, after-hits, after-blocks}
use Rattle.track_engine.proofs.Still.{still_of_rest, moving_free}
use Rattle.track_engine.proofs.Keeping.{no_move, well_taken, kept_next}
use Rattle.track_engine.proofs.Limits.{limits_next}
use Rattle.track_engine.proofs.Replayed.{effect_replayed}

-- ---- moves one after another

-- what is asked of a move by itself
record CanMove (m : Mesh) (s : ShiftOf) : Type 0 where
  pub live : IsLiveVertex m s.v
  pub free : is_solid m s.v ≡ false
  pub inside : is_within BOX (end_of m s) ≡ true

can_move : (m : Mesh) (shifts : Shifts) → AllByRecursion (λ s. IsLiveVertex m s.v) shifts → AllByRecursion (λ s. is_solid m s.v ≡ false) shifts → end_in_box m shifts ≡ true → AllByRecursion (CanMove m) shifts
can_move m [] live free inside = tt
can_move m (s ∷ rest) live free inside =
    let ends = both_true (is_within BOX (end_of m s)) (end_in_box m rest) inside in
    (record { live = live.0; free = free.0; inside = ends.0 }, can_move m rest live.1 free.1 ends.1)

-- no move of the first names a vertex of the others
abbrev AreNew : Shifts → Shifts → Type 0
AreNew done rest = AllByRecursion (λ s. is_named done s.v ≡ false) rest

new_after : (done rest : Shifts) (s : ShiftOf) → AreNew done rest → AllByRecursion (λ u. eqb s.v u ≡ false) (map (λ x. x.v) rest) → AreNew (done ++ s ∷ []) rest
new_after done [] s new apart = tt
new_after done (x ∷ rest) s new apart =
    (list_any-append (λ t. t.v == x.v) done (s ∷ []) ∙ ap (λ b. b || ((s.v == x.v) || false)) new.0 ∙ ap (λ b. b || false) apart.0, new_after done rest s new.1 apart.1)

none_before : (rest : Shifts) → AreNew [] rest
none_before [] = tt
none_before (s ∷ rest) = (refl, none_before rest)

moves_again : (m : Mesh) (stack : List Mesh) (done rest : Shifts) → AllByRecursion (CanMove m) rest → IsDistinct eqb (map (λ s. s.v) rest) → AreNew done rest
    → LinesAreAgain (record { mesh = m; moves = done; stack = stack }) (map (λ s. Move s) rest)
moves_again m stack done [] can once new = tt
moves_again m stack done (s ∷ rest) can once new = (
  record { live = can.0.live; free = can.0.free; first = new.0; inside = can.0.inside },
  moves_again m stack (done ++ s ∷ []) rest can.1 (IsDistinct-tail eqb s.v (map (λ x. x.v) rest) once) (new_after done rest s new.1 (IsDistinct-head eqb s.v (map (λ x. x.v) rest) once)),
)

-- ---- a step

hits_again : (from : Replay) (names : List PairName) → LinesAreAgain from (hit_lines names)
hits_again from [] = tt
hits_again from (p ∷ names) = (tt, hits_again from names)

blocks_again : (from : Replay) (blocks : List (List ℕ)) → LinesAreAgain from (block_lines blocks)
blocks_again from [] = tt
blocks_again from (ids ∷ blocks) = (tt, blocks_again from blocks)

-- the lines of a step that goes well
module _ (m : Mesh) (depth : ℕ) (most : depth ≤ DEPTH_MAX) (way : Way) (well : GoesWell m depth way.taken) where
  names : NameOnce m way.taken
  names = name_once m way.taken well.named

  those : AreMoves m (moving way.taken)
  those = record { once = name_once_filtered m moves way.taken names; inside = end_filtered m moves way.taken well.ends }

  free : AllByRecursion (λ s. is_solid m s.v ≡ false) (moving way.taken)
  free = moving_free m way.taken (still_of_rest m way.taken names.once well.solid)

  -- it is the same motion
  same_motion : moved_by m way.taken ≡ moved_by m (moving way.taken)
  same_motion = λ i. record { start = rest_positions m; end = λ v. plus (rest_positions m v) (sym (shift_filtered moves way.taken v no_move names.once) i) }

  none_fails : failing meets_exactly m (moving way.taken) DEPTH_MAX ≡ []
  none_fails =
      none_fails_deeper meets_exactly m (moving way.taken) depth DEPTH_MAX most
      (ap (λ (w : Motion). map (λ (p : Pair). p.name) (filter (λ p. not (pair_passes meets_exactly depth w p)) (pairs m))) (sym same_motion) ∙ well.passes)

  way_again : (stack : List Mesh) → LinesAreAgain (record { mesh = m; moves = []; stack = stack }) (way_lines way)
  way_again stack =
      let begun : Replay = record { mesh = m; moves = []; stack = stack } in
      let moved : List LogLine = Moved way.how ∷ [] in
      let P : Replay → Type 0 = λ r. LinesAreAgain r moved in
      let Q : Replay → Type 0 = λ r. LinesAreAgain r (move_lines way.taken ++ moved) in
      let can = can_move m (moving way.taken) (recursion_from_All (λ s. IsLiveVertex m s.v) (moving way.taken) those.once.live) free those.inside in
      each_then LineIsAgain begun (block_lines way.blocks) (move_lines way.taken ++ moved) (blocks_again begun way.blocks)
      (subst Q (sym (after-blocks begun way.blocks))
      (each_then LineIsAgain begun (move_lines way.taken) moved (moves_again m stack [] (moving way.taken) can those.once.once (none_before (moving way.taken)))
      (subst P (sym (after-moves begun (moving way.taken))) (record { moves = those; free = free; passes = none_fails }, tt))))

  lines_again : (k : ℕ) (names : List PairName) (stack : List Mesh) → LinesAreAgain (record { mesh = m; moves = []; stack = stack }) (lines_of_step k names way)
  lines_again k names stack =
      let begun : Replay = record { mesh = m; moves = []; stack = stack } in
      let P : Replay → Type 0 = λ r. LinesAreAgain r (way_lines way) in
      (tt, each_then LineIsAgain begun (hit_lines names) (way_lines way) (hits_again begun names) (subst P (sym (after-hits begun names)) (way_again stack)))

-- ---- a directive

abbrev pub IsAgain : State → Effect → Type 0
IsAgain s (Proceeds lines next) = LinesAreAgain (standing s) lines
IsAgain s (Unanswered lines) = LinesAreAgain (standing s) lines
IsAgain s (Refused why) = Unit {0}

shift_again : (s : State) (r : Result Shifts UseWhy) → IsAgain s (shift_effect r s)
shift_again s (Ok asked) = tt
shift_again s (Err why) = tt

drive_again : (given : Answer) (s : State) → IsAgain s (drive_effect given s)
drive_again (FieldShifts by) s = shift_again s (sum_of_all s.mesh by s.asked)
drive_again NoSuchField s = tt
drive_again Nothing s = tt
drive_again (Wanted wants) s = tt
drive_again (WantedOfFirst count wants) s = tt

solid_again : (s : State) (b : Bool) (v : ℕ) → IsAgain s (solid_effect b v s)
solid_again s true v = (tt, tt)
solid_again s false v = tt

close_again : (s : State) (groups : List Group) → IsAgain s (close_effect groups s)
close_again s [] = tt
close_again s (group ∷ outer) = (tt, tt)

step_again : (s : State) → AreWithinLimits s.set → IsRunInvariant s → (o : Option ℕ) → first_outside s.mesh s.asked ≡ o → IsAgain s (step_effect o s)
step_again s limits kept None e = lines_again s.mesh s.set.depth limits.depth (taken s) (well_taken s kept e) (s.steps + 1) (hits s) (map (λ g. g.mesh) s.groups)
step_again s limits kept (Some v) e = tt

pass_again : (kind : PassKind) (s : State) → AreWithinLimits s.set → LinesAreAgain (standing s) (passed_lines kind s)
unfolding passed_lines
pass_again kind s limits = passes_again meets_exactly meets_exactly-is_exact (standing s) (terms_of kind s.set.depth (is_open s.groups)) limits.depth

fit_lines_again : (wants : ℕ × ℕ → Want) (es : List (ℕ × ℕ)) (s : State) → AreWithinLimits s.set → LinesAreAgain (standing s) (fitted_lines wants es s)
unfolding fitted_lines
fit_lines_again wants es s limits = (tt, all_again (fit_rules meets_exactly wants s.set.depth (is_open s.groups)) meets_exactly-is_exact limits.depth (standing s) (map turn_of es))

fit_again : (given : Answer) (s : State) → AreWithinLimits s.set → IsAgain s (fit_effect given s)
fit_again (Wanted wants) s limits = fit_lines_again wants (edges s.mesh) s limits
fit_again (WantedOfFirst count wants) s limits = fit_lines_again wants (take count (edges s.mesh)) s limits
fit_again (FieldShifts by) s limits = tt
fit_again NoSuchField s limits = tt
fit_again Nothing s limits = tt

pub effect_again : (given : Answer) (what : Directive) (s : State) → AreWithinLimits s.set → IsRunInvariant s → IsAgain s (effect_of given what s)
effect_again given (directive.SetDepth depth) s limits kept = tt
effect_again given (directive.SetPasses passes) s limits kept = tt
effect_again given (directive.SetZones zones) s limits kept = tt
effect_again given (directive.SetHalvings halvings) s limits kept = tt
effect_again given (directive.ShiftOne v by) s limits kept = shift_again s (sum_of_one s.mesh v by s.asked)
effect_again given (directive.ShiftAll by) s limits kept = shift_again s (sum_of_all s.mesh (λ v. by) s.asked)
effect_again given (directive.Drive name) s limits kept = drive_again given s
effect_again given (directive.Solid v) s limits kept = solid_again s (is_some (finite.get s.mesh.points v)) v
effect_again given directive.Step s limits kept = step_again s limits kept (first_outside s.mesh s.asked) refl
effect_again given (directive.Pass kind) s limits kept = pass_again kind s limits
effect_again given directive.Fit s limits kept = fit_again given s limits
effect_again given directive.Save s limits kept = (tt, tt)
effect_again given directive.Group s limits kept = (tt, tt)
effect_again given directive.Close s limits kept = close_again s s.groups

-- ---- edits that are asked for, and a group that is taken back

edited_again : (asked : List Asked) (s : State) → AreWithinLimits s.set → LinesAreAgain (standing s) (edited_lines asked s)
unfolding edited_lines
edited_again asked s limits = all_again (edit_rules meets_exactly s.set.depth (is_open s.groups)) meets_exactly-is_exact limits.depth (standing s) asked

pub edits_again : EditsCanBeDoneAgain
edits_again asked s limits = edited_again asked s limits

undo_by : (groups : List Group) (s : State) → CanBeDoneAgain s (undo_effect groups s)
undo_by [] s = tt
undo_by (group ∷ outer) s = (tt, tt)

pub undo_again : UndoCanBeDoneAgain
undo_again s = undo_by s.groups s

-- ---- all directives

pub told_again : LogsAreAgain
told_again answers [] s range limits kept = (tt, tt)
told_again answers (p ∷ steps) s range limits kept =
    by_effect (effect_of (first answers) p.what s) refl (effect_again (first answers) p.what s limits kept)
    (λ next lines e. told_again (later answers) steps next range.1 (limits_next (first answers) p.what s next lines range.0 limits e) (kept_next (first answers) p.what s next lines kept e))
  where
    by_effect : (t : Effect) → effect_of (first answers) p.what s ≡ t → IsAgain s t
        → ((next : State) (lines : List LogLine) → effect_of (first answers) p.what s ≡ Proceeds lines next → LinesAreAgain (standing next) (log_from (later answers) steps next).lines)
        → LinesAreAgain (standing s) (and_then p.line t (log_from (later answers) steps)).lines
    by_effect (Proceeds lines next) e again others =
        let rest = (log_from (later answers) steps next).lines in
        let P : Replay → Type 0 = λ r. LinesAreAgain r rest in
        each_then LineIsAgain (standing s) lines rest again (subst P (sym (effect_replayed (first answers) p.what s next lines e)) (others next lines e))
    by_effect (Refused why) e again others = (tt, tt)
    by_effect (Unanswered lines) e again others = each_then LineIsAgain (standing s) lines [] again tt
