-- Every mesh and motion of a log keeps its promise.
use Rattle.std.specs.Prelude.{nat_lt}
use Rattle.std.specs.List.{AllByRecursion}
use Rattle.std.proofs.lemmas.Bool.{false≢true}
use Rattle.std.proofs.Common.{take, ◌≡◌, ℕ, ◌+◌, ◌==◌, Bool, true, false, cond, not, is_some, List, [], ◌∷◌, ◌++◌, map, Option, Some, None, Result, Ok, Err, refl, ap, sym, ◌∙◌, subst, ℤ, pos, unsigned_abs, ◌≤◌, arith}
use Rattle.std.specs.Option.{unwrap_or}
use Rattle.std.specs.FinMap as finite
use Rattle.std.proofs.lemmas.Int.{ints}
use Rattle.grid_base.proofs.MeetingLaws.{same_triple}
use Rattle.grid_base.specs.declared.TheConstants.{SHIFT_MAX}
use Rattle.grid_base.specs.declared.Shift.{Shift}
use Rattle.grid_base.specs.Triples.{plus}
use Rattle.grid_base.specs.Points.{displacement_of, is_within}
use Rattle.grid_base.proofs.PointLaws.{within_of}
use Rattle.mesh_base.specs.declared.ShiftOf.{ShiftOf}
use Rattle.mesh_base.specs.declared.UseWhy.{UseWhy}
use Rattle.mesh_base.specs.declared.UseWhy.TheVariants.{ShiftRange}
use Rattle.mesh_base.specs.Mesh.{Mesh, is_solid}
use Rattle.mesh_base.specs.Changes.{with_solid}
use Rattle.mesh_base.proofs.MeshLaws.{sound-with_solid}
use Rattle.grid_base.specs.Meeting.{MeetAt}
use Rattle.grid_base.specs.Motion.{position_at}
use Rattle.mesh_base.specs.Placements.{origin, rest_positions, at_fraction, IsClearAlong}
use Rattle.mesh_base.specs.Shifts.{Shifts, NameLive, NameOnce, with_shift, shift_at, moved_by}
use Rattle.mesh_base.proofs.Moves.{same_positions, sound-with_moves, closed-with_moves, clear_after_moves}
use Rattle.mesh_base.proofs.KeysKept.{keys-with_moves}
use Rattle.mesh_base.proofs.MovesNamed.{name_once, name_once_filtered, shift_filtered, end_filtered}
use Rattle.mesh_base.specs.declared.PairName.{PairName}
use Rattle.step_choose.specs.declared.Settings.{Settings}
use Rattle.step_choose.specs.Choice.{Way}
use Rattle.step_choose.proofs.Taken.{GoesWell, taken_well}
use Rattle.step_text.specs.declared.Placed.{Placed}
use Rattle.step_text.specs.declared.Directive.{Directive}
use Rattle.step_text.specs.declared.Directive.TheVariants as directive
use Rattle.log_text.specs.declared.LogLine.{LogLine}
use Rattle.log_text.specs.declared.LogLine.TheVariants.{Move, Moved, Close}
use Rattle.log_replay.specs.Replay.{Replay, after, replayed, closed}
use Rattle.edit_base.specs.declared.Asked.{Asked}
use Rattle.track_engine.specs.Kept.{LineHolds, LogIsSafe, IsSavedWell}
use Rattle.track_engine.specs.Asking.{EditsKeepTheRun, UndoKeepsTheRun}
use Rattle.log_replay.specs.Safe.{MotionIsSafe}
use Rattle.log_replay.proofs.Replaying.{each_then}
use Rattle.track_engine.specs.State.{Group, State, start, standing, no_shifts, still_at, asked_of, still_asked, asked_in}
use Rattle.mesh_base.specs.Valid.{IsValidSurface}
use Rattle.track_engine.proofs.Passing.{PassKeeps, pass_keeps, fit_keeps, edits_keep}
use Rattle.track_engine.proofs.ReadAgain.{read_again}
use Rattle.mesh_base.specs.Pairs.{edges}
use Rattle.track_engine.specs.Invariant.{IsAskedWell, IsRunInvariant}
use Rattle.track_engine.specs.Effects.{Effect, Proceeds, Refused, Unanswered, ExpectedLog, effect_of, shift_effect, drive_effect, set_effect, solid_effect, close_effect, step_effect, kept_whole, taken_back, is_whole, summed, first_beyond, all_summed, sum_or_range, sum_of_all, passed_lines, passed_mesh, after_lines, fitted_lines, fitted_mesh, fit_effect, edited_lines, edited_mesh, after_edits, edits_effect, undo_effect, one_summed, sum_at, sum_of_one, first_outside, hits, taken, moves, moving, moved_mesh, hit_lines, block_lines, move_lines, way_lines, lines_of_step, all_still, one_still, step_lines, after_step, and_then, log_from}
use Rattle.track_engine.specs.Answers.{Answer, Nothing, NoSuchField, FieldShifts, Wanted, WantedOfFirst, Answers, first, later}
use Rattle.track_engine.proofs.NoFiles.{after-step_lines, after-moves, after-hits, after-blocks}
use Rattle.track_engine.proofs.StepLemmas.{all_inside, ids_of_still}
use Rattle.pass_run.specs.PassLines.{refused_in}
use Rattle.track_engine.proofs.Still.{SolidsAreStill, rest_of_still, still_of_rest, clear-with_solid, moving_free, all_still_are, none_asked, sums_still, one_still_sum, ids_of_still_one, solid_still, groups_kept}
use Rattle.track_engine.proofs.EffectLemmas.{ids_of_sums, names_at_first}
use Rattle.track_engine.proofs.AskedLemmas.{still_named}

-- ---- lines one after the other

keeps_append : (xs ys : List LogLine) (from : Replay) → LogIsSafe from xs → LogIsSafe (after from xs) ys → LogIsSafe from (xs ++ ys)
keeps_append xs ys from k l = each_then LineHolds from xs ys k l

-- none of them is of a solid vertex
keeps_moves : (shifts : Shifts) (from : Replay) → AllByRecursion (λ s. is_solid from.mesh s.v ≡ false) shifts → LogIsSafe from (map (λ s. Move s) shifts)
keeps_moves [] from free = tt
keeps_moves (s ∷ rest) from free = (free.0, keeps_moves rest (replayed from (Move s)) free.1)

keeps_hits : (pairs : List PairName) (from : Replay) → LogIsSafe from (hit_lines pairs)
keeps_hits [] from = tt
keeps_hits (p ∷ pairs) from = (tt, keeps_hits pairs from)

keeps_blocks : (blocks : List (List ℕ)) (from : Replay) → LogIsSafe from (block_lines blocks)
keeps_blocks [] from = tt
keeps_blocks (ids ∷ blocks) from = (tt, keeps_blocks blocks from)

-- ---- a step

pub no_move : (s : ShiftOf) → moves s ≡ false → displacement_of s.by ≡ origin
no_move s e =
    let h = within_of 0 (displacement_of s.by) (not_false (is_within 0 (displacement_of s.by)) e) in
    same_triple (displacement_of s.by) origin (zero_of (displacement_of s.by).x h.x_fits) (zero_of (displacement_of s.by).y h.y_fits) (zero_of (displacement_of s.by).z h.z_fits)
  where
    not_false : (b : Bool) → not b ≡ false → b ≡ true
    not_false true e = refl
    not_false false e = absurd cc

    zero_of : (x : ℤ) → unsigned_abs x ≤ 0 → x ≡ pos 0
    zero_of x h = omega (arith, ints)

-- shifts that are each vertex's are clear along alike
clear_alike : (m : Mesh) (xs ys : Shifts) → ((v : ℕ) → shift_at xs v ≡ shift_at ys v) → IsClearAlong m (moved_by m ys) → IsClearAlong m (moved_by m xs)
clear_alike m xs ys same along p q some within pair is meet =
    along p q some within pair is
    (subst MeetAt (same_positions (at_fraction p q (moved_by m xs)) (at_fraction p q (moved_by m ys)) pair (λ v. ap (λ t. position_at p q (rest_positions m v) (plus (rest_positions m v) t)) (same v))) meet)

-- the lines of a step that goes well and moves no solid vertex, and the mesh after it
module _ {depth : ℕ} (m : Mesh) (good : IsValidSurface m) (k : ℕ) (pairs : List PairName) (way : Way) (well : GoesWell m depth way.taken) where
  names : NameOnce m way.taken
  names = name_once m way.taken well.named

  once : NameOnce m (moving way.taken)
  once = name_once_filtered m moves way.taken names

  clear_along : IsClearAlong m (moved_by m (moving way.taken))
  clear_along = clear_alike m (moving way.taken) way.taken (λ v. shift_filtered moves way.taken v no_move names.once) well.clear

  good_after : IsValidSurface (moved_mesh m way.taken)
  good_after = record {
    sound = sound-with_moves m (moving way.taken) good.sound once.live;
    closed = closed-with_moves m (moving way.taken) good.closed;
    clear = clear_after_moves m (moving way.taken) once.once (end_filtered m moves way.taken well.ends) clear_along;
  }

  moves_well : (stack : List Mesh) → MotionIsSafe (record { mesh = m; moves = moving way.taken; stack = stack })
  moves_well stack = record { before = good; along = clear_along; after = good_after }

  free : AllByRecursion (λ s. is_solid m s.v ≡ false) (moving way.taken)
  free = moving_free m way.taken (still_of_rest m way.taken names.once well.solid)

  keeps_way : (stack : List Mesh) → LogIsSafe (record { mesh = m; moves = []; stack = stack }) (way_lines way)
  keeps_way stack =
      let begun : Replay = record { mesh = m; moves = []; stack = stack } in
      let moved : List LogLine = Moved way.how ∷ [] in
      let P : Replay → Type 0 = λ r. LogIsSafe r moved in
      let Q : Replay → Type 0 = λ r. LogIsSafe r (move_lines way.taken ++ moved) in
      keeps_append (block_lines way.blocks) (move_lines way.taken ++ moved) begun (keeps_blocks way.blocks begun)
      (subst Q (sym (after-blocks begun way.blocks)) (keeps_append (move_lines way.taken) moved begun (keeps_moves (moving way.taken) begun free) (subst P (sym (after-moves begun (moving way.taken))) (moves_well stack, tt))))

  keeps_lines : (stack : List Mesh) → LogIsSafe (record { mesh = m; moves = []; stack = stack }) (lines_of_step k pairs way)
  keeps_lines stack =
      let begun : Replay = record { mesh = m; moves = []; stack = stack } in
      let P : Replay → Type 0 = λ r. LogIsSafe r (way_lines way) in
      (tt, keeps_append (hit_lines pairs) (way_lines way) begun (keeps_hits pairs begun) (subst P (sym (after-hits begun pairs)) (keeps_way stack)))

  -- the same vertices live
  keys_after : (asked : Shifts) → NameLive m asked → NameLive (moved_mesh m way.taken) (all_still asked)
  keys_after asked named = ids_of_still asked ∙ named ∙ sym (keys-with_moves m (moving way.taken) once.live)

-- the way that is taken goes well
pub well_taken : (s : State) → IsRunInvariant s → first_outside s.mesh s.asked ≡ None → GoesWell s.mesh s.set.depth (taken s).taken
unfolding taken
well_taken s kept inside = taken_well s.mesh s.asked s.set kept.now.good.sound kept.now.good.clear kept.now.names (all_inside s.mesh s.asked inside) kept.now.still

pub kept_after : (s : State) → IsRunInvariant s → first_outside s.mesh s.asked ≡ None → IsRunInvariant (after_step s)
kept_after s kept inside =
    let well = well_taken s kept inside in
    record {
      now = record {
        good = good_after s.mesh kept.now.good (s.steps + 1) (hits s) (taken s) well;
        names = keys_after s.mesh kept.now.good (s.steps + 1) (hits s) (taken s) well s.asked kept.now.names;
        still = rest_of_still (moved_mesh s.mesh (taken s).taken) (all_still s.asked) (all_still_are (moved_mesh s.mesh (taken s).taken) s.asked);
      };
      groups = groups_kept (not (is_whole (taken s).how)) s.groups kept.groups;
    }

keeps_step : (s : State) → IsRunInvariant s → first_outside s.mesh s.asked ≡ None → LogIsSafe (standing s) (step_lines s)
keeps_step s kept inside = keeps_lines s.mesh kept.now.good (s.steps + 1) (hits s) (taken s) (well_taken s kept inside) (map (λ g. g.mesh) s.groups)

-- ---- a directive

abbrev pub KeepsEffect : State → Effect → Type 0
KeepsEffect s (Proceeds lines next) = LogIsSafe (standing s) lines × (after (standing s) lines ≡ standing next) × IsRunInvariant next
KeepsEffect s (Refused why) = Unit {0}
KeepsEffect s (Unanswered lines) = LogIsSafe (standing s) lines

ids_of_one : (v : ℕ) (by : Shift) (asked : Shifts) → map (λ s. s.v) (one_summed v by asked) ≡ map (λ s. s.v) asked
ids_of_one v by [] = refl
ids_of_one v by (s ∷ rest) = ap (λ id. id ∷ map (λ x. x.v) (one_summed v by rest)) (by_test (s.v == v)) ∙ ap (λ ids. s.v ∷ ids) (ids_of_one v by rest)
  where
    by_test : (b : Bool) → (cond b (with_shift s (summed by s)) s).v ≡ s.v
    by_test true = refl
    by_test false = refl

-- what is asked after a pass names the live vertices
ids_of : (m : Mesh) (asked : Shifts) (ids : List ℕ) → map (λ s. s.v) (map (still_asked m asked) ids) ≡ ids
ids_of m asked [] = refl
ids_of m asked (v ∷ ids) = ap (λ w. w ∷ map (λ s. s.v) (map (still_asked m asked) ids)) (still_named m asked v) ∙ ap (λ l. v ∷ l) (ids_of m asked ids)

pub ids_in : (m : Mesh) (asked : Shifts) → NameLive m (asked_in m asked)
ids_in m asked = ids_of m asked (finite.keys m.points)

-- nothing is asked of a solid vertex after a pass
pub asked_still : (m : Mesh) (asked : Shifts) (ids : List ℕ) → SolidsAreStill m (map (still_asked m asked) ids)
asked_still m asked [] = tt
asked_still m asked (v ∷ ids) = (by_test (is_solid m v) refl, asked_still m asked ids)
  where
    by_test : (b : Bool) → is_solid m v ≡ b → is_solid m (still_asked m asked v).v ≡ true → displacement_of (still_asked m asked v).by ≡ origin
    by_test true e solid = ap (λ c. displacement_of (cond c (still_at v) (unwrap_or (asked_of v asked) (still_at v))).by) e
    by_test false e solid = absurd (false≢true (sym e ∙ ap (is_solid m) (sym (still_named m asked v)) ∙ solid))

-- what is asked from here on names the same vertices
-- and nothing of a solid one
abbrev AsksWell : Mesh → Shifts → Shifts → Type 0
AsksWell m asked now = (map (λ s. s.v) now ≡ map (λ s. s.v) asked) × (SolidsAreStill m asked → SolidsAreStill m now)

well_of_all : (m : Mesh) (by : ℕ → Shift) (asked now : Shifts) (o : Option ℕ) → sum_or_range o m by asked ≡ Ok now → AsksWell m asked now
well_of_all m by asked now None e =
    let same : all_summed m by asked ≡ now = cc in
    let P : Shifts → Type 0 = λ l. AsksWell m asked l in
    subst P same (ids_of_sums m by asked, sums_still m by asked)
well_of_all m by asked now (Some v) e = absurd cc

well_of_one : (m : Mesh) (v : ℕ) (by : Shift) (asked now : Shifts) (o : Option ShiftOf) (b : Bool) → is_solid m v ≡ b → sum_at o b v by asked ≡ Ok now → AsksWell m asked now
well_of_one m v by asked now None b free e = absurd cc
well_of_one m v by asked now (Some s) true free e = absurd cc
well_of_one m v by asked now (Some s) false free e = by_test (is_within SHIFT_MAX (summed by s)) e
  where
    by_test : (b : Bool) → cond b (Ok (one_summed v by asked)) (Err (ShiftRange v)) ≡ Ok now → AsksWell m asked now
    by_test true e =
        let same : one_summed v by asked ≡ now = cc in
        let P : Shifts → Type 0 = λ l. AsksWell m asked l in
        subst P same (ids_of_one v by asked, one_still_sum m v by free asked)
    by_test false e = absurd cc

-- what is asked is nothing of a solid vertex, one after the other
still_now : (s : State) → IsAskedWell s.mesh s.asked → SolidsAreStill s.mesh s.asked
still_now s well = still_of_rest s.mesh s.asked (name_once s.mesh s.asked well.names).once well.still

kept_with : (s : State) → IsRunInvariant s → (now : Shifts) → AsksWell s.mesh s.asked now → IsRunInvariant (record s { asked = now })
kept_with s kept now well = record { now = record { good = kept.now.good; names = well.0 ∙ kept.now.names; still = rest_of_still s.mesh now (well.1 (still_now s kept.now)) }; groups = kept.groups }

keeps_shift : (s : State) → IsRunInvariant s → (r : Result Shifts UseWhy) → ((now : Shifts) → r ≡ Ok now → AsksWell s.mesh s.asked now) → KeepsEffect s (shift_effect r s)
keeps_shift s kept (Ok asked) well = (tt, refl, kept_with s kept asked (well asked refl))
keeps_shift s kept (Err why) well = tt

-- what is asked from here on is asked of the same vertices
one_well : (v : ℕ) (by : Shift) (s : State) (now : Shifts) → sum_of_one s.mesh v by s.asked ≡ Ok now → AsksWell s.mesh s.asked now
one_well v by s now e = well_of_one s.mesh v by s.asked now (asked_of v s.asked) (is_solid s.mesh v) refl e

all_well : (by : ℕ → Shift) (s : State) (now : Shifts) → sum_of_all s.mesh by s.asked ≡ Ok now → AsksWell s.mesh s.asked now
all_well by s now e = well_of_all s.mesh by s.asked now (first_beyond s.mesh by s.asked) e

keeps_drive : (given : Answer) (s : State) → IsRunInvariant s → KeepsEffect s (drive_effect given s)
keeps_drive (FieldShifts by) s kept = keeps_shift s kept (sum_of_all s.mesh by s.asked) (all_well by s)
keeps_drive NoSuchField s kept = tt
keeps_drive Nothing s kept = tt
keeps_drive (Wanted wants) s kept = tt
keeps_drive (WantedOfFirst count wants) s kept = tt

-- a pass that keeps the mesh
keeps_pass : (told : List LogLine) (left : Mesh) (s : State) → IsRunInvariant s → PassKeeps told left s → KeepsEffect s (Proceeds told (after_lines told left s))
keeps_pass told left s kept pass = (
  pass.lines,
  pass.replay,
  record {
    now = record { good = pass.good; names = ids_in left s.asked; still = rest_of_still left (asked_in left s.asked) (asked_still left s.asked (finite.keys left.points)) };
    groups = groups_kept (nat_lt 0 (refused_in told)) s.groups kept.groups;
  },
)

keeps_fit : (given : Answer) (s : State) → IsRunInvariant s → KeepsEffect s (fit_effect given s)
keeps_fit (Wanted wants) s kept = keeps_pass (fitted_lines wants (edges s.mesh) s) (fitted_mesh wants (edges s.mesh) s) s kept (fit_keeps wants (edges s.mesh) s kept.now.good)
keeps_fit (WantedOfFirst count wants) s kept = (fit_keeps wants (take count (edges s.mesh)) s kept.now.good).lines
keeps_fit (FieldShifts by) s kept = tt
keeps_fit NoSuchField s kept = tt
keeps_fit Nothing s kept = tt

keeps_set : (s : State) (set : Settings) → IsRunInvariant s → KeepsEffect s (set_effect set s)
keeps_set s set kept = (tt, refl, record { now = kept.now; groups = kept.groups })

-- a vertex that is made solid
keeps_solid : (s : State) (v : ℕ) → IsRunInvariant s → (b : Bool) → is_some (finite.get s.mesh.points v) ≡ b → KeepsEffect s (solid_effect b v s)
keeps_solid s v kept true live = (
  (tt, tt),
  refl,
  record {
    now = record {
      good = record { sound = sound-with_solid s.mesh v kept.now.good.sound live; closed = kept.now.good.closed; clear = clear-with_solid s.mesh v kept.now.good.clear };
      names = ids_of_still_one v s.asked ∙ kept.now.names;
      still = rest_of_still (with_solid s.mesh v) (one_still v s.asked) (solid_still s.mesh v s.asked (still_now s kept.now));
    };
    groups = kept.groups;
  },
)
keeps_solid s v kept false live = tt

-- a group that is closed
keeps_close : (s : State) → IsRunInvariant s → (groups : List Group) → s.groups ≡ groups → KeepsEffect s (close_effect groups s)
keeps_close s kept [] e = (tt, refl, kept)
keeps_close s kept (group ∷ outer) e = by_test group.failed
  where
    those : AllByRecursion (λ g. IsAskedWell g.mesh g.asked) (group ∷ outer)
    those = let P : List Group → Type 0 = λ l. AllByRecursion (λ g. IsAskedWell g.mesh g.asked) l in subst P e kept.groups

    stack_is : map (λ g. g.mesh) s.groups ≡ map (λ g. g.mesh) (group ∷ outer)
    stack_is = ap (λ (l : List Group). map (λ g. g.mesh) l) e

    by_test : (b : Bool) → KeepsEffect s (Proceeds (Close (not b) ∷ []) (cond b (taken_back group outer s) (kept_whole outer s)))
    by_test true =
        let made : closed false (map (λ g. g.mesh) s.groups) (standing s) ≡ standing (taken_back group outer s) = ap (λ (l : List Mesh). closed false l (standing s)) stack_is in
        let P : Replay → Type 0 = λ r. IsValidSurface r.mesh in
        ((subst P (sym made) those.0.good, tt), made, record { now = those.0; groups = those.1 })
    by_test false =
        let made : closed true (map (λ g. g.mesh) s.groups) (standing s) ≡ standing (kept_whole outer s) = ap (λ (l : List Mesh). closed true l (standing s)) stack_is in
        let P : Replay → Type 0 = λ r. IsValidSurface r.mesh in
        ((subst P (sym made) kept.now.good, tt), made, record { now = kept.now; groups = those.1 })

keeps_step_effect : (s : State) → IsRunInvariant s → (o : Option ℕ) → first_outside s.mesh s.asked ≡ o → KeepsEffect s (step_effect o s)
keeps_step_effect s kept None e = (keeps_step s kept e, after-step_lines s, kept_after s kept e)
keeps_step_effect s kept (Some v) e = tt

pub saved_well : (r : Replay) → IsValidSurface r.mesh → IsSavedWell r (finite.len r.mesh.points) (finite.len r.mesh.faces)
saved_well r good = record { vertex_count = refl; face_count = refl; sound = good.sound; closed = good.closed; clear = good.clear; read_again = read_again r.mesh good.sound good.closed good.clear }

pub keeps_effect : (given : Answer) (what : Directive) (s : State) → IsRunInvariant s → KeepsEffect s (effect_of given what s)
keeps_effect given (directive.SetDepth depth) s kept = keeps_set s (record s.set { depth = depth }) kept
keeps_effect given (directive.SetPasses passes) s kept = keeps_set s (record s.set { passes = passes }) kept
keeps_effect given (directive.SetZones zones) s kept = keeps_set s (record s.set { zones = zones }) kept
keeps_effect given (directive.SetHalvings halvings) s kept = keeps_set s (record s.set { halvings = halvings }) kept
keeps_effect given (directive.ShiftOne v by) s kept = keeps_shift s kept (sum_of_one s.mesh v by s.asked) (one_well v by s)
keeps_effect given (directive.ShiftAll by) s kept = keeps_shift s kept (sum_of_all s.mesh (λ v. by) s.asked) (all_well (λ v. by) s)
keeps_effect given (directive.Drive name) s kept = keeps_drive given s kept
keeps_effect given (directive.Solid v) s kept = keeps_solid s v kept (is_some (finite.get s.mesh.points v)) refl
keeps_effect given directive.Step s kept = keeps_step_effect s kept (first_outside s.mesh s.asked) refl
keeps_effect given (directive.Pass kind) s kept = keeps_pass (passed_lines kind s) (passed_mesh kind s) s kept (pass_keeps kind s kept.now.good)
keeps_effect given directive.Fit s kept = keeps_fit given s kept
keeps_effect given directive.Save s kept = ((saved_well (standing s) kept.now.good, tt), refl, record { now = kept.now; groups = kept.groups })
keeps_effect given directive.Group s kept = ((tt, tt), refl, record { now = kept.now; groups = (kept.now, kept.groups) })
keeps_effect given directive.Close s kept = keeps_close s kept s.groups refl

-- edits that are asked for
keeps_edits : (asked : List Asked) (s : State) → IsRunInvariant s → KeepsEffect s (edits_effect asked s)
keeps_edits asked s kept = keeps_pass (edited_lines asked s) (edited_mesh asked s) s kept (edits_keep asked s kept.now.good)

pub edits_run : EditsKeepTheRun
edits_run asked s kept = keeps_edits asked s kept

pub kept_edited : (asked : List Asked) (s : State) → IsRunInvariant s → IsRunInvariant (after_edits asked s)
kept_edited asked s kept = (keeps_edits asked s kept).2

-- a group that is taken back
keeps_undo : (s : State) → IsRunInvariant s → (groups : List Group) → s.groups ≡ groups → KeepsEffect s (undo_effect groups s)
keeps_undo s kept [] e = (tt, refl, kept)
keeps_undo s kept (group ∷ outer) e =
    let P : List Group → Type 0 = λ l. AllByRecursion (λ g. IsAskedWell g.mesh g.asked) l in
    let those : AllByRecursion (λ g. IsAskedWell g.mesh g.asked) (group ∷ outer) = subst P e kept.groups in
    let made : closed false (map (λ g. g.mesh) s.groups) (standing s) ≡ standing (taken_back group outer s) =
    ap (λ (l : List Mesh). closed false l (standing s)) (ap (λ (l : List Group). map (λ g. g.mesh) l) e) in
    let Q : Replay → Type 0 = λ r. IsValidSurface r.mesh in
    ((subst Q (sym made) those.0.good, tt), made, record { now = those.0; groups = those.1 })

pub undo_run : UndoKeepsTheRun
undo_run s kept = keeps_undo s kept s.groups refl

pub kept_undone : (s next : State) (lines : List LogLine) → IsRunInvariant s → undo_effect s.groups s ≡ Proceeds lines next → IsRunInvariant next
kept_undone s next lines kept goes = let P : Effect → Type 0 = λ t. KeepsEffect s t in (subst P goes (keeps_undo s kept s.groups refl)).2

-- an effect that is taken leads to where a run stands well
pub kept_next : (given : Answer) (what : Directive) (s next : State) (lines : List LogLine) → IsRunInvariant s → effect_of given what s ≡ Proceeds lines next → IsRunInvariant next
kept_next given what s next lines kept goes = let P : Effect → Type 0 = λ t. KeepsEffect s t in (subst P goes (keeps_effect given what s kept)).2

keeps_and_then : (line : ℕ) (s : State) (t : Effect) (next : State → ExpectedLog) → KeepsEffect s t → ((n : State) → IsRunInvariant n → LogIsSafe (standing n) (next n).lines) → LogIsSafe (standing s) (and_then line t next).lines
keeps_and_then line s (Proceeds lines n) next k h =
    let P : Replay → Type 0 = λ r. LogIsSafe r (next n).lines in keeps_append lines (next n).lines (standing s) k.0 (subst P (sym k.1) (h n k.2))
keeps_and_then line s (Refused why) next k h = (tt, tt)
keeps_and_then line s (Unanswered lines) next k h = keeps_append lines [] (standing s) k tt

pub keeps_told : (answers : Answers) (steps : List Placed) (s : State) → IsRunInvariant s → LogIsSafe (standing s) (log_from answers steps s).lines
keeps_told answers [] s kept = (tt, tt)
keeps_told answers (p ∷ steps) s kept =
    keeps_and_then p.line s (effect_of (first answers) p.what s) (log_from (later answers) steps) (keeps_effect (first answers) p.what s kept) (λ n k. keeps_told (later answers) steps n k)

-- ---- where the directives begin

pub kept_start : (m : Mesh) → IsValidSurface m → IsRunInvariant (start m)
kept_start m good = record { now = record { good = good; names = names_at_first m (no_shifts m) refl; still = rest_of_still m (no_shifts m) (none_asked m (finite.keys m.points)) }; groups = tt }
