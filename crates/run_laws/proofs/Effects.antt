-- What directives give is in range.
use Rattle.std.proofs.Common.{◌≡◌, ℕ, suc, ◌+◌, ◌≤◌, Bool, true, false, cond, not, is_some, List, [], ◌∷◌, length, take, Option, Some, None, Result, Ok, Err, refl, sym, subst, arith}
use Rattle.std.specs.Prelude.{IfSome}
use Rattle.std.specs.List.{All, AllByRecursion, find}
use Rattle.std.specs.Option.{option_map}
use Rattle.std.specs.FinMap as finite
use Rattle.std.proofs.lemmas.List.Elements.{All-nil, All-cons, All-append, All-filter, recursion_from_All}
use Rattle.grid_base.specs.declared.TheConstants.{SHIFT_MAX, BOX}
use Rattle.grid_base.specs.declared.Shift.{Shift}
use Rattle.grid_base.specs.Points.{is_within}
use Rattle.grid_decided.specs.Decided.{meets_exactly, meets_exactly-is_exact}
use Rattle.mesh_base.specs.declared.ShiftOf.{ShiftOf}
use Rattle.mesh_base.specs.declared.Scale.{Scale}
use Rattle.mesh_base.specs.declared.How.{How}
use Rattle.mesh_base.specs.declared.How.TheVariants.{Whole, Impulse, Zones, Halved, Zero}
use Rattle.mesh_base.specs.declared.UseWhy.{UseWhy}
use Rattle.mesh_base.specs.declared.UseWhy.TheVariants.{ShiftRange}
use Rattle.mesh_base.specs.Mesh.{Mesh, IsSound, IsLiveVertex, is_solid}
use Rattle.mesh_base.specs.Pairs.{edges}
use Rattle.mesh_base.specs.Shifts.{Shifts}
use Rattle.mesh_base.proofs.MovesNamed.{name_once}
use Rattle.mesh_sizing.specs.declared.sizing.Want.{Want}
use Rattle.edit_base.specs.declared.PassKind.{PassKind}
use Rattle.edit_acts.proofs.Found.{found_both}
use Rattle.step_zones.specs.Rounds.{round_labels}
use Rattle.step_choose.specs.Settings.{AreWithinLimits}
use Rattle.step_choose.proofs.Taken.{taken_well}
use Rattle.step_choose.proofs.FirstWay.{taken_first}
use Rattle.step_text.specs.declared.Directive.{Directive}
use Rattle.step_text.specs.declared.Directive.TheVariants as directive
use Rattle.step_text.specs.declared.Placed.{Placed}
use Rattle.step_text.specs.Ranges.{IsInRange, IsPassInRange}
use Rattle.log_text.specs.declared.LogLine.{LogLine}
use Rattle.log_text.specs.declared.LogLine.TheVariants.{Solid, Group as GroupLine, Close, End, Refused as RefusedLine}
use Rattle.log_text.specs.declared.Refusal.TheVariants.{StepUse}
use Rattle.log_read.specs.Laws.{IsPairInRange, IsHowInRange, IsUseInRange}
use Rattle.log_replay.specs.Laws.{HaveLimits, IsWithin}
use Rattle.log_replay.proofs.Limits.{limits-after}
use Rattle.pass_run.specs.PassLines.{terms_of}
use Rattle.run_laws.specs.Names.{IsId, IsBlockInRange}
use Rattle.run_laws.specs.Lines.{MayFollow, AreInRange}
use Rattle.run_laws.proofs.Names.{vertices_in_range, failing_in_range}
use Rattle.run_laws.proofs.Blocks.{blocks_in_range}
use Rattle.run_laws.proofs.Ways.{ways_in_range}
use Rattle.run_laws.proofs.PassLines.{pass_in_range, fit_in_range}
use Rattle.run_laws.proofs.StepLines.{step_in_range, mesh_in_range}
use Rattle.run_laws.specs.Texts.{IsPlacedInRange}
use Rattle.run_laws.proofs.Texts.{pass_told}
use Rattle.track_engine.specs.State.{Group, State, asked_of, is_open, standing}
use Rattle.track_engine.specs.Answers.{Answer, Nothing, NoSuchField, FieldShifts, Wanted, WantedOfFirst, Answers, first, later}
use Rattle.track_engine.specs.Effects.{Effect, Proceeds, Refused, Unanswered, summed, is_beyond, first_beyond, sum_or_range, sum_of_all, drive_effect, fit_effect, fitted_lines, one_summed, sum_at, sum_of_one, moves, moving, end_of, first_outside, hits, taken, step_lines, passed_lines, shift_effect, step_effect, mesh_line, solid_effect, kept_whole, taken_back, close_effect, effect_of, and_then, log_from}
use Rattle.track_engine.specs.Promise.{blocks_moved}
use Rattle.track_engine.proofs.StepLemmas.{all_inside}
use Rattle.track_engine.proofs.Promises.{blocks_of_taken}
use Rattle.track_engine.proofs.Keeping.{kept_next}
use Rattle.track_engine.proofs.Replayed.{effect_replayed}
use Rattle.run_laws.specs.Directives.{HasRoomFor, IsEffectInRange, EffectsAreInRange, LogsAreInRange}

-- each shift is of a live vertex
abbrev AreLive : Mesh → Shifts → Type 0
AreLive m shifts = All (λ s. IsLiveVertex m s.v) shifts

-- ---- the state that a directive leaves has room for one directive less
record GoesOn (s next : State) : Type 0 where
  pub limits : AreWithinLimits next.set
  pub steps : next.steps ≤ s.steps + 1
  pub saved : next.saved ≤ s.saved + 1

abbrev IsGood : Scale → State → Effect → Type 0
IsGood scale s (Proceeds lines next) = AreInRange scale lines × GoesOn s next
IsGood scale s (Refused why) = IsUseInRange why
IsGood scale s (Unanswered lines) = AreInRange scale lines

as_before : (s : State) → AreWithinLimits s.set → GoesOn s s
as_before s limits = record { limits = limits; steps = omega arith; saved = omega arith }

no_lines : (scale : Scale) → AreInRange scale []
no_lines scale = All-nil (MayFollow scale)

one_line : (scale : Scale) (l : LogLine) → MayFollow scale l → AreInRange scale (l ∷ [])
one_line scale l h = All-cons (MayFollow scale) l [] h (All-nil (MayFollow scale))

module _ (scale : Scale) (s : State) (room : HasRoomFor scale 1 s) where
  sound : IsSound s.mesh
  sound = room.kept.now.good.sound

  live : AreLive s.mesh s.asked
  live = (name_once s.mesh s.asked room.kept.now.names).live

  -- a vertex of which something is asked
  found_id : (test : ShiftOf → Bool) → IfSome (option_map (λ a. a.v) (find test s.asked)) IsId
  found_id test = by_answer (find test s.asked) refl
    where
      by_answer : (o : Option ShiftOf) → find test s.asked ≡ o → IfSome (option_map (λ a. a.v) o) IsId
      by_answer (Some a) e = vertices_in_range s.mesh sound a.v (found_both (λ a. IsLiveVertex s.mesh a.v) test s.asked a (recursion_from_All (λ a. IsLiveVertex s.mesh a.v) s.asked live) e).0
      by_answer None e = tt

  by_shift : (r : Result Shifts UseWhy) → ((why : UseWhy) → r ≡ Err why → IsUseInRange why) → IsGood scale s (shift_effect r s)
  by_shift (Ok asked) h = (no_lines scale, record { limits = room.limits; steps = omega arith; saved = omega arith })
  by_shift (Err why) h = h why refl

  one_why : (v : ℕ) (by : Shift) → IsId v → (o : Option ShiftOf) (solid : Bool) (why : UseWhy) → sum_at o solid v by s.asked ≡ Err why → IsUseInRange why
  one_why v by id None solid why e = subst IsUseInRange (same_why _ why e) id
    where
      same_why : (a b : UseWhy) → ◌≡◌ {A = Result Shifts UseWhy} (Err a) (Err b) → a ≡ b
      same_why a b e = cc
  one_why v by id (Some a) true why e = subst IsUseInRange (same_why _ why e) id
    where
      same_why : (a b : UseWhy) → ◌≡◌ {A = Result Shifts UseWhy} (Err a) (Err b) → a ≡ b
      same_why a b e = cc
  one_why v by id (Some a) false why e = by_test (is_within SHIFT_MAX (summed by a)) e
    where
      by_test : (b : Bool) → cond b (Ok (one_summed v by s.asked)) (Err (ShiftRange v)) ≡ Err why → IsUseInRange why
      by_test true e = absurd cc
      by_test false e = let same : ShiftRange v ≡ why = cc in subst IsUseInRange same id

  all_why : (by : ℕ → Shift) (o : Option ℕ) → IfSome o IsId → (why : UseWhy) → sum_or_range o s.mesh by s.asked ≡ Err why → IsUseInRange why
  all_why by None h why e = absurd cc
  all_why by (Some v) h why e = let same : ShiftRange v ≡ why = cc in subst IsUseInRange same h

  by_all : (by : ℕ → Shift) → IsGood scale s (shift_effect (sum_of_all s.mesh by s.asked) s)
  by_all by = by_shift (sum_of_all s.mesh by s.asked) (all_why by (first_beyond s.mesh by s.asked) (found_id (is_beyond s.mesh by)))

  by_drive : (given : Answer) → IsGood scale s (drive_effect given s)
  by_drive (FieldShifts by) = by_all by
  by_drive NoSuchField = tt
  by_drive Nothing = no_lines scale
  by_drive (Wanted wants) = no_lines scale
  by_drive (WantedOfFirst count wants) = no_lines scale

  by_solid : (v : ℕ) → IsId v → (b : Bool) → IsGood scale s (solid_effect b v s)
  by_solid v id true = (one_line scale (Solid v) (id, tt), record { limits = room.limits; steps = omega arith; saved = omega arith })
  by_solid v id false = id

  -- the blocks that move as one
  moved_in_range : (how : How) → All IsBlockInRange (blocks_moved s how)
  moved_in_range (Zones round) = blocks_in_range s.mesh (round_labels meets_exactly s.mesh s.asked s.set.depth round) sound
  moved_in_range Whole = All-nil IsBlockInRange
  moved_in_range (Impulse passes) = All-nil IsBlockInRange
  moved_in_range (Halved times) = All-nil IsBlockInRange
  moved_in_range Zero = All-nil IsBlockInRange

  hits_in_range : All IsPairInRange (hits s)
  unfolding hits
  hits_in_range = failing_in_range meets_exactly s.mesh s.asked s.set.depth sound

  taken_live : first_outside s.mesh s.asked ≡ None → AreLive s.mesh (taken s).taken
  unfolding taken
  taken_live inside =
      let now = room.kept.now in
      (name_once s.mesh _ (taken_well s.mesh s.asked s.set sound now.good.clear now.names (all_inside s.mesh s.asked inside) now.still).named).live

  way_in_range : IsHowInRange scale (taken s).how
  unfolding taken
  way_in_range =
      let now = room.kept.now in
      ways_in_range scale meets_exactly s.mesh s.asked s.set _ _ meets_exactly-is_exact room.within.mesh sound now.good.clear now.names room.limits (taken_first s.mesh s.asked s.set sound now.good.clear now.names)

  lines_of_a_step : first_outside s.mesh s.asked ≡ None → AreInRange scale (step_lines s)
  lines_of_a_step inside =
      let count = room.steps in
      step_in_range scale s.mesh (s.steps + 1) (hits s) (taken s).blocks (moving (taken s).taken) (taken s).how sound (omega arith, omega (arith, count)) hits_in_range
      (let P : List (List ℕ) → Type 0 = λ blocks. All IsBlockInRange blocks in subst P (sym (blocks_of_taken s)) (moved_in_range (taken s).how))
      (All-filter moves (λ a. IsLiveVertex s.mesh a.v) (taken s).taken (taken_live inside)) way_in_range

  by_step : (o : Option ℕ) → first_outside s.mesh s.asked ≡ o → IfSome o IsId → IsGood scale s (step_effect o s)
  by_step (Some v) e h = h
  by_step None e h = (lines_of_a_step e, record { limits = room.limits; steps = omega arith; saved = omega arith })

  by_pass : (kind : PassKind) → IsPassInRange kind → AreInRange scale (passed_lines kind s)
  unfolding passed_lines
  by_pass kind range = pass_in_range scale meets_exactly (terms_of kind s.set.depth (is_open s.groups)) s.mesh sound room.kept.now.good.closed (pass_told kind range)

  all_fitted : (wants : ℕ × ℕ → Want) → AreInRange scale (fitted_lines wants (edges s.mesh) s)
  unfolding fitted_lines
  all_fitted wants = (fit_in_range scale meets_exactly wants s.set.depth (is_open s.groups) s.mesh sound room.kept.now.good.closed).0

  first_fitted : (wants : ℕ × ℕ → Want) (count : ℕ) → AreInRange scale (fitted_lines wants (take count (edges s.mesh)) s)
  unfolding fitted_lines
  first_fitted wants count = (fit_in_range scale meets_exactly wants s.set.depth (is_open s.groups) s.mesh sound room.kept.now.good.closed).1 count

  by_fit : (given : Answer) → IsGood scale s (fit_effect given s)
  by_fit (Wanted wants) = (all_fitted wants, record { limits = room.limits; steps = omega arith; saved = omega arith })
  by_fit (WantedOfFirst count wants) = first_fitted wants count
  by_fit (FieldShifts by) = no_lines scale
  by_fit NoSuchField = no_lines scale
  by_fit Nothing = no_lines scale

  by_close : (groups : List Group) → IsGood scale s (close_effect groups s)
  by_close [] = (no_lines scale, as_before s room.limits)
  by_close (group ∷ outer) = by_test group.failed
    where
      by_test : (b : Bool) → IsGood scale s (Proceeds (Close (not b) ∷ []) (cond b (taken_back group outer s) (kept_whole outer s)))
      by_test true = (one_line scale (Close false) (tt, tt), record { limits = room.limits; steps = omega arith; saved = omega arith })
      by_test false = (one_line scale (Close true) (tt, tt), record { limits = room.limits; steps = omega arith; saved = omega arith })

  effect_good : (given : Answer) (what : Directive) → IsInRange what → IsGood scale s (effect_of given what s)
  effect_good given (directive.SetDepth depth) range = (no_lines scale, record { limits = record { depth = range; passes = room.limits.passes; halvings = room.limits.halvings }; steps = omega arith; saved = omega arith })
  effect_good given (directive.SetPasses passes) range = (no_lines scale, record { limits = record { depth = room.limits.depth; passes = range; halvings = room.limits.halvings }; steps = omega arith; saved = omega arith })
  effect_good given (directive.SetZones zones) range = (no_lines scale, record { limits = record { depth = room.limits.depth; passes = room.limits.passes; halvings = room.limits.halvings }; steps = omega arith; saved = omega arith })
  effect_good given (directive.SetHalvings halvings) range = (no_lines scale, record { limits = record { depth = room.limits.depth; passes = room.limits.passes; halvings = range }; steps = omega arith; saved = omega arith })
  effect_good given (directive.ShiftOne v by) range = by_shift (sum_of_one s.mesh v by s.asked) (one_why v by range (asked_of v s.asked) (is_solid s.mesh v))
  effect_good given (directive.ShiftAll by) range = by_all (λ v. by)
  effect_good given (directive.Drive name) range = by_drive given
  effect_good given (directive.Solid v) range = by_solid v range (is_some (finite.get s.mesh.points v))
  effect_good given directive.Step range = by_step (first_outside s.mesh s.asked) refl (found_id (λ a. not (is_within BOX (end_of s.mesh a))))
  effect_good given (directive.Pass kind) range = (by_pass kind range, record { limits = room.limits; steps = omega arith; saved = omega arith })
  effect_good given directive.Fit range = by_fit given
  effect_good given directive.Save range =
      let count = room.saved in
      (one_line scale (mesh_line s.saved s.mesh) (mesh_in_range scale s.mesh s.saved room.within.mesh sound (omega (arith, count))), record { limits = room.limits; steps = omega arith; saved = omega arith })
  effect_good given directive.Group range = (one_line scale GroupLine (tt, tt), record { limits = room.limits; steps = omega arith; saved = omega arith })
  effect_good given directive.Close range = by_close s.groups

pub effects_in_range : EffectsAreInRange
effects_in_range scale given what s room range = by_effect (effect_of given what s) (effect_good scale s room given what range)
  where
    by_effect : (t : Effect) → IsGood scale s t → IsEffectInRange scale t
    by_effect (Proceeds lines next) good = good.0
    by_effect (Refused why) good = good
    by_effect (Unanswered lines) good = good

-- ---- all directives
fewer : (scale : Scale) (n : ℕ) (s : State) → HasRoomFor scale (suc n) s → HasRoomFor scale 1 s
fewer scale n s room =
    let a = room.steps in
    let b = room.saved in
    record { kept = room.kept; within = room.within; limits = room.limits; steps = omega (arith, a); saved = omega (arith, b) }

-- no line changes the limits of the run's meshes
pub within_next : (scale : Scale) (given : Answer) (d : Directive) (s next : State) (lines : List LogLine) → HaveLimits (IsWithin scale) (standing s) → effect_of given d s ≡ Proceeds lines next → HaveLimits (IsWithin scale) (standing next)
within_next scale given d s next lines within goes =
    subst (HaveLimits (IsWithin scale)) (effect_replayed given d s next lines goes) (limits-after (IsWithin scale) (standing s) lines within)

all_good : (scale : Scale) (answers : Answers) (steps : List Placed) (s : State) → HasRoomFor scale (length steps) s → AllByRecursion IsPlacedInRange steps → AreInRange scale (log_from answers steps s).lines
all_good scale answers [] s room placed = one_line scale End (tt, tt)
all_good scale answers (one ∷ more) s room placed =
    by_effect (effect_of (first answers) one.what s) refl (effect_good scale s (fewer scale (length more) s room) (first answers) one.what placed.0.1) (λ next h. all_good scale (later answers) more next h placed.1)
  where
    by_effect : (t : Effect) → effect_of (first answers) one.what s ≡ t → IsGood scale s t → ((next : State) → HasRoomFor scale (length more) next → AreInRange scale (log_from (later answers) more next).lines) → AreInRange scale (and_then one.line t (log_from (later answers) more)).lines
    by_effect (Proceeds lines next) e good others =
        let on = good.1 in
        let a = room.steps in
        let b = room.saved in
        let c = on.steps in
        let d = on.saved in
        All-append (MayFollow scale) lines (log_from (later answers) more next).lines good.0
        (others next (record { kept = kept_next (first answers) one.what s next lines room.kept e; within = within_next scale (first answers) one.what s next lines room.within e; limits = on.limits; steps = omega (arith, a, c); saved = omega (arith, b, d) }))
    by_effect (Refused why) e good others = one_line scale (RefusedLine (StepUse one.line why)) ((placed.0.0, good), tt)
    by_effect (Unanswered lines) e good others = All-append (MayFollow scale) lines [] good (no_lines scale)

pub logs_in_range : LogsAreInRange
logs_in_range scale answers steps s room placed = all_good scale answers steps s room (recursion_from_All IsPlacedInRange steps placed)
