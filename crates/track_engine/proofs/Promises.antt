-- What a step promises.
use Rattle.std.proofs.Common.{◌≡◌, ℕ, ◌+◌, suc, ◌==◌, Bool, true, false, cond, List, [], ◌∷◌, length, Option, Some, None, refl, ap, sym, ◌∙◌, subst, arith}
use Rattle.std.specs.Prelude.{◌≢◌, ◌↔◌}
use Rattle.grid_base.specs.Separation.{Passes}
use Rattle.grid_base.proofs.Reflected.{passes_of, of_passes}
use Rattle.std.specs.Option.{option_or, option_map, unwrap_or}
use Rattle.std.specs.List.{find, range_with_len, Contains}
use Rattle.std.proofs.lemmas.List.Elements.{Contains-get_or}
use Rattle.std.proofs.lemmas.Bool.{false≢true, ne_eqb}
use Rattle.grid_decided.specs.Decided.{meets_exactly, meets_exactly-is_exact}
use Rattle.mesh_base.specs.declared.How.{How}
use Rattle.mesh_base.specs.declared.How.TheVariants.{Whole, Impulse, Zero}
use Rattle.mesh_base.specs.Mesh.{Mesh, IsSound}
use Rattle.mesh_base.specs.Pairs.{Pair, IsPair}
use Rattle.mesh_base.specs.Placements.{positions}
use Rattle.mesh_base.specs.declared.PairName.{PairName}
use Rattle.mesh_base.specs.Shifts.{Shifts, moved_by}
use Rattle.mesh_base.specs.Failing.{failing, pair_passes}
use Rattle.step_zones.specs.Rounds.{round_taken}
use Rattle.step_choose.specs.Impulses.{after_passes, fewest_passes}
use Rattle.step_choose.specs.Choice.{Way, way, halving, halved_times, halved_way, impulse_way, round_way, zones_way, all_at_rest, all_pass, way_taken, IsFirstWay, NoneFails}
use Rattle.step_choose.proofs.FirstWay.{taken_first, whole_taken, not_whole_taken}
use Rattle.pair_scan.specs.Failed.{AreFailing, DoesNotPass}
use Rattle.pair_scan.proofs.InOrder.{are_failing}
use Rattle.step_text.specs.declared.Directive.TheVariants as directive
use Rattle.log_text.specs.declared.LogLine.{LogLine}
use Rattle.track_engine.specs.State.{State}
use Rattle.track_engine.specs.Effects.{Effect, Proceeds, Refused, Unanswered, effect_of, step_effect, first_outside, hits, taken, is_whole, step_lines, lines_of_step}
use Rattle.track_engine.specs.Answers.{Answer}
use Rattle.track_engine.specs.Invariant.{IsAskedWell}
use Rattle.track_engine.specs.Promise.{EachPasses, blocks_moved, StepIsTold}

-- ---- where all pairs pass, the asked shifts are taken
all_of_none : {X : Type 0} (xs : List X) → xs ≡ [] → (length xs == 0) ≡ true
all_of_none xs e = ap (λ l. length l == 0) e

pub taken_whole : (s : State) → hits s ≡ [] → taken s ≡ way Whole s.asked
unfolding hits taken
taken_whole s e = whole_taken s.mesh s.asked s.set (all_of_none (failing meets_exactly s.mesh s.asked s.set.depth) e)

-- ---- otherwise they are not
none_of_all : {X : Type 0} (xs : List X) → xs ≢ [] → (length xs == 0) ≡ false
none_of_all [] h = absurd (h refl)
none_of_all (x ∷ xs) h = ne_eqb (suc (length xs)) 0 (λ e. omega arith)

not_whole : (how : How) → is_whole how ≡ false → how ≢ Whole
not_whole how e same = false≢true (sym e ∙ ap is_whole same)

taken_shortened : (s : State) → hits s ≢ [] → (taken s).how ≢ Whole
unfolding hits taken
taken_shortened s h = not_whole (way_taken meets_exactly s.mesh s.asked s.set).how (not_whole_taken s.mesh s.asked s.set (none_of_all (failing meets_exactly s.mesh s.asked s.set.depth) h))

-- ---- the way is the first that applies, and the pairs are those that do not pass
taken_first_way : (s : State) → IsAskedWell s.mesh s.asked → IsFirstWay meets_exactly s.mesh s.asked s.set (taken s).how (taken s).taken
unfolding taken
taken_first_way s well = taken_first s.mesh s.asked s.set well.good.sound well.good.clear well.names

-- only impact zones have blocks, those of the round
abbrev AreMoved : State → Way → Type 0
AreMoved s w = w.blocks ≡ blocks_moved s w.how

pub blocks_of_taken : (s : State) → (taken s).blocks ≡ blocks_moved s (taken s).how
unfolding taken impulse_way zones_way
blocks_of_taken s = by_whole (all_pass meets_exactly s.mesh s.asked s.set.depth)
  where
    by_halving : (o : Option ℕ) → AreMoved s (unwrap_or (option_map (halving s.asked) o) (way Zero (all_at_rest s.asked)))
    by_halving (Some n) = refl
    by_halving None = refl

    halved_at : AreMoved s (unwrap_or (halved_way meets_exactly s.mesh s.asked s.set.depth s.set.halvings) (way Zero (all_at_rest s.asked)))
    halved_at = by_halving (find (λ n. all_pass meets_exactly s.mesh (halved_times n s.asked) s.set.depth) (range_with_len 1 s.set.halvings))

    by_zones : (b : Bool) (o : Option ℕ)
        → AreMoved s (unwrap_or (option_or (cond b (option_map (round_way meets_exactly s.mesh s.asked s.set.depth) o) None) (halved_way meets_exactly s.mesh s.asked s.set.depth s.set.halvings)) (way Zero (all_at_rest s.asked)))
    by_zones true (Some round) = refl
    by_zones true None = halved_at
    by_zones false o = halved_at

    by_passes : (o : Option ℕ)
        → AreMoved s (unwrap_or (option_or (option_map (λ n. way (Impulse n) (after_passes meets_exactly s.mesh s.asked s.set.depth n)) o) (option_or (zones_way meets_exactly s.mesh s.asked s.set.depth s.set.zones) (halved_way meets_exactly s.mesh s.asked s.set.depth s.set.halvings))) (way Zero (all_at_rest s.asked)))
    by_passes (Some n) = refl
    by_passes None = by_zones s.set.zones (round_taken meets_exactly s.mesh s.asked s.set.depth)

    by_whole : (b : Bool)
        → AreMoved s (unwrap_or (option_or (cond b (Some (way Whole s.asked)) None) (option_or (impulse_way meets_exactly s.mesh s.asked s.set.depth s.set.passes) (option_or (zones_way meets_exactly s.mesh s.asked s.set.depth s.set.zones) (halved_way meets_exactly s.mesh s.asked s.set.depth s.set.halvings)))) (way Zero (all_at_rest s.asked)))
    by_whole true = refl
    by_whole false = by_passes (fewest_passes meets_exactly s.mesh s.asked s.set.depth s.set.passes)

hits_failing : (s : State) → IsSound s.mesh → AreFailing s.mesh s.asked s.set.depth (hits s)
unfolding hits
hits_failing s sound = are_failing s.mesh s.asked s.set.depth sound

-- no pair fails exactly where each passes
module _ (m : Mesh) (by : Shifts) (depth : ℕ) (sound : IsSound m) where
  fails_or_not : AreFailing m by depth (failing meets_exactly m by depth)
  fails_or_not = are_failing m by depth sound

  passed : failing meets_exactly m by depth ≡ [] → (p : Pair) → IsPair m p → (b : Bool) → pair_passes meets_exactly depth (moved_by m by) p ≡ b → Passes depth (positions (moved_by m by).start p) (positions (moved_by m by).end p)
  passed none p is true e = passes_of meets_exactly meets_exactly-is_exact depth (positions (moved_by m by).start p) (positions (moved_by m by).end p) e
  passed none p is false e =
      let never : DoesNotPass depth (moved_by m by) p = λ pass. false≢true (sym e ∙ of_passes meets_exactly meets_exactly-is_exact depth (positions (moved_by m by).start p) (positions (moved_by m by).end p) pass) in
      let there = (fails_or_not.each p.name).1 (p.corners, is, never) in
      let nowhere : Contains [] p.name = subst (λ (l : List PairName). Contains l p.name) none there in
      absurd (omega (arith, nowhere.1))

  none_left : EachPasses m depth by → (names : List PairName) → failing meets_exactly m by depth ≡ names → names ≡ []
  none_left each [] e = refl
  none_left each (n ∷ names) e =
      let here : Contains (n ∷ names) n = Contains-get_or (n ∷ names) 0 n (omega arith) in
      let fails = (fails_or_not.each n).0 (subst (λ (l : List PairName). Contains l n) (sym e) here) in
      absurd (fails.2 (each (record { name = n; corners = fails.0 }) fails.1))

  none_where_each : NoneFails meets_exactly m depth by ↔ EachPasses m depth by
  none_where_each = (λ none p is. passed none p is (pair_passes meets_exactly depth (moved_by m by) p) refl, λ each. none_left each (failing meets_exactly m by depth) refl)

-- ---- the lines
lines_told : (s : State) → StepIsTold s (step_lines s)
lines_told s = record {
  unaltered = λ e. ap (λ pairs. lines_of_step (s.steps + 1) pairs (taken s)) e ∙ ap (λ w. lines_of_step (s.steps + 1) [] w) (taken_whole s e);
  altered = taken_shortened s;
  told = refl;
  first_way = taken_first_way s;
  blocks_told = blocks_of_taken s;
  all_hits = hits_failing s;
  all_failing = λ sound by. are_failing s.mesh by s.set.depth sound;
  none_fails = λ sound by. none_where_each s.mesh by s.set.depth sound;
}

effect_told : (s next : State) (lines : List LogLine) (o : Option ℕ) → step_effect o s ≡ Proceeds lines next → StepIsTold s lines
effect_told s next lines None e = let P : List LogLine → Type 0 = λ l. StepIsTold s l in subst P (same_lines e) (lines_told s)
  where
    lines_in : Effect → List LogLine
    lines_in (Proceeds ls n) = ls
    lines_in (Refused why) = []
    lines_in (Unanswered ls) = []

    same_lines : step_effect None s ≡ Proceeds lines next → step_lines s ≡ lines
    same_lines e = ap lines_in e
effect_told s next lines (Some v) e = absurd (goes_not e)
  where
    goes : Effect → Bool
    goes (Proceeds ls n) = true
    goes (Refused why) = false
    goes (Unanswered ls) = false

    goes_not : step_effect (Some v) s ≡ Proceeds lines next → ⊥
    goes_not e = false≢true (ap goes e)

-- a step, wherever it is taken
pub step_is_told : (given : Answer) (s next : State) (lines : List LogLine) → effect_of given directive.Step s ≡ Proceeds lines next → StepIsTold s lines
step_is_told given s next lines e = effect_told s next lines (first_outside s.mesh s.asked) e
