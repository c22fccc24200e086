use Rattle.std.proofs.Common.{◌≡◌, ℕ, Bool, true, false, not, Some, None, Option, refl, sym, ap, subst, ◌∙◌}
use Rattle.std.proofs.lemmas.Bool.{false≢true}
use Rattle.std.specs.Prelude.{slice_get}
use Rattle.std.specs.FinMap as finite
use Rattle.mesh_base.specs.Mesh.{Mesh}
use Rattle.mesh_base.specs.Shifts.{Shifts}
use Rattle.pair_scan.specs.Lookup.{IsPlaceOf}
use Rattle.log_run.specs.declared.replay_state.StepSoFar.{StepSoFar}
use Rattle.log_replay.specs.Moves.{is_named}
use Rattle.log_run.specs.Parts.{StepHolds}
use Rattle.log_run.proofs.StepMoves.{shifts_rise, found_is, place_is, name_at, within_names}
use Rattle.log_run.proofs.ShiftsTold.{not_missing, live_at}
use Rattle.log_run.proofs.step_lines.place_to_move.Goals as goal

-- the place among the live vertices
place_of_key : (m : Mesh) (step : StepSoFar) (listed : Shifts) (v i : ℕ) → StepHolds m step → listed ≡ step.shifts → IsPlaceOf listed v (Some i) → slice_get (finite.keys m.points) i ≡ Some v
place_of_key m step listed v i holds same place =
    place_is m step.shifts step.moves i v place.0 holds.shifts (ap (λ (l : Shifts). slice_get l i) (sym same) ∙ place.1) (found_is listed v place.0 place.2)

-- whether it is named
name_is : (m : Mesh) (step : StepSoFar) (v i : ℕ) (b : Bool) → StepHolds m step → slice_get (finite.keys m.points) i ≡ Some v → Some b ≡ slice_get step.named i → b ≡ is_named step.moves v
name_is m step v i b holds at read =
    let e : Some b ≡ Some (is_named step.moves v) = read ∙ name_at m step.named step.moves i v holds.named at in
    cc

not_false : (b : Bool) → not b ≡ false → b ≡ true
not_false true e = refl
not_false false e = sym e

pub place_of-requires : goal.place_of-requires
place_of-requires g c = shifts_rise (g.S.Surface.mesh c.args.mesh.now) c.as_slice.result.now c.args.step.now.moves (c.as_slice.ensures ∙ c.requires.shifts)

pub returns-in_default-clause-may : goal.returns-in_default-clause-may
returns-in_default-clause-may g c =
    let m = g.S.Surface.mesh c.args.mesh.now in
    let P : Option ℕ → Type 0 = λ o. IsPlaceOf c.as_slice.result.now c.args.s.now.v o in
    (λ e. absurd (false≢true e), λ may. absurd (not_missing m c.as_slice.result.now c.args.step.now.moves c.args.s.now.v (c.as_slice.ensures ∙ c.requires.shifts) (subst P c.in_default.is c.place_of.ensures) may.live))

pub is_set-requires : goal.is_set-requires
is_set-requires g c =
    let m = g.S.Surface.mesh c.args.mesh.now in
    let at = place_of_key m c.args.step.now c.as_slice.result.now c.args.s.now.v c.in-Some.place c.requires c.as_slice.ensures c.in-Some.ensures in
    within_names m c.args.step.now.named c.args.step.now.moves c.in-Some.place c.args.s.now.v c.requires.named at

pub returns-then-is_set-clause-may : goal.returns-then-is_set-clause-may
returns-then-is_set-clause-may g c =
    let m = g.S.Surface.mesh c.args.mesh.now in
    let at = place_of_key m c.args.step.now c.as_slice.result.now c.args.s.now.v c.in-Some.place c.requires c.as_slice.ensures c.in-Some.ensures in
    let name = name_is m c.args.step.now c.args.s.now.v c.in-Some.place c.is_set.result c.requires at c.is_set.ensures in
    (λ e. absurd (false≢true e), λ may. absurd (false≢true (sym may.first ∙ sym name ∙ c.if-is_set.true)))

pub ends_outside-requires : goal.ends_outside-requires
ends_outside-requires g c =
    let m = g.S.Surface.mesh c.args.mesh.now in
    let at = place_of_key m c.args.step.now c.as_slice.result.now c.args.s.now.v c.in-Some.place c.requires c.as_slice.ensures c.in-Some.ensures in
    live_at m c.in-Some.place c.args.s.now.v at

pub returns-clause-may : goal.returns-clause-may
returns-clause-may g c =
    let m = g.S.Surface.mesh c.args.mesh.now in
    let at = place_of_key m c.args.step.now c.as_slice.result.now c.args.s.now.v c.in-Some.place c.requires c.as_slice.ensures c.in-Some.ensures in
    let name = name_is m c.args.step.now c.args.s.now.v c.in-Some.place c.is_set.result c.requires at c.is_set.ensures in (
      λ e. record {
        live = live_at m c.in-Some.place c.args.s.now.v at;
        free = sym c.solid.ensures ∙ c.if-solid.false;
        first = sym name ∙ c.if-is_set.false;
        inside = not_false _ (sym c.ends_outside.ensures ∙ c.if-ends_outside.false);
      },
      λ may. refl,
    )

pub returns-clause-place : goal.returns-clause-place
returns-clause-place g c =
    place_of_key (g.S.Surface.mesh c.args.mesh.now) c.args.step.now c.as_slice.result.now c.args.s.now.v c.in-Some.place c.requires c.as_slice.ensures c.in-Some.ensures
