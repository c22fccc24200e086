use Rattle.std.proofs.Common.{not, ◌≡◌, List, [], None, Ok, refl, ap, sym, ◌∙◌, subst, inl}
use Rattle.std.proofs.lemmas.Result.{err_from_is_err_and}
use Rattle.mesh_base.specs.declared.PairName.{PairName}
use Rattle.grid_decided.specs.Decided.{meets_exactly}
use Rattle.mesh_base.specs.Failing.{failing}
use Rattle.mesh_base.specs.Shifts.{Shifts, NameLive, end_in_box}
use Rattle.pair_scan.specs.Solids.{SolidsRest}
use Rattle.mesh_base.proofs.MarksHold.{begins_itself}
use Rattle.log_text.specs.Lines.{text_of_lines}
use Rattle.outside_io.specs.Outside.{written_of}
use Rattle.outside_io.specs.Sink.{appended}
use Rattle.outside_io.proofs.Outsides.{nothing_done, nothing_unremembered, nothing_then, nothing_stopped, nothing_forgotten, nothing_whole}
use Rattle.track_engine.specs.declared.run_state.RunState.{RunState}
use Rattle.track_engine.specs.State.{asked_in, groups_of, state_of}
use Rattle.step_choose.specs.Choice.{way_taken}
use Rattle.step_choose.specs.Settings.{AreWithinLimits}
use Rattle.step_text.specs.declared.Directive.TheVariants.{Step}
use Rattle.track_engine.specs.Answers.{Nothing}
use Rattle.track_engine.specs.Effects.{first_outside, is_whole, hit_lines, step_lines}
use Rattle.track_engine.specs.Groups.{failed_if}
use Rattle.track_engine.specs.Parts.{StepTakes}
use Rattle.track_engine.specs.Placing.{AreLive}
use Rattle.track_engine.proofs.OpenMarks.{groups_failed_along}
use Rattle.track_engine.proofs.StepLemmas.{asked_are_live, all_inside, can_place_taken}
use Rattle.track_engine.proofs.Keeping.{kept_next}
use Rattle.track_engine.proofs.StepTaken.{rest_is, step_begins, step_begins_in_part, step_hits, step_hits_in_part, step_taken, step_in_part, step_told_is}
use Rattle.track_engine.proofs.engine.Engine.step.Goals as goal

pub first_outside-requires : goal.first_outside-requires
first_outside-requires g c =
    let m = g.S.Surface.mesh c.args.self.now.mesh in
    let P : Shifts → Type 0 = λ asked. AreLive m asked in
    subst P (sym (c.as_slice.ensures ∙ c.in_ok-asked.ensures)) (asked_are_live m (asked_in m c.args.self.now.run.asked) c.requires.ready.invariant.now.names)

pub returns-in_err-asked-clause-takes : goal.returns-in_err-asked-clause-takes
returns-in_err-asked-clause-takes g c =
    let p = err_from_is_err_and c.from_residual.result c.from_residual.ensures.1 in
    rw p.1 (inl refl)

pub returns-in_err-asked-clause-nothing_stored : goal.returns-in_err-asked-clause-nothing_stored
returns-in_err-asked-clause-nothing_stored g c =
    let p = err_from_is_err_and c.from_residual.result c.from_residual.ensures.1 in
    rw (p.1, p.2) (nothing_unremembered (g.O.Outside.around c.args.outside.now))

pub returns-in_err-asked-clause-marks : goal.returns-in_err-asked-clause-marks
returns-in_err-asked-clause-marks g c = c.requires.ready.marks

pub returns-in_err-asked-clause-begins : goal.returns-in_err-asked-clause-begins
returns-in_err-asked-clause-begins g c = begins_itself (g.S.Surface.kept c.args.self.now.mesh)

pub asked_hits-requires-clause-named : goal.asked_hits-requires-clause-named
asked_hits-requires-clause-named g c =
    let P : Shifts → Type 0 = λ asked. NameLive (g.S.Surface.mesh c.args.self.now.mesh) asked in
    subst P (sym c.in_ok-asked.ensures) c.requires.ready.invariant.now.names

pub asked_hits-requires-clause-in_box : goal.asked_hits-requires-clause-in_box
asked_hits-requires-clause-in_box g c =
    let m = g.S.Surface.mesh c.args.self.now.mesh in
    let inside : first_outside m (asked_in m c.args.self.now.run.asked) ≡ None = ap (first_outside m) (sym (c.as_slice.ensures ∙ c.in_ok-asked.ensures)) ∙ sym c.first_outside.ensures ∙ c.in_default.is in
    ap (end_in_box m) c.in_ok-asked.ensures ∙ all_inside m (asked_in m c.args.self.now.run.asked) inside

pub choose_by_hits-requires-clause-named : goal.choose_by_hits-requires-clause-named
choose_by_hits-requires-clause-named g c =
    let P : Shifts → Type 0 = λ asked. NameLive (g.S.Surface.mesh c.args.self.now.mesh) asked in
    subst P (sym c.in_ok-asked.ensures) c.requires.ready.invariant.now.names

pub choose_by_hits-requires-clause-solid : goal.choose_by_hits-requires-clause-solid
choose_by_hits-requires-clause-solid g c =
    let P : Shifts → Type 0 = λ asked. SolidsRest (g.S.Surface.mesh c.args.self.now.mesh) asked in
    subst P (sym c.in_ok-asked.ensures) c.requires.ready.invariant.now.still

pub choose_by_hits-requires-clause-in_box : goal.choose_by_hits-requires-clause-in_box
choose_by_hits-requires-clause-in_box g c =
    let m = g.S.Surface.mesh c.args.self.now.mesh in
    let inside : first_outside m (asked_in m c.args.self.now.run.asked) ≡ None = ap (first_outside m) (sym (c.as_slice.ensures ∙ c.in_ok-asked.ensures)) ∙ sym c.first_outside.ensures ∙ c.in_default.is in
    ap (end_in_box m) c.in_ok-asked.ensures ∙ all_inside m (asked_in m c.args.self.now.run.asked) inside

pub returns-in-Some-clause-nothing_stored : goal.returns-in-Some-clause-nothing_stored
returns-in-Some-clause-nothing_stored g c = nothing_done (g.O.Outside.around c.args.outside.now) _

pub returns-in_err-tell-clause-takes : goal.returns-in_err-tell-clause-takes
returns-in_err-tell-clause-takes g c =
    let p = err_from_is_err_and c.from_residual-in_err-tell.result c.from_residual-in_err-tell.ensures.1 in
    let m = g.S.Surface.mesh c.args.self.now.mesh in
    let inside : first_outside m (asked_in m c.args.self.now.run.asked) ≡ None = ap (first_outside m) (sym (c.as_slice.ensures ∙ c.in_ok-asked.ensures)) ∙ sym c.first_outside.ensures ∙ c.in_default.is in
    let s = state_of m (g.S.Surface.kept c.args.self.now.mesh) c.args.self.now.run in
    rw p.1 (step_begins_in_part s inside s p.0 _ _ c.in_err-tell.ensures.says.written)

pub returns-in_err-tell-clause-nothing_stored : goal.returns-in_err-tell-clause-nothing_stored
returns-in_err-tell-clause-nothing_stored g c =
    let p = err_from_is_err_and c.from_residual-in_err-tell.result c.from_residual-in_err-tell.ensures.1 in
    rw (p.1, p.2) (nothing_stopped _ _ _ c.in_err-tell.ensures.says.nothing_stored)

pub returns-in_err-hits-clause-takes : goal.returns-in_err-hits-clause-takes
returns-in_err-hits-clause-takes g c =
    let p = err_from_is_err_and c.from_residual-in_err-hits.result c.from_residual-in_err-hits.ensures.1 in
    let m = g.S.Surface.mesh c.args.self.now.mesh in
    let inside : first_outside m (asked_in m c.args.self.now.run.asked) ≡ None = ap (first_outside m) (sym (c.as_slice.ensures ∙ c.in_ok-asked.ensures)) ∙ sym c.first_outside.ensures ∙ c.in_default.is in
    let s = state_of m (g.S.Surface.kept c.args.self.now.mesh) c.args.self.now.run in
    rw p.1 (step_begins s inside s p.0 _ _ c.in_ok-tell.ensures.says.written)

pub returns-in_err-hits-clause-nothing_stored : goal.returns-in_err-hits-clause-nothing_stored
returns-in_err-hits-clause-nothing_stored g c =
    let p = err_from_is_err_and c.from_residual-in_err-hits.result c.from_residual-in_err-hits.ensures.1 in
    rw (p.1, p.2) (nothing_forgotten _ _ _ c.in_ok-tell.ensures.says.nothing_stored)

pub returns-in_err-hits-clause-marks : goal.returns-in_err-hits-clause-marks
returns-in_err-hits-clause-marks g c = c.requires.ready.marks

pub returns-in_err-hits-clause-begins : goal.returns-in_err-hits-clause-begins
returns-in_err-hits-clause-begins g c = begins_itself (g.S.Surface.kept c.args.self.now.mesh)

pub returns-in_err-say_hits-clause-takes : goal.returns-in_err-say_hits-clause-takes
returns-in_err-say_hits-clause-takes g c =
    let p = err_from_is_err_and c.from_residual-in_err-say_hits.result c.from_residual-in_err-say_hits.ensures.1 in
    let m = g.S.Surface.mesh c.args.self.now.mesh in
    let inside : first_outside m (asked_in m c.args.self.now.run.asked) ≡ None = ap (first_outside m) (sym (c.as_slice.ensures ∙ c.in_ok-asked.ensures)) ∙ sym c.first_outside.ensures ∙ c.in_default.is in
    let s = state_of m (g.S.Surface.kept c.args.self.now.mesh) c.args.self.now.run in
    rw p.1 (step_hits_in_part s inside c.as_slice-2.result.now (c.as_slice-2.ensures ∙ c.in_ok-hits.ensures ∙ ap (λ (a : Shifts). failing meets_exactly (g.S.Surface.mesh c.args.self.now.mesh) a c.args.self.now.run.set.depth) c.in_ok-asked.ensures) s p.0 _ _ _ c.in_ok-tell.ensures.says.written c.in_err-say_hits.ensures.written)

pub returns-in_err-say_hits-clause-nothing_stored : goal.returns-in_err-say_hits-clause-nothing_stored
returns-in_err-say_hits-clause-nothing_stored g c =
    let p = err_from_is_err_and c.from_residual-in_err-say_hits.result c.from_residual-in_err-say_hits.ensures.1 in
    rw (p.1, p.2) (nothing_stopped _ _ _ (nothing_then _ _ _ _ _ c.in_ok-tell.ensures.says.nothing_stored c.in_err-say_hits.ensures.nothing_stored))

pub returns-in_err-say_hits-clause-marks : goal.returns-in_err-say_hits-clause-marks
returns-in_err-say_hits-clause-marks g c = c.requires.ready.marks

pub returns-in_err-say_hits-clause-begins : goal.returns-in_err-say_hits-clause-begins
returns-in_err-say_hits-clause-begins g c = begins_itself (g.S.Surface.kept c.args.self.now.mesh)

pub returns-in_err-choice-clause-takes : goal.returns-in_err-choice-clause-takes
returns-in_err-choice-clause-takes g c =
    let p = err_from_is_err_and c.from_residual-in_err-choice.result c.from_residual-in_err-choice.ensures.1 in
    let m = g.S.Surface.mesh c.args.self.now.mesh in
    let inside : first_outside m (asked_in m c.args.self.now.run.asked) ≡ None = ap (first_outside m) (sym (c.as_slice.ensures ∙ c.in_ok-asked.ensures)) ∙ sym c.first_outside.ensures ∙ c.in_default.is in
    let s = state_of m (g.S.Surface.kept c.args.self.now.mesh) c.args.self.now.run in
    rw p.1 (step_hits s inside c.as_slice-2.result.now (c.as_slice-2.ensures ∙ c.in_ok-hits.ensures ∙ ap (λ (a : Shifts). failing meets_exactly (g.S.Surface.mesh c.args.self.now.mesh) a c.args.self.now.run.set.depth) c.in_ok-asked.ensures) s p.0 _ _ _ c.in_ok-tell.ensures.says.written c.in_ok-say_hits.ensures.written)

pub returns-in_err-choice-clause-nothing_stored : goal.returns-in_err-choice-clause-nothing_stored
returns-in_err-choice-clause-nothing_stored g c =
    let p = err_from_is_err_and c.from_residual-in_err-choice.result c.from_residual-in_err-choice.ensures.1 in
    rw (p.1, p.2) (nothing_forgotten _ _ _ (nothing_then _ _ _ _ _ c.in_ok-tell.ensures.says.nothing_stored c.in_ok-say_hits.ensures.nothing_stored))

pub returns-in_err-choice-clause-marks : goal.returns-in_err-choice-clause-marks
returns-in_err-choice-clause-marks g c = c.requires.ready.marks

pub returns-in_err-choice-clause-begins : goal.returns-in_err-choice-clause-begins
returns-in_err-choice-clause-begins g c = begins_itself (g.S.Surface.kept c.args.self.now.mesh)

pub take_chosen-requires-clause-places : goal.take_chosen-requires-clause-places
take_chosen-requires-clause-places g c = can_place_taken (g.S.Surface.mesh c.args.self.now.mesh) c.in_ok-choice.choice.taken c.in_ok-choice.ensures.names c.in_ok-choice.ensures.ends

pub returns-in_err-take_chosen-clause-takes : goal.returns-in_err-take_chosen-clause-takes
returns-in_err-take_chosen-clause-takes g c =
    let p = err_from_is_err_and c.from_residual-in_err-take_chosen.result c.from_residual-in_err-take_chosen.ensures.1 in
    let m = g.S.Surface.mesh c.args.self.now.mesh in
    let inside : first_outside m (asked_in m c.args.self.now.run.asked) ≡ None = ap (first_outside m) (sym (c.as_slice.ensures ∙ c.in_ok-asked.ensures)) ∙ sym c.first_outside.ensures ∙ c.in_default.is in
    let s = state_of m (g.S.Surface.kept c.args.self.now.mesh) c.args.self.now.run in
    let t = state_of (g.S.Surface.mesh c.take_chosen.new.self.mesh) (g.S.Surface.kept c.take_chosen.new.self.mesh) c.take_chosen.new.self.run in
    rw p.1 (step_in_part s c.in_ok-choice.choice inside (c.in_ok-choice.ensures.hits ∙ ap (λ (a : Shifts). failing meets_exactly (g.S.Surface.mesh c.args.self.now.mesh) a c.args.self.now.run.set.depth) c.in_ok-asked.ensures) (c.in_ok-choice.ensures.way ∙ ap (λ (a : Shifts). way_taken meets_exactly (g.S.Surface.mesh c.args.self.now.mesh) a c.args.self.now.run.set) c.in_ok-asked.ensures) t p.0 _ _ _ _ c.in_ok-tell.ensures.says.written (c.in_ok-say_hits.ensures.written ∙ ap (λ (l : List PairName). appended (written_of (g.O.Outside.around c.tell.new.self)) (text_of_lines (hit_lines l))) (c.as_slice-2.ensures ∙ c.in_ok-hits.ensures ∙ sym c.in_ok-choice.ensures.hits)) c.in_err-take_chosen.ensures.says.written)

pub returns-in_err-take_chosen-clause-nothing_stored : goal.returns-in_err-take_chosen-clause-nothing_stored
returns-in_err-take_chosen-clause-nothing_stored g c =
    let p = err_from_is_err_and c.from_residual-in_err-take_chosen.result c.from_residual-in_err-take_chosen.ensures.1 in
    rw (p.1, p.2) (nothing_stopped _ _ _ (nothing_then _ _ _ _ _ (nothing_then _ _ _ _ _ c.in_ok-tell.ensures.says.nothing_stored c.in_ok-say_hits.ensures.nothing_stored) c.in_err-take_chosen.ensures.says.nothing_stored))

pub returns-clause-takes : goal.returns-clause-takes
returns-clause-takes g c =
    let m = g.S.Surface.mesh c.args.self.now.mesh in
    let inside : first_outside m (asked_in m c.args.self.now.run.asked) ≡ None = ap (first_outside m) (sym (c.as_slice.ensures ∙ c.in_ok-asked.ensures)) ∙ sym c.first_outside.ensures ∙ c.in_default.is in
    let s = state_of m (g.S.Surface.kept c.args.self.now.mesh) c.args.self.now.run in
    let run = c.args.self.now.run in
    let moved = g.S.Surface.mesh c.take_chosen.new.self.mesh in
    let kept = g.S.Surface.kept c.take_chosen.new.self.mesh in
    let fails = not (is_whole c.in_ok-choice.choice.how) in
    let failed = groups_failed_along g.S.Surface.beyond kept (g.S.Surface.kept c.args.self.now.mesh) fails run.groups c.take_chosen.ensures.begins c.requires.ready.marks in
    let still = rest_is s c.in_ok-choice.choice inside (c.in_ok-choice.ensures.hits ∙ ap (λ (a : Shifts). failing meets_exactly (g.S.Surface.mesh c.args.self.now.mesh) a c.args.self.now.run.set.depth) c.in_ok-asked.ensures) (c.in_ok-choice.ensures.way ∙ ap (λ (a : Shifts). way_taken meets_exactly (g.S.Surface.mesh c.args.self.now.mesh) a c.args.self.now.run.set) c.in_ok-asked.ensures) c.requires.ready.invariant moved c.in_ok-take_chosen.ensures.moved in
    let P : RunState → Type 0 = λ now. StepTakes s (state_of moved kept now) (written_of (g.O.Outside.around c.args.outside.now)) (written_of (g.O.Outside.around c.take_chosen.new.outside)) (Ok None) in
    subst P (sym c.in_ok-take_chosen.ensures.run) (step_taken s c.in_ok-choice.choice inside (c.in_ok-choice.ensures.hits ∙ ap (λ (a : Shifts). failing meets_exactly (g.S.Surface.mesh c.args.self.now.mesh) a c.args.self.now.run.set.depth) c.in_ok-asked.ensures) (c.in_ok-choice.ensures.way ∙ ap (λ (a : Shifts). way_taken meets_exactly (g.S.Surface.mesh c.args.self.now.mesh) a c.args.self.now.run.set) c.in_ok-asked.ensures) moved (asked_in moved []) (groups_of kept (failed_if fails run.groups)) _ _ _ _ c.in_ok-take_chosen.ensures.moved still failed c.in_ok-tell.ensures.says.written (c.in_ok-say_hits.ensures.written ∙ ap (λ (l : List PairName). appended (written_of (g.O.Outside.around c.tell.new.self)) (text_of_lines (hit_lines l))) (c.as_slice-2.ensures ∙ c.in_ok-hits.ensures ∙ sym c.in_ok-choice.ensures.hits)) c.in_ok-take_chosen.ensures.says.written)

pub returns-clause-nothing_stored : goal.returns-clause-nothing_stored
returns-clause-nothing_stored g c = nothing_whole _ _ _ _ (nothing_then _ _ _ _ _ (nothing_then _ _ _ _ _ c.in_ok-tell.ensures.says.nothing_stored c.in_ok-say_hits.ensures.nothing_stored) c.in_ok-take_chosen.ensures.says.nothing_stored)

pub returns-in-Some-clause-marks : goal.returns-in-Some-clause-marks
returns-in-Some-clause-marks g c = c.requires.ready.marks

pub returns-in-Some-clause-begins : goal.returns-in-Some-clause-begins
returns-in-Some-clause-begins g c = begins_itself (g.S.Surface.kept c.args.self.now.mesh)

pub returns-in_err-tell-clause-marks : goal.returns-in_err-tell-clause-marks
returns-in_err-tell-clause-marks g c = c.requires.ready.marks

pub returns-in_err-tell-clause-begins : goal.returns-in_err-tell-clause-begins
returns-in_err-tell-clause-begins g c = begins_itself (g.S.Surface.kept c.args.self.now.mesh)

pub returns-in_err-take_chosen-clause-marks : goal.returns-in_err-take_chosen-clause-marks
returns-in_err-take_chosen-clause-marks g c = c.take_chosen.ensures.marks

pub returns-in_err-take_chosen-clause-begins : goal.returns-in_err-take_chosen-clause-begins
returns-in_err-take_chosen-clause-begins g c = c.take_chosen.ensures.begins

pub returns-clause-marks : goal.returns-clause-marks
returns-clause-marks g c = c.take_chosen.ensures.marks

pub returns-clause-begins : goal.returns-clause-begins
returns-clause-begins g c = c.take_chosen.ensures.begins

pub returns-clause-told : goal.returns-clause-told
returns-clause-told g c =
    step_told_is (state_of (g.S.Surface.mesh c.args.self.now.mesh) (g.S.Surface.kept c.args.self.now.mesh) c.args.self.now.run) c.in_ok-choice.choice (c.in_ok-choice.ensures.hits ∙ ap (λ (a : Shifts). failing meets_exactly (g.S.Surface.mesh c.args.self.now.mesh) a c.args.self.now.run.set.depth) c.in_ok-asked.ensures) (c.in_ok-choice.ensures.way ∙ ap (λ (a : Shifts). way_taken meets_exactly (g.S.Surface.mesh c.args.self.now.mesh) a c.args.self.now.run.set) c.in_ok-asked.ensures) c.len.result c.len.ensures

pub returns-in-Some-clause-ready : goal.returns-in-Some-clause-ready
returns-in-Some-clause-ready g c = c.requires.ready

pub returns-clause-ready : goal.returns-clause-ready
returns-clause-ready g c =
    let s = state_of (g.S.Surface.mesh c.args.self.now.mesh) (g.S.Surface.kept c.args.self.now.mesh) c.args.self.now.run in
    let t = state_of (g.S.Surface.mesh c.take_chosen.new.self.mesh) (g.S.Surface.kept c.take_chosen.new.self.mesh) c.take_chosen.new.self.run in
    let takes = returns-clause-takes g c in
    let L : RunState → Type 0 = λ run. AreWithinLimits run.set in
    record {
      invariant = kept_next Nothing Step s t (step_lines s) c.requires.ready.invariant takes.0;
      marks = c.take_chosen.ensures.marks;
      limits = subst L (sym c.in_ok-take_chosen.ensures.run) c.requires.ready.limits;
    }
