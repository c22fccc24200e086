use Rattle.std.proofs.Common.{◌≡◌, ◌≤◌, arith, None, Ok, refl, ap, ◌+◌, drop, sym, subst}
use Rattle.std.proofs.lemmas.Result.{err_from_is_err_and}
use Rattle.log_text.specs.declared.Refusal.TheVariants.{StepUse}
use Rattle.log_text.specs.declared.LogLine.TheVariants.{Refused as RefusedLine, End}
use Rattle.outside_io.specs.Outside.{holds_of}
use Rattle.outside_io.proofs.Outsides.{counts_unremembered, counts_then, counts_stopped, counts_whole}
use Rattle.step_choose.specs.Settings.{AreWithinLimits}
use Rattle.track_engine.specs.declared.run_state.RunState.{RunState}
use Rattle.track_engine.specs.State.{State, asked_in}
use Rattle.track_engine.specs.Engines.{state_in}
use Rattle.track_engine.specs.Answered.{known}
use Rattle.track_engine.specs.Invariant.{IsRunInvariant}
use Rattle.track_engine.specs.Targets.{target_of}
use Rattle.track_engine.proofs.SoFars.{Answering, answering_none, goes_on, is_refused, left_as_it_was, effect_part, at_end, finished}
use Rattle.track_engine.proofs.EffectLemmas.{range_here}
use Rattle.track_engine.proofs.engine.Engine.follow.Goals as goal

pub loop-placed-init : goal.loop-placed-init
loop-placed-init g c = record {
  so_far = answering_none _ _ _ _ _;
  ready = c.requires.ready;
  ranges = c.requires.ranges;
  steps = omega arith;
  saved = omega arith;
  counts = counts_whole _ _ _ tt (counts_unremembered {T = Unit {0}} (g.O.Outside.around c.args.outside.now));
}

pub advance-requires-clause-range : goal.advance-requires-clause-range
advance-requires-clause-range g c = (range_here c.args.steps.now c.loop-placed.placed-index c.placed-item.result c.loop-placed-test.true c.placed-item.is c.loop-placed.invariant.ranges).0

pub settle_outside_groups-requires : goal.settle_outside_groups-requires
settle_outside_groups-requires g c = c.in_ok-advance.ensures.ready (ap Ok c.in-None.is)

pub returns-in_err-advance-clause-follows : goal.returns-in_err-advance-clause-follows
returns-in_err-advance-clause-follows g c =
    let p = err_from_is_err_and c.from_residual.result c.from_residual.ensures.1 in
    let fields = known g.F.Fn c.args.terms.now.fields.now g.G.Fn c.args.terms.now.sizing.now in
    let state = state_in g.S.Surface.mesh g.S.Surface.kept in
    let around = g.O.Outside.around in
    rw (p.1, p.2) (effect_part fields (target_of c.args.terms.now.to) c.args.steps.now c.loop-placed.placed-index c.placed-item.result c.loop-placed-test.true c.placed-item.is (state c.args.self.now) (state c.loop-placed.self) (holds_of (around c.args.outside.now)) (holds_of (around c.loop-placed.outside)) (holds_of (around c.advance.new.outside)) c.loop-placed.invariant.so_far (state c.advance.new.self) _ c.in_err-advance.ensures.does.advances)

pub returns-in_err-advance-clause-counts : goal.returns-in_err-advance-clause-counts
returns-in_err-advance-clause-counts g c =
    let p = err_from_is_err_and c.from_residual.result c.from_residual.ensures.1 in
    rw (p.1, p.2) (counts_stopped _ _ _ (counts_then _ _ _ _ _ c.loop-placed.invariant.counts c.in_err-advance.ensures.does.counts))

pub returns-in-Some-clause-follows : goal.returns-in-Some-clause-follows
returns-in-Some-clause-follows g c =
    let fields = known g.F.Fn c.args.terms.now.fields.now g.G.Fn c.args.terms.now.sizing.now in
    let to = target_of c.args.terms.now.to in
    let state = state_in g.S.Surface.mesh g.S.Surface.kept in
    let around = g.O.Outside.around in
    let old = holds_of (around c.args.outside.now) in
    let mid = holds_of (around c.advance.new.outside) in
    let new = holds_of (around c.finish.new.outside) in
    finished fields to (RefusedLine (StepUse c.placed-item.result.line c.in-Some.why)) _ c.args.steps.now (state c.args.self.now) (state c.loop-placed.self) (state c.advance.new.self) old mid new c.finish.result (λ r. refl) (λ r. refl)
    (left_as_it_was c.in_ok-advance.field-0 c.in-Some.why c.in-Some.is c.in_ok-advance.ensures.does.left)
    (is_refused fields to c.args.steps.now c.loop-placed.placed-index c.placed-item.result c.loop-placed-test.true c.placed-item.is (state c.args.self.now) (state c.loop-placed.self) old (holds_of (around c.loop-placed.outside)) mid c.loop-placed.invariant.so_far (state c.advance.new.self) c.in_ok-advance.field-0 c.in-Some.why c.in-Some.is c.in_ok-advance.ensures.does.advances)
    c.finish.ensures.says.nothing_stored.files c.finish.ensures.says.written c.finish.ensures.part c.finish.ensures.ending

pub returns-in-Some-clause-counts : goal.returns-in-Some-clause-counts
returns-in-Some-clause-counts g c = counts_then _ _ _ _ _ (counts_then _ _ _ _ _ c.loop-placed.invariant.counts c.in_ok-advance.ensures.does.counts) c.finish.ensures.says.nothing_stored.counts

pub loop-placed-preserved : goal.loop-placed-preserved
loop-placed-preserved g c =
    let fields = known g.F.Fn c.args.terms.now.fields.now g.G.Fn c.args.terms.now.sizing.now in
    let to = target_of c.args.terms.now.to in
    let state = state_in g.S.Surface.mesh g.S.Surface.kept in
    let around = g.O.Outside.around in
    let left = drop (c.loop-placed.placed-index + 1) c.args.steps.now in
    let old = holds_of (around c.args.outside.now) in
    let mid = holds_of (around c.loop-placed.outside) in
    let new = holds_of (around c.advance.new.outside) in
    let settled = c.settle_outside_groups.ensures in
    let then = state c.advance.new.self in
    let same : state c.settle_outside_groups.new.self ≡ then =
    λ i. record { mesh = settled.mesh i; asked = asked_in (settled.mesh i) (settled.run i).asked; set = (settled.run i).set; steps = (settled.run i).steps; saved = (settled.run i).saved; groups = settled.groups i } in
    let here = range_here c.args.steps.now c.loop-placed.placed-index c.placed-item.result c.loop-placed-test.true c.placed-item.is c.loop-placed.invariant.ranges in
    let whole = ap Ok c.in-None.is in
    let took = c.in_ok-advance.ensures.ready whole in
    let P : State → Type 0 = λ s. Answering fields to c.args.steps.now left (state c.args.self.now) s old new in
    let Q : State → Type 0 = λ s. IsRunInvariant s in
    let L : RunState → Type 0 = λ run. AreWithinLimits run.set in
    let S : RunState → Type 0 = λ run. run.steps ≤ c.loop-placed.self.run.steps + 1 in
    let M : RunState → Type 0 = λ run. run.saved ≤ c.loop-placed.self.run.saved + 1 in
    let steps = subst S (sym settled.run) (c.in_ok-advance.ensures.does.steps whole) in
    let saved = subst M (sym settled.run) (c.in_ok-advance.ensures.does.saved whole) in
    record {
      so_far = subst P (sym same) (goes_on fields to c.args.steps.now c.loop-placed.placed-index c.placed-item.result c.loop-placed-test.true c.placed-item.is _ _ _ _ _ c.loop-placed.invariant.so_far _ c.in_ok-advance.field-0 c.in-None.is c.in_ok-advance.ensures.does.advances);
      ready = record { invariant = subst Q (sym same) took.invariant; marks = settled.marks; limits = subst L (sym settled.run) took.limits };
      ranges = here.1;
      steps = omega (arith, steps);
      saved = omega (arith, saved);
      counts = counts_whole _ _ _ tt (counts_then _ _ _ _ _ c.loop-placed.invariant.counts c.in_ok-advance.ensures.does.counts);
    }

pub returns-clause-follows : goal.returns-clause-follows
returns-clause-follows g c =
    let fields = known g.F.Fn c.args.terms.now.fields.now g.G.Fn c.args.terms.now.sizing.now in
    let to = target_of c.args.terms.now.to in
    let state = state_in g.S.Surface.mesh g.S.Surface.kept in
    let around = g.O.Outside.around in
    let old = holds_of (around c.args.outside.now) in
    let mid = holds_of (around c.loop-placed.outside) in
    let new = holds_of (around c.finish-2.new.outside) in
    finished fields to End None c.args.steps.now (state c.args.self.now) (state c.loop-placed.self) (state c.loop-placed.self) old mid new c.finish-2.result (λ r. refl) (λ r. refl) refl
    (at_end fields to c.args.steps.now c.loop-placed.placed-index (state c.args.self.now) (state c.loop-placed.self) old mid c.loop-placed-test.false c.loop-placed.invariant.so_far)
    c.finish-2.ensures.says.nothing_stored.files c.finish-2.ensures.says.written c.finish-2.ensures.part c.finish-2.ensures.ending

pub returns-clause-counts : goal.returns-clause-counts
returns-clause-counts g c = counts_then _ _ _ _ _ c.loop-placed.invariant.counts c.finish-2.ensures.says.nothing_stored.counts
