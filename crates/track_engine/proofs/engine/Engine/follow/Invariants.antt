use Rattle.std.proofs.Common.{◌≤◌, ◌+◌, drop, Ok}
use Rattle.outside_io.specs.Outside.{Counts, holds_of}
use Rattle.step_text.specs.Ranges.{AreInRange}
use Rattle.track_engine.specs.Answered.{known}
use Rattle.track_engine.specs.Engines.{state_in}
use Rattle.track_engine.specs.Ready.{IsReady}
use Rattle.track_engine.specs.Targets.{target_of}
use Rattle.track_engine.proofs.SoFars.{Answering}
use Rattle.track_engine.proofs.engine.Engine.follow.Given as goal

abbrev pub invariant-loop-placed : goal.invariant-loop-placed
invariant-loop-placed g l =
    let mesh = g.S.Surface.mesh in
    let kept = g.S.Surface.kept in
    let around = g.O.Outside.around in
    record {
      so_far : Answering (known g.F.Fn l.terms.fields.now g.G.Fn l.terms.sizing.now) (target_of l.terms.to) l.steps (drop l.placed-index l.steps) (state_in mesh kept l.fn.self) (state_in mesh kept l.self)
          (holds_of (around l.fn.outside)) (holds_of (around l.outside));
      ready : IsReady g.S.Surface.beyond mesh kept l.self;
      ranges : AreInRange (drop l.placed-index l.steps);
      steps : l.self.run.steps ≤ l.fn.self.run.steps + l.placed-index;
      saved : l.self.run.saved ≤ l.fn.self.run.saved + l.placed-index;
      counts : Counts {T = Unit {0}} (around l.fn.outside) (around l.outside) (Ok tt);
    }
