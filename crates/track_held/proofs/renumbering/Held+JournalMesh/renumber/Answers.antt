use Rattle.std.proofs.Common.{List, sym, ap, subst}
use Rattle.mesh_journal.specs.Journal.{mesh_in, kept_in}
use Rattle.step_choose.specs.declared.Settings.{Settings}
use Rattle.step_choose.specs.Settings.{AreWithinLimits}
use Rattle.track_engine.specs.Invariant.{MarksHold}
use Rattle.track_engine.specs.State.{State}
use Rattle.track_engine.specs.declared.OpenGroup.{OpenGroup}
use Rattle.track_held.proofs.DenseStates.{dense_invariant}
use Rattle.track_held.proofs.renumbering.Held+JournalMesh.renumber.Goals as goal

pub invariant_of-self : goal.invariant_of-self
invariant_of-self c =
    let old = c.args.self.now.engine in
    let made = c.in_ok-dense.dense in
    record {
      ready = λ goes.
          let was = c.args.self.now.ready goes in
          let P : List OpenGroup → Type 0 = λ groups. MarksHold 1 (kept_in made.mesh) groups in
          let Q : Settings → Type 0 = λ set. AreWithinLimits set in
          record {
            invariant = dense_invariant (mesh_in old.mesh) (mesh_in made.mesh) (kept_in made.mesh) made.run was.invariant.now.good (ap (λ (s : State). s.mesh) c.in_ok-dense.ensures.state) c.in_ok-dense.ensures.groups;
            marks = subst P (sym c.in_ok-dense.ensures.groups) tt;
            limits = subst Q (sym c.in_ok-dense.ensures.set) was.limits;
          };
    }
