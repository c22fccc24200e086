-- An engine whose mesh is as it was, and what is kept of it, stands in the state in which it stood.
use Rattle.std.proofs.Common.{◌≡◌, ℕ, List, sym, ap, subst, ◌∙◌}
use Rattle.mesh_base.specs.Mesh.{Mesh}
use Rattle.track_engine.specs.declared.engine.Engine.{Engine}
use Rattle.track_engine.specs.State.{State, state_of}
use Rattle.track_engine.specs.Engines.{state_in}
use Rattle.track_engine.specs.Invariant.{IsRunInvariant, MarksHold}
use Rattle.track_engine.specs.Ready.{IsReady}
use Rattle.step_choose.specs.Settings.{AreWithinLimits}

module _ {S : Type 0} (mesh : S → Mesh) (kept : S → List Mesh) (old new : Engine S) (run : new.run ≡ old.run) (same : mesh new.mesh ≡ mesh old.mesh) (same_kept : kept new.mesh ≡ kept old.mesh) where
  pub state_left : state_in mesh kept new ≡ state_in mesh kept old
  state_left =
      ap (λ r. state_of (mesh new.mesh) (kept new.mesh) r) run
      ∙ ap (λ (m : Mesh). state_of m (kept new.mesh) old.run) same
      ∙ ap (λ (ks : List Mesh). state_of (mesh old.mesh) ks old.run) same_kept

  pub ready_left : (beyond : ℕ) → IsReady beyond mesh kept old → IsReady beyond mesh kept new
  ready_left beyond ready = record {
    invariant = subst IsRunInvariant (sym state_left) ready.invariant;
    marks = subst (λ r. MarksHold beyond (kept new.mesh) r.groups) (sym run) (subst (λ ks. MarksHold beyond ks old.run.groups) (sym same_kept) ready.marks);
    limits = subst (λ r. AreWithinLimits r.set) (sym run) ready.limits;
  }
