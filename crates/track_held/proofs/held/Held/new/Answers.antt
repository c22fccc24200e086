use Rattle.std.proofs.Common.{List, sym, subst, lit≤}
use Rattle.mesh_base.specs.Mesh.{Mesh}
use Rattle.mesh_base.specs.Valid.{IsValidSurface}
use Rattle.step_choose.specs.Settings.{AreWithinLimits, at_first}
use Rattle.track_engine.specs.Invariant.{IsRunInvariant, MarksHold}
use Rattle.track_engine.specs.State.{State, unsaved}
use Rattle.track_engine.specs.declared.OpenGroup.{OpenGroup}
use Rattle.track_engine.proofs.Keeping.{kept_start}
use Rattle.track_held.proofs.held.Held.new.Goals as goal

kept_unsaved : (m : Mesh) → IsValidSurface m → IsRunInvariant (unsaved m)
kept_unsaved m good = let start = kept_start m good in record { now = start.now; groups = start.groups }

within_at_first : AreWithinLimits at_first
within_at_first = record { depth = lit≤ tt; passes = lit≤ tt; halvings = lit≤ tt }

pub invariant_of-result : goal.invariant_of-result
invariant_of-result g c =
    let P : State → Type 0 = λ s. IsRunInvariant s in
    let Q : List OpenGroup → Type 0 = λ groups. MarksHold g.S.Surface.beyond (g.S.Surface.kept c.in_ok-engine.engine.mesh) groups in
    let R : State → Type 0 = λ s. AreWithinLimits s.set in
    record {
      ready = λ _. record {
        invariant = subst P (sym c.in_ok-engine.ensures.state) (kept_unsaved (g.S.Surface.mesh c.args.mesh) c.requires);
        marks = subst Q (sym c.in_ok-engine.ensures.groups) tt;
        limits = subst R (sym c.in_ok-engine.ensures.state) within_at_first;
      };
    }
