use Rattle.std.proofs.Common.{Bool, true, Result, IfOk, refl, sym, subst}
use Rattle.std.specs.Prelude.{◌↔◌, IsTrue}
use Rattle.grid_base.specs.declared.NoMemory.{NoMemory}
use Rattle.log_run.specs.States.{LogState}
use Rattle.log_run.specs.Fits.{LineFits, MayBeTried}
use Rattle.log_tests.specs.Closed.{AreClosed}
use Rattle.log_tests.proofs.StillClosed.{still_closed}
use Rattle.log_tests.proofs.replays.fits.Goals as goal

pub returns-clause-closed : goal.returns-clause-closed
returns-clause-closed g c e =
    let line = c.args.line.now in
    let old = c.args.run.now in
    let P : LogState → Type 0 = λ s. MayBeTried s.replay.mesh line in
    let Q : Result Bool NoMemory → Type 0 = λ r. IfOk r (λ fits. IsTrue fits ↔ LineFits old line) in
    let fits : IsTrue true ↔ LineFits old line = subst Q e c.take.ensures.fits in
    subst AreClosed (sym (c.take.ensures.taken e))
    (still_closed old line (fits.0 refl) (c.in_ok-may_be_tried.ensures.named refl) (subst P (c.take.ensures.taken e) c.take.ensures.left) c.requires.closed)
