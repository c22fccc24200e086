use Rattle.std.proofs.Common.{List, refl, ap, sym, subst}
use Rattle.std.specs.Prelude.{IfOk}
use Rattle.mesh_base.specs.Mesh.{Mesh}
use Rattle.mesh_journal.specs.Journal.{mesh_in}
use Rattle.proof_text.specs.Laws.{AreProofs}
use Rattle.proof_text.specs.Plain.{PlainProof}
use Rattle.log_run.specs.Laws.{IsValidState}
use Rattle.log_run.specs.States.{LogState}
use Rattle.track_prove.specs.Doing.{VerifiesLines}
use Rattle.track_prove.proofs.verify_command.verify_lines.Goals as goal

pub verify_each-requires-clause-fresh : goal.verify_each-requires-clause-fresh
verify_each-requires-clause-fresh g c = rw c.new-run.ensures refl

pub verify_each-requires-clause-valid : goal.verify_each-requires-clause-valid
verify_each-requires-clause-valid g c = subst IsValidState (sym c.new-run.ensures) (c.fitting_lines_are_safe.ensures.first (mesh_in c.args.mesh) c.requires.valid)

pub verify_each-requires-clause-order : goal.verify_each-requires-clause-order
verify_each-requires-clause-order g c = subst AreProofs (sym c.in_ok-due.ensures) c.requires.order

pub returns-clause-verifies : goal.returns-clause-verifies
returns-clause-verifies g c =
    let P : Mesh → Type 0 = λ m. IfOk c.verify_each.result (VerifiesLines m c.args.lines c.in_ok-due.due) in
    let Q : List PlainProof → Type 0 = λ ps. IfOk c.verify_each.result (VerifiesLines (mesh_in c.args.mesh) c.args.lines ps) in
    subst Q c.in_ok-due.ensures (subst P (ap (λ (s : LogState). s.replay.mesh) c.new-run.ensures) c.verify_each.ensures.verifies)
