use Rattle.std.proofs.Common.{[]}
use Rattle.proof_text.specs.Views.{state_view}
use Rattle.proof_text.proofs.TextParts.{PartsLeft-first}
use Rattle.proof_text.proofs.CertificatesAhead.{checking_good, checking_more, checking_fails}
use Rattle.proof_text.proofs.first_fault.check_proof.Goals as goal

pub lines-init : goal.lines-init
lines-init c = ([], PartsLeft-first c.args.bytes.now)

pub check_last-requires-clause-good : goal.check_last-requires-clause-good
check_last-requires-clause-good c = checking_good c.args.bytes.now (state_view c.lines.state) c.lines.number c.lines.rest.now c.lines.invariant

pub pass_line-requires : goal.pass_line-requires
pass_line-requires c = checking_good c.args.bytes.now (state_view c.lines.state) c.lines.number c.lines.rest.now c.lines.invariant

pub returns-in-Err : goal.returns-in-Err
returns-in-Err c =
    checking_fails c.args.bytes.now (state_view c.lines.state) c.lines.number c.lines.rest.now c.cut_at.result.0.now c.in-Some.next.now (rw c.in-Some.is at c.cut_at.ensures) c.lines.invariant c.in-Err.fault c.in-Err.ensures

pub lines-preserved : goal.lines-preserved
lines-preserved c =
    checking_more c.args.bytes.now (state_view c.lines.state) c.lines.number c.lines.rest.now c.cut_at.result.0.now c.in-Some.next.now (rw c.in-Some.is at c.cut_at.ensures) c.lines.invariant c.in-Ok.after c.in-Ok.ensures
