use Rattle.std.proofs.Common.{[]}
use Rattle.log_read.proofs.LogParts.{PartsLeft-first}
use Rattle.log_read.proofs.LinesAhead.{checking_more, checking_fails}
use Rattle.log_read.proofs.first_fault.check_log.Goals as goal

pub lines-init : goal.lines-init
lines-init c = ([], PartsLeft-first c.args.scale c.version_of-version.result c.args.bytes.now c.version_of-version.ensures)

pub lines-preserved : goal.lines-preserved
lines-preserved c = checking_more c.args.scale c.version_of-version.result c.args.bytes.now c.lines.number c.lines.rest.now c.cut_at.result.0.now c.in-Some.next.now (rw c.in-Some.is at c.cut_at.ensures) c.lines.invariant c.in-Ok.field-0 c.in-Ok.ensures

pub returns-in-Err : goal.returns-in-Err
returns-in-Err c = checking_fails c.args.scale c.version_of-version.result c.args.bytes.now c.lines.number c.lines.rest.now c.cut_at.result.0.now c.in-Some.next.now (rw c.in-Some.is at c.cut_at.ensures) c.lines.invariant c.in-Err.fault c.in-Err.ensures
