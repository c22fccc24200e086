use Rattle.log_read.proofs.LogParts.{PartsLeft-first, PartsLeft-more, PartsLeft-fails}
use Rattle.log_read.proofs.parser.read_log.Goals as goal

pub lines-init : goal.lines-init
lines-init c = rw c.new-log.ensures (PartsLeft-first c.args.scale c.version_of-version.result c.args.bytes.now c.version_of-version.ensures)

pub lines-preserved : goal.lines-preserved
lines-preserved c = PartsLeft-more c.args.scale c.version_of-version.result c.args.bytes.now c.lines.log c.lines.number c.lines.rest.now c.cut_at.result.0.now c.in-Some.next.now (rw c.in-Some.is at c.cut_at.ensures) c.lines.invariant c.add_line.new.log c.in-Ok.ensures

pub returns-in-Err : goal.returns-in-Err
returns-in-Err c = PartsLeft-fails c.args.scale c.version_of-version.result c.args.bytes.now c.lines.log c.lines.number c.lines.rest.now c.cut_at.result.0.now c.in-Some.next.now (rw c.in-Some.is at c.cut_at.ensures) c.lines.invariant c.in-Err.fault c.in-Err.ensures
