use Rattle.proof_text.specs.Order.{so_far}
use Rattle.proof_text.specs.Views.{proofs_view, state_view}
use Rattle.proof_text.proofs.TextParts.{PartsLeft-first, PartsLeft-more, PartsLeft-fails}
use Rattle.proof_text.proofs.parser.read.Goals as goal

pub lines-init : goal.lines-init
lines-init c = rw c.new-motions.ensures (PartsLeft-first c.args.bytes.now)

pub lines-preserved : goal.lines-preserved
lines-preserved c = PartsLeft-more c.args.bytes.now (so_far (proofs_view c.lines.motions) (state_view c.lines.state)) c.lines.number c.lines.rest.now c.cut_at.result.0.now c.in-Some.next.now (rw c.in-Some.is at c.cut_at.ensures) c.lines.invariant (so_far (proofs_view c.add_line.new.motions) (state_view c.in-Ok.after)) c.in-Ok.ensures

pub returns-in-Err : goal.returns-in-Err
returns-in-Err c = PartsLeft-fails c.args.bytes.now (so_far (proofs_view c.lines.motions) (state_view c.lines.state)) c.lines.number c.lines.rest.now c.cut_at.result.0.now c.in-Some.next.now (rw c.in-Some.is at c.cut_at.ensures) c.lines.invariant c.in-Err.fault c.in-Err.ensures
