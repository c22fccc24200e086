use Rattle.std.proofs.Common.{arith}
use Rattle.proof_text.specs.Views.{state_view}
use Rattle.proof_text.proofs.CertificatesAhead.{reading_first, read_nothing, next_fits, read_more, read_some}
use Rattle.proof_text.proofs.proof_reader.read_on.Goals as goal

pub lines-init : goal.lines-init
lines-init c = reading_first c.args.text.now c.split_at.result.1.now (state_view c.args.state) c.args.at c.new-found.result c.new-found.ensures c.split_at.ensures.back c.split_at.ensures.back_len c.requires

pub returns-in-None : goal.returns-in-None
returns-in-None c =
    read_nothing c.args.text.now (state_view c.args.state) c.args.at c.lines.found (state_view c.lines.state) c.lines.rest.now c.lines.invariant c.cut_at.result.0.now (rw c.in-None.is at c.cut_at.ensures)

pub overflow_sub-result : goal.overflow_sub-result
overflow_sub-result c =
    next_fits c.args.text.now (state_view c.args.state) c.args.at c.lines.found (state_view c.lines.state) c.lines.rest.now c.lines.invariant c.cut_at.result.0.now c.in-Some.next.now (rw c.in-Some.is at c.cut_at.ensures)
    c.take_part.new.found c.in_ok-state-in-Some.state c.in_ok-state-in-Some.ensures

pub lines-preserved : goal.lines-preserved
lines-preserved c =
    read_more c.args.text.now (state_view c.args.state) c.args.at c.lines.found (state_view c.lines.state) c.lines.rest.now c.lines.invariant c.cut_at.result.0.now c.in-Some.next.now (rw c.in-Some.is at c.cut_at.ensures)
    c.take_part.new.found c.in_ok-state-in-Some.state c.in_ok-state-in-Some.ensures (omega (arith, c.len.ensures, c.if-len-gt0.false))

pub returns-then-len-gt0 : goal.returns-then-len-gt0
returns-then-len-gt0 c =
    read_some c.args.text.now (state_view c.args.state) c.args.at c.lines.found (state_view c.lines.state) c.lines.rest.now c.lines.invariant c.cut_at.result.0.now c.in-Some.next.now (rw c.in-Some.is at c.cut_at.ensures)
    c.take_part.new.found c.in_ok-state-in-Some.state c.in_ok-state-in-Some.ensures (omega (arith, c.len.ensures, c.if-len-gt0.true))
