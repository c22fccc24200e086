use Rattle.std.proofs.Common.{◌≡◌, true, false, eqb, length, List, ℕ, ap, ◌∙◌, arith}
use Rattle.job_card.proofs.Lines.{SoFar-more, cut_text, bad_here, no_end, no_line, too_long}
use Rattle.job_card.proofs.parser.read_lines.Goals as goal

pub returns-in_default : goal.returns-in_default
returns-in_default c = bad_here c.args.text.now c.lines.k c.lines.card c.lines.rest.now c.lines.invariant (omega (arith, c.lines-test.true)) (no_end c.args.text.now c.lines.k c.lines.card c.lines.rest.now c.lines.invariant (omega (arith, c.lines-test.true)) c.cut_at.result.0.now (rw c.in_default.is at c.cut_at.ensures))

pub returns-in_default-with_line : goal.returns-in_default-with_line
returns-in_default-with_line c = bad_here c.args.text.now c.lines.k c.lines.card c.lines.rest.now c.lines.invariant (omega (arith, c.lines-test.true)) (no_line c.args.text.now c.lines.k c.lines.card c.lines.rest.now c.lines.invariant (omega (arith, c.lines-test.true)) c.cut_at.result.0.now c.in-Some.behind.now (rw c.in-Some.is at c.cut_at.ensures) c.in_default-with_line.ensures)

pub lines-preserved : goal.lines-preserved
lines-preserved c = SoFar-more c.args.text.now c.lines.k c.lines.card c.lines.rest.now c.lines.invariant (omega (arith, c.lines-test.true)) c.cut_at.result.0.now c.in-Some.behind.now c.in-Some-with_line.next (cut_text c.lines.rest.now c.cut_at.result.0.now c.in-Some.behind.now (rw c.in-Some.is at c.cut_at.ensures)) c.in-Some-with_line.ensures

pub returns-else-is_empty : goal.returns-else-is_empty
returns-else-is_empty c =
    let e : c.lines.k ≡ 7 = omega (arith, c.lines-test.false, c.lines.auto.k-end) in
    too_long c.args.text.now c.lines.card c.lines.rest.now (rw e at c.lines.invariant) (λ z. let t : false ≡ true = c.if-is_empty.ensures ∙ ap (λ (r : List ℕ). eqb (length r) 0) z in cc)
