use Rattle.std.proofs.Common.{subst}
use Rattle.cell_grid.specs.Cells.{nth_cell}
use Rattle.cell_grid.specs.Filed.{held, IsFoundIn}
use Rattle.cell_grid.proofs.entries.put_along.Goals as goal
use borrow.Author.Count.{below_more}

pub loop-n-preserved : goal.loop-n-preserved
loop-n-preserved c =
    let inv = c.loop-n.invariant in
    let put = c.in_ok-put_at.ensures in
    let cells = c.put_at.new.cells in
    let k = c.args.k in
    record {
      done = below_more (λ n. IsFoundIn k.item k.around (held cells (nth_cell c.args.s.now n))) c.loop-n.n
          (λ n h q meets. put.keeps (nth_cell c.args.s.now n) q k.item (inv.done n h q meets))
          (subst (λ at. IsFoundIn k.item k.around (held cells at)) c.nth_cell.ensures put.ok);
      keeps = λ at q i found. put.keeps at q i (inv.keeps at q i found);
    }

pub returns-in_err-put_at-clause-keeps : goal.returns-in_err-put_at-clause-keeps
returns-in_err-put_at-clause-keeps c = λ at q i found. c.in_err-put_at.ensures.keeps at q i (c.loop-n.invariant.keeps at q i found)
