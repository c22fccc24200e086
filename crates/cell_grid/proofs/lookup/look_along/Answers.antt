use Rattle.std.proofs.Common.{◌≡◌, ◌∙◌, ℕ, sym, ap, subst, IsTrue, ⊎_elim, arith, ◌||◌}
use Rattle.std.proofs.lemmas.Bool.{or_left, or_right, cases_lt}
use Rattle.cell_grid.specs.Cells.{nth_cell}
use Rattle.cell_grid.specs.Filed.{has, finds, held}
use Rattle.cell_grid.proofs.Found.{has-put}
use Rattle.cell_grid.proofs.lookup.look_along.Goals as goal

pub loop-n-preserved : goal.loop-n-preserved
loop-n-preserved c =
    let at = c.args.at.now in
    let there = held c.args.cells.now c.nth_cell.result in
    let before = c.loop-n.into.items in
    let after = c.look_at.new.into.items in
    let added : (i : ℕ) → has i after ≡ (has i before || finds at i there) = λ i. has-put at i before there after c.in_ok-look_at.ensures in
    record {
      found = λ n i lt h. ⊎_elim
          (λ below. added i ∙ or_left (has i before) _ (c.loop-n.invariant.found n i below h))
          (λ le. let e : n ≡ c.loop-n.n = omega arith in
          added i ∙ or_right (has i before) _ (subst (λ k. IsTrue (finds at i (held c.args.cells.now k))) (ap (nth_cell c.args.s.now) e ∙ sym c.nth_cell.ensures) h))
          (cases_lt n c.loop-n.n);
      keeps = λ i h. added i ∙ or_left (has i before) _ (c.loop-n.invariant.keeps i h);
    }
