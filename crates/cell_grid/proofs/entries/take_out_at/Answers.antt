use Rattle.std.proofs.Common.{◌≡◌, IsTrue, subst, sym}
use Rattle.cell_grid.specs.declared.cells.Cell.{Cell}
use Rattle.cell_grid.specs.Filed.{finds, held}
use Rattle.cell_grid.proofs.Held.{held-dropped}
use Rattle.cell_grid.proofs.entries.take_out_at.Goals as goal

pub returns-then-take_out_within-clause-keeps : goal.returns-then-take_out_within-clause-keeps
returns-then-take_out_within-clause-keeps c =
    let dropped : (d : Cell) → held c.remove.new.self d ≡ held c.take_out_within.new.cells d = held-dropped c.take_out_within.new.cells c.remove.new.self c.args.at (c.take_out_within.ensures.empty c.if-take_out_within.true) c.remove.ensures.updates.0 in
    λ d q i apart h. subst (λ xs. IsTrue (finds q i xs)) (sym (dropped d)) (c.take_out_within.ensures.keeps d q i apart h)

pub returns-then-take_out_within-clause-elsewhere : goal.returns-then-take_out_within-clause-elsewhere
returns-then-take_out_within-clause-elsewhere c =
    let dropped : (d : Cell) → held c.remove.new.self d ≡ held c.take_out_within.new.cells d = held-dropped c.take_out_within.new.cells c.remove.new.self c.args.at (c.take_out_within.ensures.empty c.if-take_out_within.true) c.remove.ensures.updates.0 in
    λ d q i apart h. subst (λ xs. IsTrue (finds q i xs)) (sym (dropped d)) (c.take_out_within.ensures.elsewhere d q i apart h)
