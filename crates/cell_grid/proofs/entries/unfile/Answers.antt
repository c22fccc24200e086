use Rattle.std.proofs.Common.{subst, sym, IsTrue, ⊎_elim}
use Rattle.std.proofs.lemmas.Bool.{or_left, or_right, or_cases}
use Rattle.cell_grid.specs.Filed.{has, finds, held}
use Rattle.cell_grid.proofs.Held.{has-taken_out}
use Rattle.cell_grid.proofs.entries.unfile.Goals as goal

pub returns-in-Some : goal.returns-in-Some
returns-in-Some c = λ d q i apart h. ⊎_elim
    (λ in_large. or_left (has i c.take_out_large.new.large.items) _ (subst (λ xs. IsTrue (has i xs)) (sym c.take_out_large.ensures) (has-taken_out i c.args.item c.args.large.now.items apart in_large)))
    (λ at_cell. or_right (has i c.take_out_large.new.large.items) _ (c.take_out_all.ensures d q i apart at_cell))
    (or_cases (has i c.args.large.now.items) (finds q i (held c.args.cells.now d)) h)

pub returns-in_default : goal.returns-in_default
returns-in_default c = λ d q i apart h. ⊎_elim
    (λ in_large. or_left (has i c.take_out_large.new.large.items) _ (subst (λ xs. IsTrue (has i xs)) (sym c.take_out_large.ensures) (has-taken_out i c.args.item c.args.large.now.items apart in_large)))
    (λ at_cell. or_right (has i c.take_out_large.new.large.items) _ at_cell)
    (or_cases (has i c.args.large.now.items) (finds q i (held c.args.cells.now d)) h)
