use Rattle.std.proofs.Common.{subst, sym, IsTrue}
use Rattle.std.proofs.lemmas.Bool.{or_right}
use Rattle.cell_grid.specs.Bounds.{bounds_meet}
use Rattle.cell_grid.specs.Filed.{has, finds, held}
use Rattle.cell_grid.proofs.Shared.{has_number}
use Rattle.cell_grid.proofs.Held.{on_ok}
use Rattle.cell_grid.proofs.entries.file.Goals as goal

pub returns-in-Some-clause-ok : goal.returns-in-Some-clause-ok
returns-in-Some-clause-ok c = on_ok c.put_along.result
    (λ all d q t meet. let n = has_number c.args.cell c.args.at.now c.in-Some.span d c.in-Some.ensures t in
    or_right (has c.args.item c.args.large.now.items) _
    (subst (λ k. IsTrue (finds q c.args.item (held c.put_along.new.cells k))) n.1.1 (all n.0 n.1.0 q (subst (λ b. IsTrue (bounds_meet b q)) (sym c.of-around.ensures) meet))))
    c.put_along.ensures.ok
