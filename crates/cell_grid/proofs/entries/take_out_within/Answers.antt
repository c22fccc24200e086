use Rattle.std.proofs.Common.{rules, ◌≢◌, Some, subst, sym, IsTrue, ◌∙◌}
use Rattle.std.proofs.lemmas.Bool.{eqb-true}
use Rattle.std.proofs.lemmas.List.{nil_from_length}
use Rattle.cell_grid.specs.Filed.{finds}
use Rattle.cell_grid.proofs.Held.{held-here, kept, kept_elsewhere, finds-taken_out}
use Rattle.cell_grid.proofs.entries.take_out_within.Goals as goal

pub returns-in-Some-clause-empty : goal.returns-in-Some-clause-empty
returns-in-Some-clause-empty c = λ yes. held-here c.args.cells.now (c.get_mut.follows.lender c.take_out.new.list) c.args.at c.take_out.new.list ((c.get_mut.follows.holds c.take_out.new.list).3 (search rules)).0
    ∙ nil_from_length c.take_out.new.list.items (sym c.take_out.new.list.ok.0 ∙ eqb-true c.take_out.new.list.len 0 (sym c.is_empty.ensures ∙ yes))

pub returns-in-Some-clause-keeps : goal.returns-in-Some-clause-keeps
returns-in-Some-clause-keeps c = λ d q i. kept c.args.cells.now (c.get_mut.follows.lender c.take_out.new.list) c.args.at c.take_out.new.list ((c.get_mut.follows.holds c.take_out.new.list).3 (search rules)).0 (λ j. j ≢ c.args.item) (Some c.in-Some.list.now) c.in-Some.ensures.value
    (λ p j apart h. subst (λ xs. IsTrue (finds p j xs)) (sym c.take_out.ensures) (finds-taken_out p j c.args.item c.in-Some.list.now.items apart h)) d q i

pub returns-in-Some-clause-elsewhere : goal.returns-in-Some-clause-elsewhere
returns-in-Some-clause-elsewhere c = λ d q i. kept_elsewhere c.args.cells.now (c.get_mut.follows.lender c.take_out.new.list) c.args.at c.take_out.new.list ((c.get_mut.follows.holds c.take_out.new.list).3 (search rules)).0 d q i
