use Rattle.std.proofs.Common.{rules, ℕ, Some, None, ◌∙◌, ap, sym, subst, IsTrue}
use Rattle.std.specs.HashMap.{get}
use Rattle.cell_grid.specs.Cells.{same_cell}
use Rattle.cell_grid.specs.Filed.{finds, held}
use Rattle.std.proofs.lemmas.Bool.{false≢true}
use Rattle.cell_grid.proofs.Held.{kept}
use Rattle.cell_grid.proofs.entries.put_at.Goals as goal

pub returns-in_err-put-clause-keeps : goal.returns-in_err-put-clause-keeps
returns-in_err-put-clause-keeps c = λ d q i. kept c.args.cells.now (c.get_mut.follows.lender c.put.new.list) c.args.at c.put.new.list ((c.get_mut.follows.holds c.put.new.list).3 (search rules)).0 (λ (_ : ℕ). Unit {0}) (Some c.in-Some.list.now) c.in-Some.ensures.value
    (λ p j u. c.put.ensures.keeps p j) d q i tt

pub returns-in-Some-clause-keeps : goal.returns-in-Some-clause-keeps
returns-in-Some-clause-keeps c = λ d q i. kept c.args.cells.now (c.get_mut.follows.lender c.put.new.list) c.args.at c.put.new.list ((c.get_mut.follows.holds c.put.new.list).3 (search rules)).0 (λ (_ : ℕ). Unit {0}) (Some c.in-Some.list.now) c.in-Some.ensures.value
    (λ p j u. c.put.ensures.keeps p j) d q i tt

pub returns-clause-keeps : goal.returns-clause-keeps
returns-clause-keeps c = λ d q i h.
    let same = c.get_mut.follows.holds-at-none in
    kept c.get_mut.follows.lender-at-none c.insert.new.self c.args.at c.push.new.self c.in_ok-insert.ensures.updates.0 (λ (_ : ℕ). Unit {0}) None
    (c.in_default.ensures.value ∙ ap (λ m. get same_cell m c.args.at) (sym same))
    (λ p j u f. absurd (false≢true f)) d q i tt (subst (λ m. IsTrue (finds q i (held m d))) (sym same) h)
