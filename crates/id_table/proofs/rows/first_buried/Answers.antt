use Rattle.std.proofs.Common.{sym, ◌∙◌}
use Rattle.id_table.proofs.BuriedItems.{first_buried_here, first_buried_later}
use Rattle.id_table.proofs.rows.first_buried.Goals as goal

pub returns-then-is_some : goal.returns-then-is_some
returns-then-is_some g c =
    let some = sym c.is_some.ensures ∙ c.if-is_some.true in
    sym (first_buried_here c.args.items.now c.loop-at.at c.index-items-at.result c.index-items-at-then-is_some.result c.loop-at-test.true some) ∙ c.loop-at.invariant

pub loop-at-preserved : goal.loop-at-preserved
loop-at-preserved g c =
    let none = sym c.is_some.ensures ∙ c.if-is_some.false in
    first_buried_later c.args.items.now c.loop-at.at c.index-items-at.result c.loop-at-test.true none ∙ c.loop-at.invariant
