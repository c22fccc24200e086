use Rattle.id_table.proofs.StoneLaws.{found_at, belongs_at, belongs_last}
use Rattle.id_table.proofs.rows.look_up.Goals as goal

pub returns-then-items-likely : goal.returns-then-items-likely
returns-then-items-likely g c = found_at c.args.items.now c.args.id c.guess-likely.result c.index-items-likely.result c.if-likely-items.true c.index-items-likely.is c.if-items-likely.true

pub lower_near-at-requires : goal.lower_near-at-requires
lower_near-at-requires g c = c.requires

pub returns-then-items-at : goal.returns-then-items-at
returns-then-items-at g c = found_at c.args.items.now c.args.id c.lower_near-at.result c.index-items-at.result c.if-at-items.true c.index-items-at.is c.if-items-at.true

pub returns-else-items-at : goal.returns-else-items-at
returns-else-items-at g c = belongs_at c.args.items.now c.args.id c.lower_near-at.result c.index-items-at.result c.lower_near-at.ensures c.if-at-items.true c.index-items-at.is c.if-items-at.false

pub returns-else-at-items : goal.returns-else-at-items
returns-else-at-items g c = belongs_last c.args.items.now c.args.id c.lower_near-at.result c.lower_near-at.ensures c.if-at-items.false
