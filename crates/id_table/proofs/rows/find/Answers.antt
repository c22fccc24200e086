use Rattle.id_table.proofs.StoneLaws.{found_at}
use Rattle.id_table.proofs.rows.find.Goals as goal

pub returns-then-items-front : goal.returns-then-items-front
returns-then-items-front g c = found_at c.args.items.now c.args.id c.after_first-front.result c.index-items-front.result c.if-front-items.true c.index-items-front.is c.if-items-front.true
