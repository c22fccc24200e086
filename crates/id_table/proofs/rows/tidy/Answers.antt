use Rattle.std.proofs.Common.{ap, sym, subst, ◌∙◌}
use Rattle.id_table.specs.Stones.{held_of, buried_of, is_left, RiseFrom}
use Rattle.id_table.proofs.BuriedItems.{held-left, buried-left, rise-filtered}
use Rattle.id_table.proofs.rows.tidy.Goals as goal

pub returns-then-len-left-clause-held : goal.returns-then-len-left-clause-held
returns-then-len-left-clause-held g c = ap held_of c.drop_empty.ensures.items ∙ held-left c.args.items.now.items

pub returns-then-len-left-clause-buried : goal.returns-then-len-left-clause-buried
returns-then-len-left-clause-buried g c = ap buried_of c.drop_empty.ensures.items ∙ buried-left c.args.items.now.items

pub returns-then-len-left-clause-rise : goal.returns-then-len-left-clause-rise
returns-then-len-left-clause-rise g c = λ r. subst (RiseFrom 0) (sym c.drop_empty.ensures.items) (rise-filtered is_left 0 c.args.items.now.items r)
