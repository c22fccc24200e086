use Rattle.std.proofs.Common.{rules}
use Rattle.std.proofs.lemmas.List.Elements.{filter_from_retain}
use Rattle.id_table.specs.Stones.{is_left}
use Rattle.id_table.proofs.rows.drop_empty.Goals as goal

pub returns-clause-items : goal.returns-clause-items
returns-clause-items g c = filter_from_retain _ is_left (λ p x b q h. search rules) _ c.args.items.now.items c.retain.new.self.items c.retain.ensures.filtered
