use Rattle.std.proofs.Common.{[], ap, sym, subst, length, ◌∙◌}
use Rattle.std.specs.FinMap.{len-entries}
use Rattle.mesh_base.proofs.Ordered.{entries-of_sorted}
use Rattle.id_table.specs.Stones.{AreCounted}
use Rattle.id_table.proofs.rows.Rows.new.Goals as goal

pub invariant_of-result : goal.invariant_of-result
invariant_of-result g c = subst (λ xs. AreCounted xs 0) (sym c.new.ensures.items) (record { rise = tt; count = sym (len-entries _ ∙ ap length (entries-of_sorted [] tt)) })
