use Rattle.std.proofs.Common.{sym, subst}
use Rattle.grid_base.specs.Extents.{IsIn}
use Rattle.edit_check.proofs.path_boxes.united.Goals as goal

pub returns-clause-first : goal.returns-clause-first
returns-clause-first c p h = subst (λ e. IsIn e p) (sym c.of.ensures) (c.united.ensures.first p (subst (λ e. IsIn e p) (sym c.extent.ensures) h))

pub returns-clause-second : goal.returns-clause-second
returns-clause-second c p h = subst (λ e. IsIn e p) (sym c.of.ensures) (c.united.ensures.second p (subst (λ e. IsIn e p) (sym c.extent-2.ensures) h))
