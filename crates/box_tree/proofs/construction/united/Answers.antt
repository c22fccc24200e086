use Rattle.std.proofs.Common.{◌≡◌, true, sym, subst}
use Rattle.grid_base.specs.Extents.{IsIn}
use Rattle.box_tree.specs.Labels.{has_label}
use Rattle.box_tree.proofs.Labelled.{common_first, common_second}
use Rattle.box_tree.proofs.construction.united.Goals as goal

pub returns-clause-first : goal.returns-clause-first
returns-clause-first c = record {
  each = λ p k. subst (λ x. IsIn x p) (sym c.of.ensures) (c.united.ensures.first p (subst (λ x. IsIn x p) (sym c.extent.ensures) k));
  labels = λ n k. common_first c.args.e.now.labels c.args.f.now.labels n (subst (λ l. has_label l n ≡ true) c.common.ensures k);
}

pub returns-clause-second : goal.returns-clause-second
returns-clause-second c = record {
  each = λ p k. subst (λ x. IsIn x p) (sym c.of.ensures) (c.united.ensures.second p (subst (λ x. IsIn x p) (sym c.extent-2.ensures) k));
  labels = λ n k. common_second c.args.e.now.labels c.args.f.now.labels n (subst (λ l. has_label l n ≡ true) c.common.ensures k);
}
