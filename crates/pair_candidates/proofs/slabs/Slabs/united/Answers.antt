use Rattle.std.proofs.Common.{◌≡◌, true, sym, subst}
use Rattle.grid_base.specs.Extents.{IsIn}
use Rattle.box_tree.specs.Labels.{has_label}
use Rattle.box_tree.proofs.Labelled.{common_first, common_second}
use Rattle.pair_candidates.proofs.SlabTrees.{has_more}
use Rattle.pair_candidates.proofs.slabs.Slabs.united.Goals as goal

pub returns-clause-first : goal.returns-clause-first
returns-clause-first c = λ across f h. has_more across c.args.self.now _ f
    (λ p k. subst (λ x. IsIn x p) (sym c.of.ensures) (c.united.ensures.first p (subst (λ x. IsIn x p) (sym c.extent.ensures) k)))
    c.united-2.ensures.first c.united-3.ensures.first
    (λ n k. common_first c.args.self.now.labels c.args.other.now.labels n (subst (λ l. has_label l n ≡ true) c.common.ensures k)) h

pub returns-clause-second : goal.returns-clause-second
returns-clause-second c = λ across f h. has_more across c.args.other.now _ f
    (λ p k. subst (λ x. IsIn x p) (sym c.of.ensures) (c.united.ensures.second p (subst (λ x. IsIn x p) (sym c.extent-2.ensures) k)))
    c.united-2.ensures.second c.united-3.ensures.second
    (λ n k. common_second c.args.self.now.labels c.args.other.now.labels n (subst (λ l. has_label l n ≡ true) c.common.ensures k)) h
