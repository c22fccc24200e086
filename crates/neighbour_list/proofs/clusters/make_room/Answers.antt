use Rattle.std.proofs.Common.{inl, subst, sym}
use Rattle.neighbour_list.specs.Clusters.{IsCovered}
use Rattle.neighbour_list.proofs.Growing.{closed_covers}
use Rattle.neighbour_list.proofs.clusters.make_room.Goals as goal

pub returns-then-is_full-clause-kept : goal.returns-then-is_full-clause-kept
returns-then-is_full-clause-kept c = λ ok d h. inl (subst (λ fs. IsCovered fs d) (sym (c.close_last.ensures.full ok)) (closed_covers _ _ d h))
