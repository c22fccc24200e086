-- Clusters of which the last is closed.
use Rattle.std.proofs.Common.{⊎_elim, ◌⊎◌, List, [], ◌∷◌, ◌++◌}
use Rattle.std.specs.List.{All}
use Rattle.std.proofs.lemmas.List.Elements.{All-push}
use Rattle.std.proofs.lemmas.List.Quantifiers.{Any-push}
use Rattle.mesh_base.specs.declared.ids.Corners.{Corners}
use Rattle.mesh_base.specs.Placements.{Placement}
use Rattle.neighbour_list.specs.Clusters.{Cluster, HasVertex, HasFace, IsCovered, AreAt}
use Rattle.neighbour_list.proofs.Apart.{any_before}

pub closed_covers : (full : List Cluster) (last : Cluster) (d : Corners) → (IsCovered full d ⊎ HasFace last d) → IsCovered (full ++ last ∷ []) d
closed_covers full last d h = ⊎_elim
    (λ covered. any_before (λ refs. HasFace refs d) full (last ∷ []) covered)
    (λ face. Any-push (λ refs. HasFace refs d) full last face) h

pub closed_at : (at : Placement) (full : List Cluster) (last : Cluster) → All (AreAt at) full → AreAt at last → All (AreAt at) (full ++ last ∷ [])
closed_at at full last h i = All-push (AreAt at) full last h i

pub face_kept : (old new : Cluster) (d : Corners) → ((u : _) → HasVertex old u → HasVertex new u) → HasFace old d → HasFace new d
face_kept old new d kept h = record { first = kept _ h.first; second = kept _ h.second; third = kept _ h.third }
