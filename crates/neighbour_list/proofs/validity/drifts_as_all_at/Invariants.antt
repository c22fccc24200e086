use Rattle.std.specs.Prelude.{slice_get, IfSome}
use Rattle.std.specs.List.{AllWithin}
use Rattle.neighbour_list.specs.Clusters.{BoxesServe}
use Rattle.neighbour_list.proofs.validity.drifts_as_all_at.Given as goal

-- those so far serve
abbrev pub invariant-loop-k : goal.invariant-loop-k
invariant-loop-k l = AllWithin (λ k. IfSome (slice_get l.boxes k) (BoxesServe l.skin l.a)) l.places 0 l.k-index
