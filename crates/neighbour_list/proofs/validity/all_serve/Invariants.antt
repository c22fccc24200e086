use Rattle.std.specs.List.{All, AllWithin}
use Rattle.neighbour_list.specs.Clusters.{BoxesServe}
use Rattle.neighbour_list.proofs.validity.all_serve.Given as goal

-- those so far serve with all
abbrev pub invariant-loop-a : goal.invariant-loop-a
invariant-loop-a l = AllWithin (λ a. All (BoxesServe l.skin a) l.boxes) l.boxes 0 l.a-index
