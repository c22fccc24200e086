use Rattle.std.proofs.Common.{◌≡◌, ◌++◌, drop}
use Rattle.std.specs.List.{filter}
use Rattle.std.specs.Map.{keys_of}
use Rattle.box_tree.specs.Overlapping.{overlaps_apart}
use Rattle.pair_candidates.proofs.asked_tree.pick.Given as goal

-- those picked so far, and those of the boxes that are left, are all
abbrev pub invariant-loop-e : goal.invariant-loop-e
invariant-loop-e l =
    l.into.items ++ keys_of (filter (λ e. overlaps_apart l.at l.a l.b e.1) (drop l.e-index l.near))
    ≡ l.fn.into.items ++ keys_of (filter (λ e. overlaps_apart l.at l.a l.b e.1) l.near)
