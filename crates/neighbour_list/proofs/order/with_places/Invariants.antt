use Rattle.std.proofs.Common.{◌≡◌, map, take}
use Rattle.neighbour_list.proofs.order.with_places.Given as goal

-- the corners of those so far
abbrev pub invariant-loop-f : goal.invariant-loop-f
invariant-loop-f l = map (λ k. k.corners) l.placed.items ≡ map (λ f. f.corners) (take l.f-index l.faces)
