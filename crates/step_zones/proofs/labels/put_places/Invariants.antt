use Rattle.std.proofs.Common.{take}
use Rattle.step_zones.specs.Ranks.{HasPlaces}
use Rattle.step_zones.proofs.labels.put_places.Given as goal

-- the places of the vertices so far are in the list
abbrev pub invariant-loop-v : goal.invariant-loop-v
invariant-loop-v l = HasPlaces l.asked (take l.v-index l.five) l.fn.places.items l.places.items
