use Rattle.std.proofs.Common.{◌≡◌, ◌-◌, length, map, drop, slice_get}
use Rattle.id_table.specs.Stones.{buried_of}
use Rattle.id_table.proofs.rows.first_buried.Given as goal

-- the first from here on is the first of all
abbrev pub invariant-loop-at : goal.invariant-loop-at
invariant-loop-at g l = slice_get (map (λ e. e.0) (buried_of (drop l.at l.items))) 0 ≡ slice_get (map (λ e. e.0) (buried_of (drop l.fn.from l.items))) 0

abbrev pub decreases-loop-at : goal.decreases-loop-at
decreases-loop-at g l = length l.items - l.at
