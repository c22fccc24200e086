use Rattle.std.proofs.Common.{◌≡◌, ◌++◌, drop}
use Rattle.track_held.proofs.id_lines.vertex_numbers.Given as goal

-- the numbers so far and those to come are all
abbrev pub invariant-loop-v : goal.invariant-loop-v
invariant-loop-v l = l.numbers ++ drop l.v-index l.ids ≡ l.ids
