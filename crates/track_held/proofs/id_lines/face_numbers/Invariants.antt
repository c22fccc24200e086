use Rattle.std.proofs.Common.{◌≡◌, ◌++◌, drop}
use Rattle.track_held.proofs.id_lines.face_numbers.Given as goal

-- the numbers so far and those to come are all
abbrev pub invariant-loop-f : goal.invariant-loop-f
invariant-loop-f l = l.numbers ++ drop l.f-index l.ids ≡ l.ids
