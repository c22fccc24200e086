use Rattle.std.proofs.Common.{◌≡◌, drop}
use Rattle.track_held.specs.Folding.{last_told}
use Rattle.track_held.proofs.fold_closure.last_told.Given as goal

-- the last of all is the last of those to come
abbrev pub invariant-loop-answer : goal.invariant-loop-answer
invariant-loop-answer l = last_told l.told (drop l.answer-index l.answers) ≡ last_told l.fn.none l.answers
