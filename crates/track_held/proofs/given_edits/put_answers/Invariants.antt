use Rattle.std.proofs.Common.{◌≡◌, ◌≤◌, ◌++◌, map, take, drop, length}
use Rattle.track_held.specs.Editing.{answer_told}
use Rattle.track_held.proofs.given_edits.put_answers.Given as goal

-- the first of them are put
abbrev pub invariant-loop-i : goal.invariant-loop-i
invariant-loop-i l = record {
  put : l.into ≡ map answer_told (take l.i l.answers) ++ drop l.i l.fn.into;
  low : l.i ≤ length l.answers;
}
