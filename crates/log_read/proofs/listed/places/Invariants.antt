use Rattle.std.proofs.Common.{length}
use Rattle.line_text.specs.Remaining.{parts_left}
use Rattle.log_read.proofs.Lists.{PlacesLeft}
use Rattle.log_read.proofs.listed.places.Given as goal

abbrev pub invariant-loop-words : goal.invariant-loop-words
invariant-loop-words l = PlacesLeft l.places (parts_left l.words) (parts_left l.initial.words)

abbrev pub decreases-loop-words : goal.decreases-loop-words
decreases-loop-words l = length (parts_left l.words)
