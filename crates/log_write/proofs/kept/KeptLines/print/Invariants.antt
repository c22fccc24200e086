use Rattle.std.proofs.Common.{◌≡◌, ◌-◌, length}
use Rattle.log_write.proofs.kept.KeptLines.print.Given as goal

abbrev pub invariant-loop-self : goal.invariant-loop-self
invariant-loop-self l = (l.self.lines.items ≡ l.initial.self.lines.items) × (l.self.keeps ≡ l.initial.self.keeps)

abbrev pub decreases-loop-self : goal.decreases-loop-self
decreases-loop-self l = length l.self.lines.items - l.self.printed
