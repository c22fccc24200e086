use Rattle.std.proofs.Common.{ℕ, List, ◌++◌, take}
use Rattle.outside_io.specs.Counted.{AreOf}
use Rattle.outside_io.proofs.line_counts.LineCounts.take_all.Given as goal

abbrev pub invariant-loop-byte : goal.invariant-loop-byte
invariant-loop-byte l = (text : List ℕ) → AreOf l.initial.self text → AreOf l.self (text ++ take l.byte-index l.bytes)
