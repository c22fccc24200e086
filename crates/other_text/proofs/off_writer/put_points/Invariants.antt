use Rattle.std.proofs.Common.{◌≡◌, ◌++◌, take}
use Rattle.std.specs.List.{flat_map}
use Rattle.grid_base.specs.Points.{position_of}
use Rattle.line_text.specs.WrittenLines.{line_of_words}
use Rattle.other_text.specs.OffWritten.{point_words}
use Rattle.other_text.proofs.off_writer.put_points.Given as goal

abbrev pub invariant-loop-p : goal.invariant-loop-p
invariant-loop-p l = l.out.items ≡ l.initial.out.items ++ flat_map (λ p. line_of_words (point_words l.decimals (position_of p))) (take l.p-index l.points)
