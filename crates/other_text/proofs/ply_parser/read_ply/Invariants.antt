use Rattle.std.proofs.Common.{◌≡◌, ◌+◌, ◌≤◌, length}
use Rattle.grid_base.specs.declared.TheConstants.{TEXT_MAX}
use Rattle.line_text.specs.Remaining.{lines_left}
use Rattle.line_text.specs.Texts.{numbered_lines}
use Rattle.other_text.specs.Lines.{lines_add}
use Rattle.other_text.specs.Ply.{words_add, start}
use Rattle.other_text.specs.PlyViews.{progress_of}
use Rattle.other_text.proofs.ply_parser.read_ply.Given as goal

abbrev pub invariant-loop-line : goal.invariant-loop-line
invariant-loop-line l = record {
  same : lines_add (words_add l.decimals) (progress_of l.reading) (lines_left l.line-iterator) ≡ lines_add (words_add l.decimals) start (numbered_lines 1 l.bytes);
  counted : l.count + length (lines_left l.line-iterator) ≡ length (numbered_lines 1 l.bytes);
  small : length l.reading.roles + l.reading.extra ≤ l.count;
  few : length (numbered_lines 1 l.bytes) ≤ TEXT_MAX;
}
