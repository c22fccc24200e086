use Rattle.line_text.specs.Remaining.{lines_left}
use Rattle.line_text.proofs.LineCuts.{few_lines}
use Rattle.line_text.proofs.text_lines.Lines.new.Goals as goal

pub returns-clause-few : goal.returns-clause-few
unfolding lines_left
returns-clause-few c = few_lines 1 c.args.bytes.now
