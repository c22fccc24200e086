use Rattle.job_card.proofs.Ends.{is_again}
use Rattle.job_card.proofs.parser.read_card.Goals as goal

pub returns-clause-again : goal.returns-clause-again
returns-clause-again c = is_again c.args.text.now c.read_lines.result c.read_lines.ensures
