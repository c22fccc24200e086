use Rattle.std.proofs.Common.{lit<, arith}
use Rattle.job_card.proofs.Lines.{no_mark_good}
use Rattle.job_card.proofs.parser.blank.Goals as goal

pub returns : goal.returns
returns c = record {
  program = record { major = lit< tt; minor = lit< tt; patch = lit< tt };
  decimals = omega arith;
  mesh = no_mark_good;
  steps = no_mark_good;
  log = no_mark_good;
}
