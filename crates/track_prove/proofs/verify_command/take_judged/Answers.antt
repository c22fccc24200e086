use Rattle.track_prove.proofs.Lines.{accepted_clear, accepted_told, against_told, bad_is_not_fit}
use Rattle.track_prove.proofs.verify_command.take_judged.Goals as goal

pub take_clear-requires-clause-clear : goal.take_clear-requires-clause-clear
take_clear-requires-clause-clear c = accepted_clear c.args.run.now c.args.line.now c.args.at.now c.args.verdict c.requires.judged c.in-Accepted.is c.accepted_motions_are_clear.ensures

pub returns-in-Accepted-clause-told : goal.returns-in-Accepted-clause-told
returns-in-Accepted-clause-told c = accepted_told c.args.run.now c.args.line.now c.args.at.now c.args.verdict c.requires.judged c.in-Accepted.is c.take_clear.result c.take_clear.ensures.told

pub returns-in_default : goal.returns-in_default
returns-in_default c = record {
  told = against_told c.args.run.now c.args.line.now c.args.at.now c.args.verdict c.requires.judged c.in_default.not-Accepted;
  goes = λ e. absurd (bad_is_not_fit c.args.verdict e);
}
