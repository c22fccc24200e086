use Rattle.track_prove.proofs.Lines.{made_at, fails_told}
use Rattle.track_prove.proofs.prove_command.take_made.Goals as goal

pub returns-in-Fails-clause-told : goal.returns-in-Fails-clause-told
returns-in-Fails-clause-told c = fails_told c.args.run.now c.args.line.now c.args.made c.in-Fails.pair c.in-Fails.is c.requires.made

pub take_proved-requires-clause-made : goal.take_proved-requires-clause-made
take_proved-requires-clause-made c = made_at c.args.run.now c.args.line.now c.args.made _ c.in-Proof.is c.requires.made
