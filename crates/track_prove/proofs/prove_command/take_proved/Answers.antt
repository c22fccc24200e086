use Rattle.track_prove.proofs.Lines.{proof_clear, proof_told, proof_adds}
use Rattle.track_prove.proofs.prove_command.take_proved.Goals as goal

pub take_clear-requires-clause-clear : goal.take_clear-requires-clause-clear
take_clear-requires-clause-clear c = proof_clear c.args.run.now c.args.line.now c.args.proof c.requires.made c.accepted_motions_are_clear.ensures

pub returns-clause-told : goal.returns-clause-told
returns-clause-told c = proof_told c.args.run.now c.args.line.now c.args.proof c.requires.made c.take_clear.result c.take_clear.ensures.told

pub returns-clause-proofs : goal.returns-clause-proofs
returns-clause-proofs c = λ e. proof_adds c.args.run.now c.args.line.now c.args.proof c.requires.made c.args.number c.args.proofs.now c.push.new.self c.in_ok-push.ensures.ok
