use Rattle.track_prove.proofs.Lines.{goes_same, bare_clear, bare_told, bare_adds, made_here, told_same, adds_same}
use Rattle.track_prove.proofs.prove_command.prove_line.Goals as goal

pub take_clear-requires-clause-clear : goal.take_clear-requires-clause-clear
take_clear-requires-clause-clear c = bare_clear c.args.run.now c.certify.new.self c.args.line.now c.certify.ensures.same c.in_ok-certify.field-0 c.in-None.is c.in_ok-certify.ensures.made

pub returns-in-None-clause-told : goal.returns-in-None-clause-told
returns-in-None-clause-told c = bare_told c.args.run.now c.certify.new.self c.args.line.now c.certify.ensures.same c.in_ok-certify.field-0 c.in-None.is c.in_ok-certify.ensures.made c.take_clear.result c.take_clear.ensures.told

pub returns-in-None-clause-proofs : goal.returns-in-None-clause-proofs
returns-in-None-clause-proofs c = bare_adds c.args.run.now c.certify.new.self c.args.line.now c.certify.ensures.same c.in_ok-certify.field-0 c.in-None.is c.in_ok-certify.ensures.made c.args.number c.args.proofs.now c.take_clear.result c.take_clear.ensures.told

pub take_made-requires-clause-made : goal.take_made-requires-clause-made
take_made-requires-clause-made c = made_here c.args.run.now c.certify.new.self c.args.line.now c.in_ok-certify.field-0 c.in-Some.made c.certify.ensures.same c.in-Some.is c.in_ok-certify.ensures.made

pub returns-in-Some-clause-told : goal.returns-in-Some-clause-told
returns-in-Some-clause-told c = told_same c.args.run.now c.certify.new.self c.args.line.now c.take_made.result c.certify.ensures.same c.take_made.ensures.told

pub returns-in-Some-clause-proofs : goal.returns-in-Some-clause-proofs
returns-in-Some-clause-proofs c = λ e. adds_same c.args.run.now c.certify.new.self c.args.line.now c.args.number c.args.proofs.now c.take_made.new.proofs c.certify.ensures.same (c.take_made.ensures.proofs e)
