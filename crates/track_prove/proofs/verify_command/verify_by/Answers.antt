use Rattle.std.proofs.Common.{Some}
use Rattle.proof_text.specs.Views.{proof_view}
use Rattle.track_prove.proofs.Lines.{judged_here, found_same, unjudged_told}
use Rattle.track_prove.proofs.verify_command.verify_by.Goals as goal

pub take_judged-requires-clause-judged : goal.take_judged-requires-clause-judged
take_judged-requires-clause-judged c = judged_here c.args.run.now c.judge.new.self c.args.line.now c.args.at.now c.in_ok-verdict.field-0 c.in-Some.verdict c.judge.ensures.same c.in-Some.is c.in_ok-verdict.ensures.verdict

pub returns-in-Some-clause-told : goal.returns-in-Some-clause-told
returns-in-Some-clause-told c = found_same c.args.run.now c.judge.new.self c.args.line.now (Some (proof_view c.args.at.now)) c.take_judged.result c.judge.ensures.same c.take_judged.ensures.told

pub returns-in-None-clause-told : goal.returns-in-None-clause-told
returns-in-None-clause-told c = unjudged_told c.args.run.now c.judge.new.self c.args.line.now c.args.at.now c.in_ok-verdict.field-0 c.judge.ensures.same c.in-None.is c.in_ok-verdict.ensures.verdict c.deny.result c.deny.ensures
