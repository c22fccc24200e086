use Rattle.pass_run.proofs.Chosen.{kind_turns}
use Rattle.pass_run.proofs.passes.take_asked.Goals as goal

pub returns-clause-takes : goal.returns-clause-takes
returns-clause-takes g c = kind_turns c.args.terms c.args.asked.now _ _ c.take_turns.result c.take_turns.ensures.takes
