use Rattle.std.proofs.Common.{sym, ◌∙◌}
use Rattle.line_text.specs.Remaining.{words_left}
use Rattle.obj_text.proofs.Fans.{fan_more, fan_fault, fan_end}
use Rattle.obj_text.proofs.parser.add_fan.Goals as goal

pub returns-in-Err : goal.returns-in-Err
returns-in-Err c = sym c.loop-word.invariant ∙ fan_fault c.args.read c.args.line c.args.a c.loop-word.last c.loop-word.faces c.in-Some.word.now (words_left c.loop-word.word-iterator) (words_left c.next.new.self) c.in-Some.ensures.steps c.in-Err.why (sym c.in-Err.ensures)

pub loop-word-preserved : goal.loop-word-preserved
loop-word-preserved c = rw c.in_ok-push-in-Ok.ensures.ok (sym (fan_more c.args.read c.args.line c.args.a c.loop-word.last c.loop-word.faces c.in-Some.word.now (words_left c.loop-word.word-iterator) (words_left c.next.new.self) c.in-Some.ensures.steps c.in-Ok.next (sym c.in-Ok.ensures)) ∙ c.loop-word.invariant)

pub returns : goal.returns
returns c = sym c.loop-word.invariant ∙ fan_end c.args.read c.args.line c.args.a c.loop-word.last c.loop-word.faces (words_left c.loop-word.word-iterator) c.in-None.ensures.steps.0
