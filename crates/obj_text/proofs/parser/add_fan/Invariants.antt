use Rattle.std.proofs.Common.{◌≡◌}
use Rattle.line_text.specs.Remaining.{words_left}
use Rattle.obj_text.specs.Views.{fan_from}
use Rattle.obj_text.proofs.parser.add_fan.Given as goal

abbrev pub invariant-loop-word : goal.invariant-loop-word
invariant-loop-word l = fan_from l.read l.line l.a l.last l.faces (words_left l.word-iterator) ≡ fan_from l.read l.line l.a l.b l.initial.faces (words_left l.fn.words)
