use Rattle.std.proofs.Common.{arith}
use Rattle.line_text.proofs.Digits.{DigitsSoFar-room, DigitsSoFar-below}
use Rattle.line_text.proofs.number.short_number.Goals as goal

pub overflow_mul-n : goal.overflow_mul-n
overflow_mul-n c = let r = DigitsSoFar-room c.args.word.now c.loop-b.b-index c.loop-b.n c.args.most 19 (omega arith) c.requires c.loop-b.invariant in omega (arith, r)

pub overflow_add-n : goal.overflow_add-n
overflow_add-n c = let r = DigitsSoFar-room c.args.word.now c.loop-b.b-index c.loop-b.n c.args.most 19 (omega arith) c.requires c.loop-b.invariant in omega (arith, r)

pub returns-clause-below : goal.returns-clause-below
returns-clause-below c = DigitsSoFar-below c.args.word.now c.loop-b.b-index c.loop-b.n c.args.most (omega arith) c.loop-b.invariant
