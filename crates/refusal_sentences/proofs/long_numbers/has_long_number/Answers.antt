use Rattle.std.proofs.Common.{◌∙◌, ap, not, arith}
use Rattle.refusal_sentences.proofs.LongNumbersSeen.{seen_in_all, none_without, nowhere_found}
use Rattle.refusal_sentences.proofs.long_numbers.has_long_number.Goals as goal

pub returns-then-is_none : goal.returns-then-is_none
returns-then-is_none c = none_without c.args.decimals c.args.bytes.now (nowhere_found c.args.bytes.now c.memchr3.result (c.is_none.ensures ∙ ap not c.if-is_none.true) c.memchr3.ensures)

pub loop-byte-init : goal.loop-byte-init
loop-byte-init c = record { to_come = seen_in_all c.args.decimals c.args.bytes.now; few = omega arith }
