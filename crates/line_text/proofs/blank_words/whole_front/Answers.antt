use Rattle.std.proofs.Common.{sym, ◌∙◌, arith}
use Rattle.line_text.proofs.Fronts.{plain_front, minus_front}
use Rattle.line_text.proofs.blank_words.whole_front.Goals as goal

pub returns-then-begins_with-clause-value : goal.returns-then-begins_with-clause-value
returns-then-begins_with-clause-value c =
    let found = c.in_ok-size.ensures in
    minus_front c.args.line.now c.split_at.result.1.now c.blank_len.result c.blank_len.ensures.value c.split_at.ensures.back c.split_at-then-begins_with.result.1.now c.in_ok-size.count c.in_ok-size.size c.split_at-then-begins_with-2.result.1.now (sym c.begins_with.ensures ∙ c.if-begins_with.true) c.split_at-then-begins_with.ensures.back found.ends found.within (found.value (omega arith)) c.split_at-then-begins_with-2.ensures.back

pub returns-clause-value : goal.returns-clause-value
returns-clause-value c =
    let found = c.in_ok-size-2.ensures in
    plain_front c.args.line.now c.split_at.result.1.now c.blank_len.result c.blank_len.ensures.value c.split_at.ensures.back c.in_ok-size-2.count c.in_ok-size-2.size c.split_at-2.result.1.now (sym c.begins_with.ensures ∙ c.if-begins_with.false) found.ends found.within (found.value (omega arith)) c.split_at-2.ensures.back
