use Rattle.job_card.proofs.Written.{whole_card}
use Rattle.job_card.proofs.writer.card_text.Goals as goal

pub returns : goal.returns
returns c = whole_card c.args.card.now c.put_head.new.into.items c.put_mark.new.into.items c.put_mark-2.new.into.items c.put_mark-3.new.into.items c.put_words.new.into.items (rw c.new-text.ensures.items at c.in_ok-put_head.ensures) c.in_ok-put_mark.ensures c.in_ok-put_mark-2.ensures c.in_ok-put_mark-3.ensures c.in_ok-put_words.ensures
