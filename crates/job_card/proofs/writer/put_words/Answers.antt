use Rattle.std.proofs.Common.{◌+◌, sym, subst}
use Rattle.job_card.proofs.Written.{WordsLeft, WordsLeft-first, WordsLeft-more, WordsLeft-last}
use Rattle.job_card.proofs.writer.put_words.Goals as goal

pub loop-word-init : goal.loop-word-init
loop-word-init c = WordsLeft-first _ _

pub loop-word-preserved : goal.loop-word-preserved
loop-word-preserved c = subst (WordsLeft c.args.into.now.items c.args.words.now (c.loop-word.word-index + 1)) (sym c.in_ok-put_word.ensures.ok) (WordsLeft-more _ _ _ _ _ c.loop-word-test.true c.loop-word.invariant)

pub returns : goal.returns
returns c = WordsLeft-last c.args.into.now.items c.args.words.now c.loop-word.word-index c.loop-word.into.items c.loop-word-test.false c.loop-word.invariant
