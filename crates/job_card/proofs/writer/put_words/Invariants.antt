use Rattle.job_card.proofs.Written.{WordsLeft}
use Rattle.job_card.proofs.writer.put_words.Given as goal

abbrev pub invariant-loop-word : goal.invariant-loop-word
invariant-loop-word l = WordsLeft l.initial.into.items l.words l.word-index l.into.items
