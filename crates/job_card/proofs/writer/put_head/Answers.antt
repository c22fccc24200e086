use Rattle.std.proofs.Common.{◌≡◌, ◌++◌, ℕ, List, subst}
use Rattle.std.specs.Prelude.{OnOk}
use Rattle.job_card.proofs.Written.{head_written}
use Rattle.job_card.proofs.writer.put_head.Goals as goal

pub returns : goal.returns
returns c = subst (λ (t : List ℕ). OnOk c.put_words.result (c.put_words.new.into.items ≡ c.args.into.now.items ++ t)) (head_written c.args.card.now.program c.from.result c.args.card.now.decimals c.from.ensures) c.put_words.ensures
