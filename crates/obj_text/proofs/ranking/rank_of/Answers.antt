use Rattle.std.proofs.Common.{ℕ, arith}
use Rattle.std.specs.Prelude.{nat_le}
use Rattle.std.proofs.lemmas.List.Sums.{length-filter, count_by-le-length}
use Rattle.obj_text.proofs.ranking.rank_of.Goals as goal

pub overflow_cast-result : goal.overflow_cast-result
overflow_cast-result c = let p = λ (u : ℕ). nat_le u c.args.v in omega (arith, c.rank.ensures, length-filter p c.args.ids.now, count_by-le-length p c.args.ids.now, c.requires.few)
