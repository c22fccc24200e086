use Rattle.std.proofs.Common.{◌==◌, ap, sym, ◌∙◌}
use Rattle.pair_scan.proofs.NoneFail.{by_length}
use Rattle.pair_scan.proofs.scan.has_none.Goals as goal

pub returns : goal.returns
returns c = ap (λ n. n == 0) c.len.ensures ∙ sym (by_length c.args.pairs.now)
