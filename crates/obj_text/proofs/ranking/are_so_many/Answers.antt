use Rattle.std.proofs.Common.{◌≡◌, ◌<◌, ◌≤◌, ◌-◌, get_or, arith}
use Rattle.std.proofs.lemmas.Bool.{ltb-true}
use Rattle.std.proofs.lemmas.List.{get_or_default}
use Rattle.obj_text.proofs.Ranks.{so_many}
use Rattle.obj_text.proofs.ranking.are_so_many.Goals as goal

pub returns-then-count-ids-2 : goal.returns-then-count-ids-2
returns-then-count-ids-2 c =
    let ids = c.args.ids.now in
    let count = c.args.count in
    let last : get_or ids (count - 1) 0 ≤ c.args.v = omega (arith, c.index-ids-count.is, get_or_default ids (count - 1) c.index-ids-count.result 0 (omega arith)) in
    λ _. so_many ids c.args.v count c.requires.rising (omega arith) (omega arith) last (λ lt. absurd (omega arith))

pub returns : goal.returns
returns c =
    let ids = c.args.ids.now in
    let count = c.args.count in
    let last : get_or ids (count - 1) 0 ≤ c.args.v = omega (arith, c.index-ids-count.is, get_or_default ids (count - 1) c.index-ids-count.result 0 (omega arith)) in
    let next : get_or ids count 0 ≡ c.index-ids-count-2.result = omega (arith, c.index-ids-count-2.is, get_or_default ids count c.index-ids-count-2.result 0 (omega arith)) in
    λ t. let less : c.v.inside.0 < c.next.inside.0 = ltb-true _ _ t in so_many ids c.args.v count c.requires.rising (omega arith) (omega arith) last (λ lt. omega (arith, less, next))
