use Rattle.std.proofs.Common.{inl, inr, ◌∙◌}
use Rattle.neighbour_list.specs.FivePaths.{starts_of, ends_of}
use Rattle.neighbour_list.proofs.KeptApart.{below_along, above_along}
use Rattle.neighbour_list.proofs.Words.{total_word}
use Rattle.neighbour_list.proofs.directions.keeps_apart.Goals as goal

pub returns-then-are_below : goal.returns-then-are_below
returns-then-are_below c = λ yes.
    let start = below_along c.args.n (starts_of c.args.p.now) _ _ _ _ _
    (total_word c.height.result c.height.ensures.within ∙ c.height.ensures.value)
    (total_word c.height-2.result c.height-2.ensures.within ∙ c.height-2.ensures.value)
    (total_word c.height-3.result c.height-3.ensures.within ∙ c.height-3.ensures.value)
    (total_word c.height-4.result c.height-4.ensures.within ∙ c.height-4.ensures.value)
    (total_word c.height-5.result c.height-5.ensures.within ∙ c.height-5.ensures.value)
    (c.are_below.ensures c.if-are_below.true) in
    let end = below_along c.args.n (ends_of c.args.p.now) _ _ _ _ _
    (total_word c.height-then-are_below.result c.height-then-are_below.ensures.within ∙ c.height-then-are_below.ensures.value)
    (total_word c.height-then-are_below-2.result c.height-then-are_below-2.ensures.within ∙ c.height-then-are_below-2.ensures.value)
    (total_word c.height-then-are_below-3.result c.height-then-are_below-3.ensures.within ∙ c.height-then-are_below-3.ensures.value)
    (total_word c.height-then-are_below-4.result c.height-then-are_below-4.ensures.within ∙ c.height-then-are_below-4.ensures.value)
    (total_word c.height-then-are_below-5.result c.height-then-are_below-5.ensures.within ∙ c.height-then-are_below-5.ensures.value)
    (c.are_below-then-are_below.ensures yes) in
    inl (start, end)

pub returns-then-are_above : goal.returns-then-are_above
returns-then-are_above c = λ yes.
    let start = above_along c.args.n (starts_of c.args.p.now) _ _ _ _ _
    (total_word c.height-6.result c.height-6.ensures.within ∙ c.height-6.ensures.value)
    (total_word c.height-7.result c.height-7.ensures.within ∙ c.height-7.ensures.value)
    (total_word c.height-8.result c.height-8.ensures.within ∙ c.height-8.ensures.value)
    (total_word c.height-9.result c.height-9.ensures.within ∙ c.height-9.ensures.value)
    (total_word c.height-10.result c.height-10.ensures.within ∙ c.height-10.ensures.value)
    (c.are_above.ensures c.if-are_above.true) in
    let end = above_along c.args.n (ends_of c.args.p.now) _ _ _ _ _
    (total_word c.height-then-are_above.result c.height-then-are_above.ensures.within ∙ c.height-then-are_above.ensures.value)
    (total_word c.height-then-are_above-2.result c.height-then-are_above-2.ensures.within ∙ c.height-then-are_above-2.ensures.value)
    (total_word c.height-then-are_above-3.result c.height-then-are_above-3.ensures.within ∙ c.height-then-are_above-3.ensures.value)
    (total_word c.height-then-are_above-4.result c.height-then-are_above-4.ensures.within ∙ c.height-then-are_above-4.ensures.value)
    (total_word c.height-then-are_above-5.result c.height-then-are_above-5.ensures.within ∙ c.height-then-are_above-5.ensures.value)
    (c.are_above-then-are_above.ensures yes) in
    inr (start, end)
