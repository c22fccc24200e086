use Rattle.std.proofs.Common.{inl, inr, ◌∙◌}
use Rattle.neighbour_list.specs.FivePaths.{starts_of, ends_of}
use Rattle.neighbour_list.proofs.KeptApart.{below_x, above_x}
use Rattle.neighbour_list.proofs.Words.{half_word}
use Rattle.neighbour_list.proofs.axes.x_keeps_apart.Goals as goal

pub returns-then-are_below : goal.returns-then-are_below
returns-then-are_below c = λ yes.
    let start = below_x (starts_of c.args.p.now) _ _ _ _ _
    (half_word c.x.result c.x.ensures.within ∙ c.x.ensures.value)
    (half_word c.x-2.result c.x-2.ensures.within ∙ c.x-2.ensures.value)
    (half_word c.x-3.result c.x-3.ensures.within ∙ c.x-3.ensures.value)
    (half_word c.x-4.result c.x-4.ensures.within ∙ c.x-4.ensures.value)
    (half_word c.x-5.result c.x-5.ensures.within ∙ c.x-5.ensures.value)
    (c.are_below.ensures c.if-are_below.true) in
    let end = below_x (ends_of c.args.p.now) _ _ _ _ _
    (half_word c.x-then-are_below.result c.x-then-are_below.ensures.within ∙ c.x-then-are_below.ensures.value)
    (half_word c.x-then-are_below-2.result c.x-then-are_below-2.ensures.within ∙ c.x-then-are_below-2.ensures.value)
    (half_word c.x-then-are_below-3.result c.x-then-are_below-3.ensures.within ∙ c.x-then-are_below-3.ensures.value)
    (half_word c.x-then-are_below-4.result c.x-then-are_below-4.ensures.within ∙ c.x-then-are_below-4.ensures.value)
    (half_word c.x-then-are_below-5.result c.x-then-are_below-5.ensures.within ∙ c.x-then-are_below-5.ensures.value)
    (c.are_below-then-are_below.ensures yes) in
    inl (start, end)

pub returns-then-are_above : goal.returns-then-are_above
returns-then-are_above c = λ yes.
    let start = above_x (starts_of c.args.p.now) _ _ _ _ _
    (half_word c.x-6.result c.x-6.ensures.within ∙ c.x-6.ensures.value)
    (half_word c.x-7.result c.x-7.ensures.within ∙ c.x-7.ensures.value)
    (half_word c.x-8.result c.x-8.ensures.within ∙ c.x-8.ensures.value)
    (half_word c.x-9.result c.x-9.ensures.within ∙ c.x-9.ensures.value)
    (half_word c.x-10.result c.x-10.ensures.within ∙ c.x-10.ensures.value)
    (c.are_above.ensures c.if-are_above.true) in
    let end = above_x (ends_of c.args.p.now) _ _ _ _ _
    (half_word c.x-then-are_above.result c.x-then-are_above.ensures.within ∙ c.x-then-are_above.ensures.value)
    (half_word c.x-then-are_above-2.result c.x-then-are_above-2.ensures.within ∙ c.x-then-are_above-2.ensures.value)
    (half_word c.x-then-are_above-3.result c.x-then-are_above-3.ensures.within ∙ c.x-then-are_above-3.ensures.value)
    (half_word c.x-then-are_above-4.result c.x-then-are_above-4.ensures.within ∙ c.x-then-are_above-4.ensures.value)
    (half_word c.x-then-are_above-5.result c.x-then-are_above-5.ensures.within ∙ c.x-then-are_above-5.ensures.value)
    (c.are_above-then-are_above.ensures yes) in
    inr (start, end)
