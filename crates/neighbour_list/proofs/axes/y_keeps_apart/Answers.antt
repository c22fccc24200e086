use Rattle.std.proofs.Common.{inl, inr, ◌∙◌}
use Rattle.neighbour_list.specs.FivePaths.{starts_of, ends_of}
use Rattle.neighbour_list.proofs.KeptApart.{below_y, above_y}
use Rattle.neighbour_list.proofs.Words.{half_word}
use Rattle.neighbour_list.proofs.axes.y_keeps_apart.Goals as goal

pub returns-then-are_below : goal.returns-then-are_below
returns-then-are_below c = λ yes.
    let start = below_y (starts_of c.args.p.now) _ _ _ _ _
    (half_word c.y.result c.y.ensures.within ∙ c.y.ensures.value)
    (half_word c.y-2.result c.y-2.ensures.within ∙ c.y-2.ensures.value)
    (half_word c.y-3.result c.y-3.ensures.within ∙ c.y-3.ensures.value)
    (half_word c.y-4.result c.y-4.ensures.within ∙ c.y-4.ensures.value)
    (half_word c.y-5.result c.y-5.ensures.within ∙ c.y-5.ensures.value)
    (c.are_below.ensures c.if-are_below.true) in
    let end = below_y (ends_of c.args.p.now) _ _ _ _ _
    (half_word c.y-then-are_below.result c.y-then-are_below.ensures.within ∙ c.y-then-are_below.ensures.value)
    (half_word c.y-then-are_below-2.result c.y-then-are_below-2.ensures.within ∙ c.y-then-are_below-2.ensures.value)
    (half_word c.y-then-are_below-3.result c.y-then-are_below-3.ensures.within ∙ c.y-then-are_below-3.ensures.value)
    (half_word c.y-then-are_below-4.result c.y-then-are_below-4.ensures.within ∙ c.y-then-are_below-4.ensures.value)
    (half_word c.y-then-are_below-5.result c.y-then-are_below-5.ensures.within ∙ c.y-then-are_below-5.ensures.value)
    (c.are_below-then-are_below.ensures yes) in
    inl (start, end)

pub returns-then-are_above : goal.returns-then-are_above
returns-then-are_above c = λ yes.
    let start = above_y (starts_of c.args.p.now) _ _ _ _ _
    (half_word c.y-6.result c.y-6.ensures.within ∙ c.y-6.ensures.value)
    (half_word c.y-7.result c.y-7.ensures.within ∙ c.y-7.ensures.value)
    (half_word c.y-8.result c.y-8.ensures.within ∙ c.y-8.ensures.value)
    (half_word c.y-9.result c.y-9.ensures.within ∙ c.y-9.ensures.value)
    (half_word c.y-10.result c.y-10.ensures.within ∙ c.y-10.ensures.value)
    (c.are_above.ensures c.if-are_above.true) in
    let end = above_y (ends_of c.args.p.now) _ _ _ _ _
    (half_word c.y-then-are_above.result c.y-then-are_above.ensures.within ∙ c.y-then-are_above.ensures.value)
    (half_word c.y-then-are_above-2.result c.y-then-are_above-2.ensures.within ∙ c.y-then-are_above-2.ensures.value)
    (half_word c.y-then-are_above-3.result c.y-then-are_above-3.ensures.within ∙ c.y-then-are_above-3.ensures.value)
    (half_word c.y-then-are_above-4.result c.y-then-are_above-4.ensures.within ∙ c.y-then-are_above-4.ensures.value)
    (half_word c.y-then-are_above-5.result c.y-then-are_above-5.ensures.within ∙ c.y-then-are_above-5.ensures.value)
    (c.are_above-then-are_above.ensures yes) in
    inr (start, end)
