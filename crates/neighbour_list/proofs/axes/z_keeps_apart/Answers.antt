use Rattle.std.proofs.Common.{inl, inr, ◌∙◌}
use Rattle.neighbour_list.specs.FivePaths.{starts_of, ends_of}
use Rattle.neighbour_list.proofs.KeptApart.{below_z, above_z}
use Rattle.neighbour_list.proofs.Words.{half_word}
use Rattle.neighbour_list.proofs.axes.z_keeps_apart.Goals as goal

pub returns-then-are_below : goal.returns-then-are_below
returns-then-are_below c = λ yes.
    let start = below_z (starts_of c.args.p.now) _ _ _ _ _
    (half_word c.z.result c.z.ensures.within ∙ c.z.ensures.value)
    (half_word c.z-2.result c.z-2.ensures.within ∙ c.z-2.ensures.value)
    (half_word c.z-3.result c.z-3.ensures.within ∙ c.z-3.ensures.value)
    (half_word c.z-4.result c.z-4.ensures.within ∙ c.z-4.ensures.value)
    (half_word c.z-5.result c.z-5.ensures.within ∙ c.z-5.ensures.value)
    (c.are_below.ensures c.if-are_below.true) in
    let end = below_z (ends_of c.args.p.now) _ _ _ _ _
    (half_word c.z-then-are_below.result c.z-then-are_below.ensures.within ∙ c.z-then-are_below.ensures.value)
    (half_word c.z-then-are_below-2.result c.z-then-are_below-2.ensures.within ∙ c.z-then-are_below-2.ensures.value)
    (half_word c.z-then-are_below-3.result c.z-then-are_below-3.ensures.within ∙ c.z-then-are_below-3.ensures.value)
    (half_word c.z-then-are_below-4.result c.z-then-are_below-4.ensures.within ∙ c.z-then-are_below-4.ensures.value)
    (half_word c.z-then-are_below-5.result c.z-then-are_below-5.ensures.within ∙ c.z-then-are_below-5.ensures.value)
    (c.are_below-then-are_below.ensures yes) in
    inl (start, end)

pub returns-then-are_above : goal.returns-then-are_above
returns-then-are_above c = λ yes.
    let start = above_z (starts_of c.args.p.now) _ _ _ _ _
    (half_word c.z-6.result c.z-6.ensures.within ∙ c.z-6.ensures.value)
    (half_word c.z-7.result c.z-7.ensures.within ∙ c.z-7.ensures.value)
    (half_word c.z-8.result c.z-8.ensures.within ∙ c.z-8.ensures.value)
    (half_word c.z-9.result c.z-9.ensures.within ∙ c.z-9.ensures.value)
    (half_word c.z-10.result c.z-10.ensures.within ∙ c.z-10.ensures.value)
    (c.are_above.ensures c.if-are_above.true) in
    let end = above_z (ends_of c.args.p.now) _ _ _ _ _
    (half_word c.z-then-are_above.result c.z-then-are_above.ensures.within ∙ c.z-then-are_above.ensures.value)
    (half_word c.z-then-are_above-2.result c.z-then-are_above-2.ensures.within ∙ c.z-then-are_above-2.ensures.value)
    (half_word c.z-then-are_above-3.result c.z-then-are_above-3.ensures.within ∙ c.z-then-are_above-3.ensures.value)
    (half_word c.z-then-are_above-4.result c.z-then-are_above-4.ensures.within ∙ c.z-then-are_above-4.ensures.value)
    (half_word c.z-then-are_above-5.result c.z-then-are_above-5.ensures.within ∙ c.z-then-are_above-5.ensures.value)
    (c.are_above-then-are_above.ensures yes) in
    inr (start, end)
