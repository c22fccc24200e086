use Rattle.std.proofs.Common.{◌≡◌, eqb, sym, ap, ◌∙◌, arith, ◌++◌, ◌∷◌}
use Rattle.std.specs.List.{slice_split, join_with_byte}
use Rattle.std.proofs.lemmas.List.Splits.{join_with_byte-slice_split}
use Rattle.std.proofs.lemmas.Fmt.{decimal_injective}
use Rattle.job_card.proofs.Cuts.{two_same}
use Rattle.job_card.proofs.WordLaws.{decimals_parts, small, same_name}
use Rattle.job_card.proofs.words.decimals_of.Goals as goal

pub returns-in_default : goal.returns-in_default
returns-in_default c = λ n le e. c.in_default.ensures _ _ (ap (slice_split (λ b. eqb b 32)) e ∙ decimals_parts n le)

pub returns-in_default-number_of : goal.returns-in_default-number_of
returns-in_default-number_of c = λ n le e.
    let s = two_same _ _ _ _ (sym c.in-Some.ensures ∙ ap (slice_split (λ b. eqb b 32)) e ∙ decimals_parts n le) in
    c.in_default-number_of.ensures n (small n le) s.second

pub returns-then-n-from : goal.returns-then-n-from
returns-then-n-from c = λ n le e.
    let s = two_same _ _ _ _ (sym c.in-Some.ensures ∙ ap (slice_split (λ b. eqb b 32)) e ∙ decimals_parts n le) in
    let found = c.in-Some-number_of.ensures in
    let same : c.in-Some-number_of.n ≡ n = decimal_injective c.in-Some-number_of.n n found.0 (small n le) (sym found.1 ∙ s.second) in
    let over = c.if-n-from.true in
    omega (arith, over, same, le, c.from.ensures)

pub returns : goal.returns
returns c =
    let text = sym (join_with_byte-slice_split 32 c.args.line.now) ∙ ap (join_with_byte 32) c.in-Some.ensures in
    let name = same_name c.in-Some.name.now c.as_slice.result.now c.ne.result c.ne.ensures c.if-ne.false ∙ c.as_slice.ensures in
    let found = c.in-Some-number_of.ensures in
    (omega (arith, c.if-n-from.false, c.from.ensures), text ∙ (λ i. name i ++ 32 ∷ found.1 i))
